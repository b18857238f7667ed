-- The lines of an input that is read line by line, and the command of a line of which the beginning is kept.
use Rattle.std.proofs.Common.{◌≡◌, ◌≢◌, ℕ, suc, ◌-◌, ◌<◌, Bool, true, false, cond, eqb, leb, List, [], ◌∷◌, ◌++◌, length, get_or, map, None, sym, refl, ap, subst, ◌∙◌, arith, ne_eqb, append_assoc}
use Rattle.std.proofs.lemmas.Bool.Decides.{nat_tests}
use Rattle.std.proofs.lemmas.List.{take_all, length-take-le, length-append, get_or_push}
use Rattle.std.proofs.lemmas.List.Elements.{All-head, All-tail}
use Rattle.std.specs.List.{onto_first}
use Rattle.std.specs.Io.{IsEmptyOrEndsWith}
use Rattle.lines.specs.Inputs.{lines_of, kept_of, InOneLine}
use Rattle.lines.specs.Commands.{command_of, command_in}
use Rattle.lines.specs.Words.{words}

-- a byte in front of lines, of which there is one or more, changes none behind the first
front-append : (b : ℕ) (ls ms : List (List ℕ)) → 0 < length ls → onto_first b (ls ++ ms) ≡ onto_first b ls ++ ms
front-append b [] ms some = absurd (omega (arith, some))
front-append b (l ∷ ls) ms some = refl

front_some : (b : ℕ) (ls : List (List ℕ)) → 0 < length (onto_first b ls)
front_some b [] = omega arith
front_some b (l ∷ ls) = omega arith

some_line : (b : ℕ) (bs : List ℕ) → 0 < length (lines_of (b ∷ bs))
some_line b bs = by_test (eqb b 10)
  where
    by_test : (t : Bool) → 0 < length (cond t ([] ∷ lines_of bs) (onto_first b (lines_of bs)))
    by_test true = omega arith
    by_test false = front_some b (lines_of bs)

-- lines behind a line end are lines of their own
pub lines_of-append : (xs ys : List ℕ) → IsEmptyOrEndsWith xs 10 → lines_of (xs ++ ys) ≡ lines_of xs ++ lines_of ys
lines_of-append [] ys ended = refl
lines_of-append (b ∷ []) ys ended =
    let e : b ≡ 10 = ended (omega arith) in
    subst (λ c. lines_of (c ∷ ys) ≡ lines_of (c ∷ []) ++ lines_of ys) (sym e) refl
lines_of-append (b ∷ c ∷ bs) ys ended =
    let shorter : IsEmptyOrEndsWith (c ∷ bs) 10 = λ some. let e : length (b ∷ c ∷ bs) - 1 ≡ suc (length (c ∷ bs) - 1) = omega arith in
    subst (λ n. get_or (b ∷ c ∷ bs) n 0 ≡ 10) e (ended (omega arith)) in
    let more = lines_of-append (c ∷ bs) ys shorter in
    by_test (eqb b 10) more
  where
    by_test : (t : Bool) → lines_of (c ∷ bs ++ ys) ≡ lines_of (c ∷ bs) ++ lines_of ys →
        cond t ([] ∷ lines_of (c ∷ bs ++ ys)) (onto_first b (lines_of (c ∷ bs ++ ys))) ≡ cond t ([] ∷ lines_of (c ∷ bs)) (onto_first b (lines_of (c ∷ bs))) ++ lines_of ys
    by_test true more = ap (λ ls. [] ∷ ls) more
    by_test false more = ap (onto_first b) more ∙ front-append b (lines_of (c ∷ bs)) (lines_of ys) (some_line c bs)

-- a byte of a line is in front of the lines behind it
in_front : (b : ℕ) (bs : List ℕ) → b ≢ 10 → lines_of (b ∷ bs) ≡ onto_first b (lines_of bs)
in_front b bs other = ap (λ t. cond t ([] ∷ lines_of bs) (onto_first b (lines_of bs))) (ne_eqb b 10 other)

-- a line with its end is one line
pub lines_of-line : (line : List ℕ) → InOneLine line → lines_of (line ++ 10 ∷ []) ≡ line ∷ []
lines_of-line [] one = refl
lines_of-line (b ∷ bs) one =
    in_front b (bs ++ 10 ∷ []) (All-head (λ c. c ≢ 10) b bs one) ∙ ap (onto_first b) (lines_of-line bs (All-tail (λ c. c ≢ 10) b bs one))

-- so is the last one without
pub lines_of-last : (line : List ℕ) → InOneLine line → line ≢ [] → lines_of line ≡ line ∷ []
lines_of-last [] one some = absurd (some refl)
lines_of-last (b ∷ []) one some = in_front b [] (All-head (λ c. c ≢ 10) b [] one)
lines_of-last (b ∷ c ∷ bs) one some =
    in_front b (c ∷ bs) (All-head (λ d. d ≢ 10) b (c ∷ bs) one)
    ∙ ap (onto_first b) (lines_of-last (c ∷ bs) (All-tail (λ d. d ≢ 10) b (c ∷ bs) one) (λ e. absurd (cc e)))

-- a line that is too long stays so, and every other is kept whole
pub command_of-kept : (line : List ℕ) → command_of (kept_of line) ≡ command_of line
command_of-kept line = by_length (leb (length line) 80) refl
  where
    by_length : (t : Bool) → leb (length line) 80 ≡ t → command_of (kept_of line) ≡ command_of line
    by_length true short = ap command_of (take_all 81 line (grind (arith, nat_tests)))
    by_length false long =
        let size = length-take-le 81 line (grind (arith, nat_tests)) in
        let too_long : leb (length (kept_of line)) 80 ≡ false = ap (λ n. leb n 80) size in
        ap (λ t. cond t (command_in (map (λ w. w.1) (words (kept_of line)))) None) too_long
        ∙ sym (ap (λ t. cond t (command_in (map (λ w. w.1) (words line))) None) long)

-- what ends with a whole line ends with its line end
pub ended-append : (xs ys : List ℕ) → IsEmptyOrEndsWith (xs ++ (ys ++ 10 ∷ [])) 10
ended-append xs ys some =
    let all = append_assoc xs ys (10 ∷ []) in
    subst (λ l. get_or l (length l - 1) 0 ≡ 10) all (
    let size = length-append (xs ++ ys) (10 ∷ []) in
    get_or_push (xs ++ ys) 10 0 (length ((xs ++ ys) ++ 10 ∷ []) - 1) (omega (arith, size))
    )
