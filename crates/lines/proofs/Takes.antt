-- Bytes that are taken of an input, up to a line end.
use Rattle.std.proofs.Common.{◌≡◌, ◌≢◌, ℕ, zero, suc, ◌+◌, ◌<◌, ◌≤◌, subst, Option, IfSome, OnSome, append_assoc, min, eqb, List, [], ◌∷◌, ◌++◌, length, take, get_or, Some, None, Result, Ok, Err, IsOk, OnOk, sym, refl, ap, ◌∙◌, arith, eqb-true, eq-eqb}
use Rattle.std.proofs.lemmas.List.{take_more, get_or-take, length-take-le, take_all}
use Rattle.std.proofs.lemmas.List.Elements.{All-take, All-append}
use Rattle.std.proofs.lemmas.List.Quantifiers.{position-Some}
use Rattle.std.proofs.lemmas.List.Sums.{fails_before_first}
use Rattle.std.specs.List.{position}
use Rattle.std.specs.Io.{StartsWith}
use Rattle.std.specs.Io.KnownBytes.{Keeps, Consumes, IsAtEnd}
use Rattle.std.specs.Io.BufRead.{DropsConsumable}
use Rattle.std.proofs.KnownBytes.{Consumes-trans}
use Rattle.std.proofs.BufReadLemmas.{Consumes_shown}
use Rattle.lines.specs.declared.inputs.Reach.{Reach}
use Rattle.lines.specs.declared.inputs.Reach.TheVariants.{Within, LineEnd, InputEnd}
use Rattle.lines.specs.Inputs.{InOneLine, Reaches, TakesAll, kept_of}
use Rattle.lines.proofs.Cuts.{no_place}

take_again : (n : ℕ) (xs ys : List ℕ) → take n (take n xs ++ ys) ≡ take n (xs ++ ys)
take_again zero xs ys = refl
take_again (suc n) [] ys = refl
take_again (suc n) (x ∷ xs) ys = ap (λ l. x ∷ l) (take_again n xs ys)

-- what is kept of a line that goes on
pub kept-append : (xs ys : List ℕ) → kept_of (kept_of xs ++ ys) ≡ kept_of (xs ++ ys)
kept-append xs ys = take_again 81 xs ys

take_to_the_end : (n : ℕ) (ys : List ℕ) → take (min (length ys) n) ys ≡ take n ys
take_to_the_end zero ys = let e : min (length ys) 0 ≡ 0 = omega arith in ap (λ m. take m ys) e
take_to_the_end (suc n) [] = take_all (min 0 (suc n)) [] (omega arith)
take_to_the_end (suc n) (y ∷ ys) =
    let e : min (length (y ∷ ys)) (suc n) ≡ suc (min (length ys) n) = omega arith in
    ap (λ m. take m (y ∷ ys)) e ∙ ap (λ l. y ∷ l) (take_to_the_end n ys)

filled : (most room : ℕ) (xs ys : List ℕ) → room + length xs ≡ most → xs ++ take room ys ≡ take most (xs ++ ys)
filled most room [] ys h = let e : room ≡ most = omega (arith, h) in ap (λ n. take n ys) e
filled zero room (x ∷ xs) ys h = absurd (omega (arith, h))
filled (suc most) room (x ∷ xs) ys h = ap (λ l. x ∷ l) (filled most room xs ys (omega (arith, h)))

-- bytes behind those that are kept, as far as there is room
kept_room : (xs ys : List ℕ) (room n : ℕ) → room + length xs ≡ 81 → n ≡ min (length ys) room → xs ++ take n ys ≡ kept_of (xs ++ ys)
kept_room xs ys room n fits is = ap (λ m. xs ++ take m ys) is ∙ ap (λ l. xs ++ l) (take_to_the_end room ys) ∙ filled 81 room xs ys fits

-- the first line end, and the bytes before it
pub before_line_end : (xs : List ℕ) (k : ℕ) → position (λ b. eqb b 10) xs ≡ Some k → (k < length xs) × InOneLine (take k xs) × (take (k + 1) xs ≡ take k xs ++ 10 ∷ [])
before_line_end xs k e =
    let at = position-Some (λ b. eqb b 10) xs k 0 e in
    let size : length (take k xs) ≡ k = length-take-le k xs (omega (arith, at.0)) in (
      at.0,
      λ j d within is.
          let before = (position-Some (λ b. eqb b 10) xs k d e).2 j (omega (arith, size, within)) in
          let same : get_or xs j d ≡ 10 = sym (get_or-take k xs j d (omega (arith, size, within))) ∙ is in
          absurd (cc (before, eq-eqb (get_or xs j d) 10 same)),
      take_more xs k 0 at.0 ∙ ap (λ b. take k xs ++ b ∷ []) (eqb-true (get_or xs k 0) 10 at.1),
    )

pub no_line_end : (xs : List ℕ) → position (λ b. eqb b 10) xs ≡ None → InOneLine xs
no_line_end xs e j d within is =
    let all = no_place (λ b. eqb b 10) xs e in
    let before = fails_before_first (λ b. eqb b 10) xs j d (omega (arith, all, within)) in
    absurd (cc (before, eq-eqb (get_or xs j d) 10 is))

fact_of_ok : {T E P : Type 0} (r : Result T E) → IsOk r → OnOk r P → P
fact_of_ok (Ok x) is h = h
fact_of_ok (Err e) is h = cc

-- as many bytes as there is room for are never refused
pub kept_as_fits : {T E : Type 0} (r : Result T E) (xs ys new : List ℕ) (room n : ℕ) → room + length xs ≡ 81 → n ≡ min (length ys) room →
    (length xs + length (take n ys) ≤ 81 → IsOk r) → OnOk r (new ≡ xs ++ take n ys) → new ≡ kept_of (xs ++ ys)
kept_as_fits r xs ys new room n fits is ok done =
    let size : length (take n ys) ≡ n = length-take-le n ys (omega (arith, is)) in
    fact_of_ok r (ok (omega (arith, fits, is, size))) done ∙ kept_room xs ys room n fits is

-- how many bytes a line has of those that are shown, how many are consumed, and what is reached with them
abbrev pub IsExtent : List ℕ → (ℕ × ℕ × Reach) → Type 0
IsExtent shown (k, n, LineEnd) = (position (λ b. eqb b 10) shown ≡ Some k) × (n ≡ k + 1)
IsExtent shown (k, n, InputEnd) = (position (λ b. eqb b 10) shown ≡ None) × (length shown ≡ 0) × (n ≡ k) × (k ≡ 0)
IsExtent shown (k, n, Within) = (position (λ b. eqb b 10) shown ≡ None) × (n ≡ k) × (k ≡ length shown)

-- the reader had a left, b once it showed bytes, and c once they were consumed
pub taken_part : (a b c : Option (List ℕ)) (most : Option ℕ) (shown line now : List ℕ) (l : ℕ × ℕ × Reach) → IsExtent shown l →
    IfSome a (λ xs. StartsWith xs shown) → IfSome a (λ xs. length shown ≡ 0 → xs ≡ []) → Keeps a b → IfSome a (λ _. IfSome most (λ k. length shown ≤ k)) →
    DropsConsumable b c most l.1 → now ≡ kept_of (kept_of line ++ take l.0 shown) →
    (part : List ℕ) × InOneLine part × Reaches a c part l.2 × (now ≡ kept_of (line ++ part))
taken_part a b c most shown line now (k, n, LineEnd) x front end keeps fits drops is =
    let e = before_line_end shown k x.0 in
    let moved = Consumes_shown a b c most shown n (omega (arith, e.0, x.1)) front end keeps fits drops in
    (take k shown, e.1, subst (Consumes a c) (ap (λ m. take m shown) x.1 ∙ e.2) moved.0, is ∙ kept-append line (take k shown))
taken_part a b c most shown line now (k, n, InputEnd) x front end keeps fits drops is =
    let moved = Consumes_shown a b c most shown n (omega (arith, x.1, x.2, x.3)) front end keeps fits drops in
    (take k shown, All-take (λ b. b ≢ 10) k shown (no_line_end shown x.0), (subst (λ m. Consumes a c (take m shown)) x.2 moved.0, moved.1 x.1), is ∙ kept-append line (take k shown))
taken_part a b c most shown line now (k, n, Within) x front end keeps fits drops is =
    let moved = Consumes_shown a b c most shown n (omega (arith, x.1, x.2)) front end keeps fits drops in
    (take k shown, All-take (λ b. b ≢ 10) k shown (no_line_end shown x.0), subst (λ m. Consumes a c (take m shown)) x.1 moved.0, is ∙ kept-append line (take k shown))

-- a part behind what was taken of the line
pub goes_on : (a b c : Option (List ℕ)) (line part : List ℕ) (reach : Reach) → Consumes a b line → Reaches b c part reach → Reaches a c (line ++ part) reach
goes_on a b c line part Within taken more = Consumes-trans a b c line part taken more
goes_on a b c line part LineEnd taken more = subst (Consumes a c) (sym (append_assoc line part (10 ∷ []))) (Consumes-trans a b c line (part ++ 10 ∷ []) taken more)
goes_on a b c line part InputEnd taken more = (Consumes-trans a b c line part taken more.0, ends a b taken more.1)
  where
    ends : (a b : Option (List ℕ)) → Consumes a b line → OnSome b (IsAtEnd c) → OnSome a (IsAtEnd c)
    ends None b taken at_end = tt
    ends (Some x) None taken at_end = absurd taken
    ends (Some x) (Some y) taken at_end = at_end

-- a line of which nothing is kept is empty
nothing_kept : (line : List ℕ) → length (kept_of line) ≡ 0 → line ≡ []
nothing_kept [] none = refl
nothing_kept (b ∷ bs) none = absurd (omega (arith, none))

-- a step behind what was taken of the line
pub step_on : (a b c : Option (List ℕ)) (line now : List ℕ) (reach is : Reach) → reach ≡ is → InOneLine line → Consumes a b line →
    (part : List ℕ) × InOneLine part × Reaches b c part reach × (now ≡ kept_of (line ++ part)) →
    (all : List ℕ) × InOneLine all × Reaches a c all is × (now ≡ kept_of all)
step_on a b c line now reach is e one taken step =
    (line ++ step.0, All-append (λ b. b ≢ 10) line step.0 one step.1, goes_on a b c line step.0 is taken (subst (Reaches b c step.0) e step.2), step.3)

-- where nothing is kept at the end of the input, nothing was taken
pub none_left : (a c : Option (List ℕ)) (line now : List ℕ) → now ≡ kept_of line → length now ≡ 0 → TakesAll a c line → TakesAll a c []
none_left a c line now is none taken = subst (TakesAll a c) (nothing_kept line (ap length (sym is) ∙ none)) taken
