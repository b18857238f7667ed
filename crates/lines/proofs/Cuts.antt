-- How a line's words come off its front: the spaces before a word, then the word.
use Rattle.std.proofs.Common.{◌≡◌, ℕ, suc, ◌+◌, ◌-◌, ◌<◌, Bool, true, false, not, List, [], ◌∷◌, length, drop, take, get_or, Some, None, sym, refl, ap, ◌∙◌, add-zero, arith, ltb, subst}
use Rattle.std.proofs.lemmas.Bool.Decides.{nat_tests}
use Rattle.std.proofs.lemmas.Option.{cond_some}
use Rattle.std.proofs.lemmas.List.{drop_all, drop-drop, length-drop, take_all}
use Rattle.std.proofs.lemmas.List.Sums.{prefix_len-le-length, prefix_len_stops, prefix_len-drop_no}
use Rattle.std.proofs.lemmas.List.Folds.{length-prefix_len}
use Rattle.std.specs.List.{position, position_or_len, before_first, slice_range}
use Rattle.lines.specs.Words.{is_space, words_from}

pub place_found : {A : Type 0} (p : A → Bool) (xs : List A) (k : ℕ) → position p xs ≡ Some k → (position_or_len p xs < length xs) × (position_or_len p xs ≡ k)
place_found p xs k h =
    let e = cond_some (ltb (position_or_len p xs) (length xs)) (position_or_len p xs) k h in
    (grind (arith, nat_tests), e.1)

pub no_place : {A : Type 0} (p : A → Bool) (xs : List A) → position p xs ≡ None → position_or_len p xs ≡ length xs
no_place p xs h = grind (arith, nat_tests, prefix_len-le-length (λ x. not (p x)) xs)

either : {P : Type 0} (t : Bool) → (t ≡ true → P) → (t ≡ false → P) → P
either true f g = f refl
either false f g = g refl

-- one more off the front
one_more : (at n b : ℕ) (bs : List ℕ) → words_from true (at + 1 + n) (drop n bs) ≡ words_from true (at + (1 + n)) (drop (1 + n) (b ∷ bs))
one_more at n b bs =
    let e : at + 1 + n ≡ at + (1 + n) = omega arith in
    let s : suc n ≡ 1 + n = omega arith in
    ap (λ m. words_from true m (drop n bs)) e ∙ ap (λ m. words_from true (at + (1 + n)) (drop m (b ∷ bs))) s

-- the spaces in front are no word
after_gap : (at : ℕ) (xs : List ℕ) →
    words_from true at xs ≡ words_from true (at + position_or_len (λ b. not (is_space b)) xs) (drop (position_or_len (λ b. not (is_space b)) xs) xs)
after_gap at [] = refl
after_gap at (b ∷ bs) =
    either (is_space b) (λ e. simp e (after_gap (at + 1) bs ∙ one_more at (position_or_len (λ b. not (is_space b)) bs) b bs))
    (λ e. simp (e, add-zero))

-- the rest of a word is no other word
after_word : (at : ℕ) (xs : List ℕ) → words_from false at xs ≡ words_from true (at + position_or_len is_space xs) (drop (position_or_len is_space xs) xs)
after_word at [] = refl
after_word at (b ∷ bs) =
    either (is_space b) (λ e. simp (e, add-zero)) (λ e. simp e (after_word (at + 1) bs ∙ one_more at (position_or_len is_space bs) b bs))

-- where no space comes first, a word does
word_first : (at : ℕ) (xs : List ℕ) → position_or_len (λ b. not (is_space b)) xs ≡ 0 → 0 < length xs →
    words_from true at xs ≡ (at, before_first is_space xs) ∷ words_from true (at + position_or_len is_space xs) (drop (position_or_len is_space xs) xs)
word_first at [] h l = absurd (omega arith)
word_first at (b ∷ bs) h l =
    either (is_space b) (λ e. absurd (let z = simp e at h in omega (arith, z)))
    (λ e. let r = after_word at (b ∷ bs) in simp e (ap (λ ws. (at, take (1 + position_or_len is_space bs) (b ∷ bs)) ∷ ws) (simp e at r)))

pub no_word : (at : ℕ) (xs : List ℕ) → position (λ b. not (is_space b)) xs ≡ None → words_from true at xs ≡ []
no_word at xs h = after_gap at xs ∙ ap (λ n. words_from true (at + n) (drop n xs)) (no_place (λ b. not (is_space b)) xs h) ∙ ap (words_from true (at + length xs)) (drop_all (length xs) xs (omega arith))

pub next_word : (line : List ℕ) (from k n : ℕ) → position (λ b. not (is_space b)) (drop from line) ≡ Some k →
    n ≡ position_or_len is_space (drop k (drop from line)) →
    words_from true from (drop from line)
    ≡ (from + k, take n (drop k (drop from line))) ∷ words_from true (from + k + n) (drop (from + k + n) line)
next_word line from k n h e =
    let xs = drop from line in
    let test : ℕ → Bool = λ x. not (not (is_space x)) in
    let found = place_found (λ b. not (is_space b)) xs k h in
    let stops : test (get_or xs k 0) ≡ false = subst (λ i. test (get_or xs i 0) ≡ false) found.1 (prefix_len_stops test xs 0 found.0) in
    let within : k < length xs = omega (arith, found.0, found.1) in
    let some : 0 < length (drop k xs) = omega (arith, length-drop k xs) in
    let rest = drop k xs in
    let after : drop n rest ≡ drop (from + k + n) line = drop-drop n k xs ∙ drop-drop (k + n) from line ∙ ap (λ m. drop m line) (omega arith) in
    after_gap from xs ∙ ap (λ i. words_from true (from + i) (drop i xs)) found.1
    ∙ word_first (from + k) rest (prefix_len-drop_no test xs k 0 within stops) some
    ∙ ap (λ m. (from + k, take m rest) ∷ words_from true (from + k + m) (drop m rest)) (sym e)
    ∙ ap (λ r. (from + k, take n rest) ∷ words_from true (from + k + n) r) after

-- the same, from what the reader cuts out of the line
pub cut_word : (line rest : List ℕ) (from k n : ℕ) → rest ≡ drop from line → position (λ b. not (is_space b)) rest ≡ Some k →
    n ≡ position_or_len is_space (take (length rest - k) (drop k rest)) →
    let text = take n (take (length rest - k) (drop k rest)) in
    words_from true from (drop from line) ≡ (from + k, text) ∷ words_from true (from + k + length text) (drop (from + k + length text) line)
cut_word line rest from k n r h e =
    let word : take (length rest - k) (drop k rest) ≡ drop k rest = take_all (length rest - k) (drop k rest) (omega (arith, length-drop k rest)) in
    let same : drop k rest ≡ drop k (drop from line) = ap (drop k) r in
    let n_is : n ≡ position_or_len is_space (drop k (drop from line)) = e ∙ ap (position_or_len is_space) (word ∙ same) in
    let len : length (take n (take (length rest - k) (drop k rest))) ≡ n =
    ap (λ w. length (take n w)) (word ∙ same) ∙ ap (λ m. length (take m (drop k (drop from line)))) n_is
    ∙ length-prefix_len (λ b. not (is_space b)) (drop k (drop from line)) ∙ sym n_is in
    next_word line from k n (ap (position (λ b. not (is_space b))) (sym r) ∙ h) n_is
    ∙ ap (λ w. (from + k, take n w) ∷ words_from true (from + k + n) (drop (from + k + n) line)) (sym (word ∙ same))
    ∙ ap (λ m. (from + k, take n (take (length rest - k) (drop k rest))) ∷ words_from true (from + k + m) (drop (from + k + m) line)) (sym len)

pub to_the_end : (line : List ℕ) (from : ℕ) → slice_range line from (length line) ≡ drop from line
to_the_end line from = take_all (length line - from) (drop from line) (omega (arith, length-drop from line))
