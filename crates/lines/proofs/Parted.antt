-- The words of a line are its words: nothing but spaces stands between them.
use Rattle.std.proofs.Common.{◌≡◌, ℕ, zero, suc, ◌+◌, ◌-◌, ◌<◌, ◌≤◌, Bool, true, false, not, List, length, drop, take, get_or, Some, None, Option, sym, refl, ap, ◌∙◌, arith, subst}
use Rattle.std.proofs.lemmas.List.{length-drop, get_or-drop, get_or-take, drop-drop, drop_all}
use Rattle.std.proofs.lemmas.List.Sums.{prefix_len_passes, prefix_len_stops}
use Rattle.std.proofs.lemmas.List.Folds.{length-prefix_len}
use Rattle.std.specs.List.{position, position_or_len}
use Rattle.lines.specs.Words.{is_space, words_from, words, Spaces, IsWord, AreWords}
use Rattle.lines.proofs.Cuts.{place_found, no_place, no_word, next_word}

true_of : (b : Bool) → not (not b) ≡ true → b ≡ true
true_of true h = refl
true_of false h = h

false_of : (b : Bool) → not (not b) ≡ false → b ≡ false
false_of true h = h
false_of false h = refl

false_from : (b : Bool) → not b ≡ true → b ≡ false
false_from true h = cc
false_from false h = refl

true_from : (b : Bool) → not b ≡ false → b ≡ true
true_from true h = refl
true_from false h = cc

-- the spaces in front of what is left
gap_spaces : (line : List ℕ) (from n : ℕ) → n ≤ position_or_len (λ b. not (is_space b)) (drop from line) → Spaces line from (from + n)
gap_spaces line from n h k low high =
    let passes = prefix_len_passes (λ x. not (not (is_space x))) (drop from line) (k - from) 0 (omega arith) in
    let same : get_or (drop from line) (k - from) 0 ≡ get_or line k 0 = get_or-drop from line (k - from) 0 ∙ ap (λ i. get_or line i 0) (omega arith) in
    true_of (is_space (get_or line k 0)) (subst (λ b. not (not (is_space b)) ≡ true) same passes)

-- what begins with no space goes on to a space or to the end
is_word : (line : List ℕ) (at n : ℕ) → at < length line → is_space (get_or line at 0) ≡ false → n ≡ position_or_len is_space (drop at line) →
    IsWord line at (take n (drop at line))
is_word line at n within first e =
    let xs = drop at line in
    let test : ℕ → Bool = λ b. not (is_space b) in
    let len : length (take n xs) ≡ n = ap (λ m. length (take m xs)) e ∙ length-prefix_len test xs ∙ sym e in
    let behind : (i : ℕ) → get_or xs i 0 ≡ get_or line (at + i) 0 = λ i. get_or-drop at line i 0 in
    let stops : n < length xs → is_space (get_or line (at + n) 0) ≡ true =
    λ h. true_from (is_space (get_or line (at + n) 0))
    (subst (λ b. test b ≡ false) (behind n) (subst (λ m. test (get_or xs m 0) ≡ false) (sym e) (prefix_len_stops test xs 0 (omega (arith, h, e))))) in
    let solid : (k : ℕ) → k < n → is_space (get_or xs k 0) ≡ false =
    λ k h. false_from (is_space (get_or xs k 0)) (prefix_len_passes test xs k 0 (omega (arith, h, e))) in
    let nonzero : n ≡ 0 → ⊥ =
    λ z. let t = stops (omega (arith, length-drop at line, z)) in
    let s : is_space (get_or line at 0) ≡ true = subst (λ m. is_space (get_or line m 0) ≡ true) (omega (arith, z)) t in
    absurd (cc (s, first)) in
    record {
      part = ap (λ m. take m xs) (omega (arith, len));
      some = omega (arith, len, nonzero);
      solid = λ k h. subst (λ b. is_space b ≡ false) (sym (get_or-take n xs k 0 (omega (arith, h, len)))) (solid k (omega (arith, h, len)));
      whole = λ h. subst (λ m. is_space (get_or line (at + m) 0) ≡ true) (sym len) (stops (omega (arith, length-drop at line, h, len)));
    }

by_place : (line : List ℕ) (from fuel : ℕ) (o : Option ℕ) → position (λ b. not (is_space b)) (drop from line) ≡ o → length line ≤ from + suc fuel →
    ((at : ℕ) → length line ≤ at + fuel → AreWords line at (words_from true at (drop at line))) → AreWords line from (words_from true from (drop from line))
by_place line from fuel None e h more =
    let all = no_place (λ b. not (is_space b)) (drop from line) e in
    subst (AreWords line from) (sym (no_word from (drop from line) e))
    (λ k low high. gap_spaces line from (length (drop from line)) (omega (arith, all)) k low (omega (arith, length-drop from line, high, low)))
by_place line from fuel (Some k) e h more =
    let xs = drop from line in
    let test : ℕ → Bool = λ b. not (not (is_space b)) in
    let found = place_found (λ b. not (is_space b)) xs k e in
    let within : from + k < length line = omega (arith, found.0, found.1, length-drop from line) in
    let stops : is_space (get_or xs k 0) ≡ false = false_of (is_space (get_or xs k 0)) (subst (λ m. test (get_or xs m 0) ≡ false) found.1 (prefix_len_stops test xs 0 found.0)) in
    let first : is_space (get_or line (from + k) 0) ≡ false = subst (λ b. is_space b ≡ false) (get_or-drop from line k 0) stops in
    let rest = drop k xs in
    let n = position_or_len is_space rest in
    let word : IsWord line (from + k) (take n rest) =
    subst (λ r. IsWord line (from + k) (take n r)) (sym (drop-drop k from line))
    (is_word line (from + k) n within first (ap (position_or_len is_space) (drop-drop k from line))) in
    let len : length (take n rest) ≡ n = length-prefix_len (λ b. not (is_space b)) rest in
    subst (AreWords line from) (sym (next_word line from k n e refl)) (
      omega arith,
      gap_spaces line from k (omega (arith, found.1)),
      word,
      subst (λ m. AreWords line (from + k + m) (words_from true (from + k + n) (drop (from + k + n) line))) (sym len)
          (more (from + k + n) (omega (arith, word.some, len, h))),
    )

parted : (fuel : ℕ) (line : List ℕ) (from : ℕ) → length line ≤ from + fuel → AreWords line from (words_from true from (drop from line))
parted zero line from h =
    subst (AreWords line from) (sym (ap (words_from true from) (drop_all from line (omega (arith, h))))) (λ k low high. absurd (omega (arith, h, low, high)))
parted (suc fuel) line from h =
    by_place line from fuel (position (λ b. not (is_space b)) (drop from line)) refl h (λ at more. parted fuel line at more)

pub words_parted : (line : List ℕ) → AreWords line 0 (words line)
words_parted line = parted (length line) line 0 (omega arith)
