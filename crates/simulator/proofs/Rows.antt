-- A flat table as rows. Assumes nothing.
use Rattle.std.specs.Prelude.{◌≡◌, ℕ, zero, suc, ◌+◌, ◌*◌, ◌<◌, ◌≤◌, List, [], ◌∷◌, ◌++◌, length, take, drop, slice_index_or, slice_set, refl}
use Rattle.std.proofs.Common.{sym, ap, ◌∙◌, arith, zero-add, suc-add, zero-mul, suc-mul}
use Rattle.std.proofs.lemmas.List.{take-append-drop, length-take-le, length-drop, length-append, length-take, take_at, drop_at, take-set-le, drop-set-lt, drop-set-add, drop-drop}
use Rattle.simulator.specs.Tables.{rows, over}

module _ {X : Type 0} where
  pub rows_row : (n w b : ℕ) (xs : List X) → b < n → slice_index_or (rows n w xs) b [] ≡ take w (drop (b * w) xs)
  rows_row zero w b xs h = absurd (omega arith)
  rows_row (suc n) w zero xs h = rw zero-mul
  rows_row (suc n) w (suc b) xs h =
      let far : w + b * w ≡ suc b * w = let e = suc-mul b w in omega arith in
      rows_row n w b (drop w xs) (omega arith) ∙ ap (take w) (drop-drop (b * w) w xs ∙ ap (λ k. drop k xs) far)

  pub over_length : (xs : List X) (u : ℕ) (ys : List X) → u + length ys ≤ length xs → length (over xs u ys) ≡ length xs
  over_length xs u ys h = simp (length-append, length-take, length-drop) (omega arith)

  over_append : (p q ys : List X) (k : ℕ) → over (p ++ q) (length p + k) ys ≡ p ++ over q k ys
  over_append [] q ys k = ap (λ z. over q z ys) (zero-add k)
  over_append (x ∷ p) q ys k = simp suc-add (ap (λ z. x ∷ z) (over_append p q ys k))

  rows_append : (n w : ℕ) (p q : List X) → length p ≡ w → rows (suc n) w (p ++ q) ≡ p ∷ rows n w q
  rows_append n w p q e = rw (take_at p q w e, drop_at p q w e)

  pub rows_over : (n w b : ℕ) (xs ys : List X) → n * w ≤ length xs → b < n → length ys ≡ w → rows n w (over xs (b * w) ys) ≡ slice_set (rows n w xs) b ys
  rows_over zero w b xs ys h l e = absurd (omega arith)
  rows_over (suc n) w zero xs ys h l e =
      let start : over xs (0 * w) ys ≡ ys ++ drop w xs = rw (zero-mul, zero-add, e) in
      ap (rows (suc n) w) start ∙ rows_append n w ys (drop w xs) e
  rows_over (suc n) w (suc b) xs ys h l e =
      let whole = suc-mul n w in
      let rest = length-drop w xs in
      let size : length (take w xs) ≡ w = length-take-le w xs (omega arith) in
      let far : suc b * w ≡ length (take w xs) + b * w = let m = suc-mul b w in omega arith in
      let split : over xs (suc b * w) ys ≡ take w xs ++ over (drop w xs) (b * w) ys = ap (λ z. over z (suc b * w) ys) (sym (take-append-drop w xs)) ∙ ap (λ k. over (take w xs ++ drop w xs) k ys) far ∙ over_append (take w xs) (drop w xs) ys (b * w) in
      ap (rows (suc n) w) split ∙ rows_append n w (take w xs) (over (drop w xs) (b * w) ys) size ∙ ap (λ z. take w xs ∷ z) (rows_over n w b (drop w xs) ys (omega arith) (omega arith) e)

  take_set_in : (w : ℕ) (xs : List X) (u : ℕ) (x : X) → take w (slice_set xs u x) ≡ slice_set (take w xs) u x
  take_set_in zero xs u x = refl
  take_set_in (suc w) [] u x = refl
  take_set_in (suc w) (y ∷ xs) zero x = refl
  take_set_in (suc w) (y ∷ xs) (suc u) x = ap (λ z. y ∷ z) (take_set_in w xs u x)

  pub rows_set : (n w b u : ℕ) (xs : List X) (x : X) → b < n → u < w → rows n w (slice_set xs (b * w + u) x) ≡ slice_set (rows n w xs) b (slice_set (slice_index_or (rows n w xs) b []) u x)
  rows_set zero w b u xs x l m = absurd (omega arith)
  rows_set (suc n) w zero u xs x l m =
      let here : 0 * w + u ≡ u = let z = zero-mul w in omega arith in
      ap (λ k. rows (suc n) w (slice_set xs k x)) here ∙ ap (λ z. z ∷ rows n w (drop w (slice_set xs u x))) (take_set_in w xs u x) ∙ ap (λ z. slice_set (take w xs) u x ∷ rows n w z) (drop-set-lt w xs u x m)
  rows_set (suc n) w (suc b) u xs x l m =
      let far : suc b * w + u ≡ w + (b * w + u) = let z = suc-mul b w in omega arith in
      ap (λ k. rows (suc n) w (slice_set xs k x)) far
      ∙ ap (λ z. z ∷ rows n w (drop w (slice_set xs (w + (b * w + u)) x))) (take-set-le w xs (w + (b * w + u)) x (omega arith))
      ∙ ap (λ z. take w xs ∷ rows n w z) (drop-set-add w xs (b * w + u) x)
      ∙ ap (λ z. take w xs ∷ z) (rows_set n w b u (drop w xs) x (omega arith) m)
