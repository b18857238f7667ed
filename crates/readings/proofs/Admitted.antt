-- A list of pairs that lacks no needed key gives coefficients that are in their ranges.
use Rattle.std.proofs.Common.{◌≡◌, ℕ, ◌<◌, ◌≤◌, true, false, eqb, List, [], ◌∷◌, ℤ, pos, negsuc, is_some, Some, None, Option, sym, refl, ap, ◌∙◌, ⊎_elim, arith, lit<, lit≤}
use Rattle.std.proofs.lemmas.Bool.Decides.{nat_tests}
use Rattle.std.proofs.lemmas.Bool.{cases_Bool, cond-true, cond-false, and_parts, eqb-true}
use Rattle.layout.specs.declared.meanings.Pair.{Pair}
use Rattle.layout.specs.Catalogue.{pair_of, admits, limits, is_key, in_limits}
use Rattle.layout.specs.PairLists.{all_admitted, well_formed, value_of}
use Rattle.layout.proofs.WellFormed.{well_formed_parts}
use Rattle.compensation.specs.Admitted.{admitted_set, signed_word, unsigned_word, oversampling, correction}
use Rattle.readings.specs.Gathered.{or_zero, lowest_absent, coefficients_of}
use Rattle.readings.proofs.Looked.{has_value}

-- a value of the list is admitted under its key
admitted_value : (ps : List Pair) (k : ℕ) (v : ℤ) → all_admitted ps ≡ true → value_of ps k ≡ Some v → admits (pair_of k v) ≡ true
admitted_value [] k v a e = cc
admitted_value (p ∷ ps) k v a e =
    let parts = and_parts (admits p) (all_admitted ps) a in
    ⊎_elim
    (λ (t : eqb p.key k ≡ true).
    let same : p.key ≡ k = eqb-true p.key k t in
    let found : Some p.value ≡ Some v = sym (cond-true (eqb p.key k) _ _ t) ∙ e in
    let value : p.value ≡ v = cc in
    ap (λ n. admits (pair_of n v)) (sym same) ∙ ap (λ z. admits (pair_of p.key z)) (sym value) ∙ parts.0)
    (λ (t : eqb p.key k ≡ false). admitted_value ps k v parts.1 (sym (cond-false (eqb p.key k) _ _ t) ∙ e))
    (cases_Bool (eqb p.key k))

value_within : (ps : List Pair) (k : ℕ) (v : ℤ) → all_admitted ps ≡ true → value_of ps k ≡ Some v → in_limits (limits k) v ≡ true
unfolding admits
value_within ps k v a e = (and_parts (is_key k) (in_limits (limits k) v) (admitted_value ps k v a e)).1

-- the limits of the four kinds of keys, as the formulas ask them; AC1, AC4, OSS and PCOR stand for their kinds
is_signed : (v : ℤ) → in_limits (limits 1) v ≡ true → signed_word v ≡ true
is_signed (pos n) h = grind (arith, nat_tests)
is_signed (negsuc n) h = grind (arith, nat_tests)

is_unsigned : (v : ℤ) → in_limits (limits 4) v ≡ true → unsigned_word v ≡ true
is_unsigned v h = (and_parts (unsigned_word v) true h).0

is_oversampling : (v : ℤ) → in_limits (limits 12) v ≡ true → oversampling v ≡ true
is_oversampling v h = (and_parts (oversampling v) true h).0

is_correction : (v : ℤ) → in_limits (limits 13) v ≡ true → correction v ≡ true
is_correction v h = (and_parts (correction v) true h).0

-- a value that is there, and one that may be absent where 0 is within the limits
module _ (ps : List Pair) (a : all_admitted ps ≡ true) (k : ℕ) where
  value_there : (o : Option ℤ) → value_of ps k ≡ o → is_some o ≡ true → in_limits (limits k) (or_zero o) ≡ true
  value_there None e s = cc
  value_there (Some v) e s = value_within ps k v a e

  value_or_zero : (o : Option ℤ) → value_of ps k ≡ o → in_limits (limits k) (pos 0) ≡ true → in_limits (limits k) (or_zero o) ≡ true
  value_or_zero None e z = z
  value_or_zero (Some v) e z = value_within ps k v a e

module _ (ps : List Pair) (complete : lowest_absent ps ≡ None) (ok : well_formed ps ≡ true) where
  needed : (k : ℕ) → 1 ≤ k → k < 12 → in_limits (limits k) (or_zero (value_of ps k)) ≡ true
  needed k low high = value_there ps (well_formed_parts ps ok).1 k (value_of ps k) refl (has_value 11 1 ps complete k low high)

  optional : (k : ℕ) → in_limits (limits k) (pos 0) ≡ true → in_limits (limits k) (or_zero (value_of ps k)) ≡ true
  optional k zero-within = value_or_zero ps (well_formed_parts ps ok).1 k (value_of ps k) refl zero-within

  pub gathered_admitted : admitted_set (coefficients_of ps) ≡ true
  unfolding admitted_set coefficients_of
  gathered_admitted =
      let ac1 = is_signed (or_zero (value_of ps 1)) (needed 1 (lit≤ tt) (lit< tt)) in
      let ac2 = is_signed (or_zero (value_of ps 2)) (needed 2 (lit≤ tt) (lit< tt)) in
      let ac3 = is_signed (or_zero (value_of ps 3)) (needed 3 (lit≤ tt) (lit< tt)) in
      let ac4 = is_unsigned (or_zero (value_of ps 4)) (needed 4 (lit≤ tt) (lit< tt)) in
      let ac5 = is_unsigned (or_zero (value_of ps 5)) (needed 5 (lit≤ tt) (lit< tt)) in
      let ac6 = is_unsigned (or_zero (value_of ps 6)) (needed 6 (lit≤ tt) (lit< tt)) in
      let b1 = is_signed (or_zero (value_of ps 7)) (needed 7 (lit≤ tt) (lit< tt)) in
      let b2 = is_signed (or_zero (value_of ps 8)) (needed 8 (lit≤ tt) (lit< tt)) in
      let mb = is_signed (or_zero (value_of ps 9)) (needed 9 (lit≤ tt) (lit< tt)) in
      let mc = is_signed (or_zero (value_of ps 10)) (needed 10 (lit≤ tt) (lit< tt)) in
      let md = is_signed (or_zero (value_of ps 11)) (needed 11 (lit≤ tt) (lit< tt)) in
      let oss = is_oversampling (or_zero (value_of ps 12)) (optional 12 refl) in
      let pcor = is_correction (or_zero (value_of ps 13)) (optional 13 refl) in
      rw (ac1, ac2, ac3, ac4, ac5, ac6, b1, b2, mb, mc, md, oss, pcor)
