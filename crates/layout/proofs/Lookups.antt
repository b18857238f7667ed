-- What a look-up finds after a pair, or a whole change, was laid over a list.
use Rattle.std.proofs.Common.{◌≡◌, ℕ, ◌≤◌, true, false, cond, eqb, ltb, List, [], ◌∷◌, ℤ, Some, None, Option, sym, refl, ap, ◌∙◌, ⊎_elim, arith}
use Rattle.std.proofs.lemmas.Bool.Decides.{nat_tests}
use Rattle.std.proofs.lemmas.Bool.{cases_Bool, cond-true, cond-false, and_parts, ltb-true, eqb-true, ne_eqb}
use Rattle.layout.specs.declared.meanings.Pair.{Pair}
use Rattle.layout.specs.PairLists.{rising_above, rising, all_admitted, with_pair, value_of, merged, or_else, LookupLaws}

apart : (j k q : ℕ) (w v : ℤ) (r : Option ℤ) → (j ≡ k → ⊥) →
    cond (eqb j q) (Some w) (cond (eqb k q) (Some v) r) ≡ cond (eqb k q) (Some v) (cond (eqb j q) (Some w) r)
apart j k q w v r ne = grind (arith, nat_tests)

shadowed : (j k q : ℕ) (w v : ℤ) (r : Option ℤ) → j ≡ k →
    cond (eqb k q) (Some v) r ≡ cond (eqb k q) (Some v) (cond (eqb j q) (Some w) r)
shadowed j k q w v r e = grind (arith, nat_tests)

laid : (p : Pair) (ps : List Pair) (q : ℕ) → value_of (with_pair p ps) q ≡ cond (eqb p.key q) (Some p.value) (value_of ps q)
laid p [] q = refl
laid p (o ∷ os) q =
    ⊎_elim
    (λ (l : ltb o.key p.key ≡ true).
    let lt = ltb-true o.key p.key l in
    ap (λ xs. value_of xs q) (cond-true (ltb o.key p.key) _ _ l) ∙ ap (cond (eqb o.key q) (Some o.value)) (laid p os q)
    ∙ apart o.key p.key q o.value p.value (value_of os q) (omega arith))
    (λ (l : ltb o.key p.key ≡ false).
    ap (λ xs. value_of xs q) (cond-false (ltb o.key p.key) _ _ l)
    ∙ ⊎_elim
    (λ (e : eqb o.key p.key ≡ true).
    ap (λ xs. value_of xs q) (cond-true (eqb o.key p.key) _ _ e)
    ∙ shadowed o.key p.key q o.value p.value (value_of os q) (eqb-true o.key p.key e))
    (λ (e : eqb o.key p.key ≡ false). ap (λ xs. value_of xs q) (cond-false (eqb o.key p.key) _ _ e))
    (cases_Bool (eqb o.key p.key)))
    (cases_Bool (ltb o.key p.key))

-- a key that is not above the bound of a rising list is not in it
none_below : (b q : ℕ) (ps : List Pair) → rising_above b ps ≡ true → q ≤ b → value_of ps q ≡ None
none_below b q [] h le = refl
none_below b q (p ∷ ps) h le =
    let parts = and_parts (ltb b p.key) (rising_above p.key ps) h in
    let lt = ltb-true b p.key parts.0 in
    cond-false (eqb p.key q) _ _ (ne_eqb p.key q (omega arith)) ∙ none_below p.key q ps parts.1 (omega arith)

-- by the key of the pair in front: a look-up in what is behind, over the pair, is a look-up in both
in_front : (k q : ℕ) (v : ℤ) (behind base : Option ℤ) → (k ≡ q → behind ≡ None) →
    or_else behind (cond (eqb k q) (Some v) base) ≡ or_else (cond (eqb k q) (Some v) behind) base
in_front k q v behind base none =
    ⊎_elim
    (λ (e : eqb k q ≡ true).
    ap (λ o. or_else o (cond (eqb k q) (Some v) base)) (none (eqb-true k q e)) ∙ cond-true (eqb k q) _ _ e
    ∙ sym (ap (λ o. or_else o base) (cond-true (eqb k q) (Some v) behind e)))
    (λ (e : eqb k q ≡ false).
    ap (or_else behind) (cond-false (eqb k q) _ _ e) ∙ sym (ap (λ o. or_else o base) (cond-false (eqb k q) (Some v) behind e)))
    (cases_Bool (eqb k q))

laid_over : (base change : List Pair) (b q : ℕ) → rising_above b change ≡ true → value_of (merged base change) q ≡ or_else (value_of change q) (value_of base q)
laid_over base [] b q h = refl
laid_over base (p ∷ ps) b q h =
    let parts = and_parts (ltb b p.key) (rising_above p.key ps) h in
    laid_over (with_pair p base) ps p.key q parts.1
    ∙ (ap (or_else (value_of ps q)) (laid p base q)
    ∙ in_front p.key q p.value (value_of ps q) (value_of base q) (λ e. none_below p.key q ps parts.1 (omega arith)))

pub lookup_laws : LookupLaws
lookup_laws = record {
  laid = laid;
  over = λ base change q h. laid_over base change 0 q (and_parts (rising change) (all_admitted change) h).0;
}
