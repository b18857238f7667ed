-- The lowest absent key, looked for one key after the other.
use Rattle.std.proofs.Common.{◌≡◌, ℕ, zero, suc, ◌+◌, ◌<◌, ◌≤◌, true, false, List, ℤ, is_some, Some, None, Option, MatchOption, sym, refl, ap, ◌∙◌, ⊎_elim, arith}
use Rattle.std.proofs.lemmas.Bool.{cases_eq}
use Rattle.layout.specs.PairLists.{value_of}
use Rattle.layout.specs.declared.meanings.Pair.{Pair}
use Rattle.readings.specs.Gathered.{absent_or, lowest_absent, lowest_absent_from}

absent : (o : Option ℤ) (k : ℕ) (other : Option ℕ) → is_some o ≡ false → absent_or o k other ≡ Some k
absent None k other e = refl
absent (Some v) k other e = cc

present : (o : Option ℤ) (k : ℕ) (other : Option ℕ) → is_some o ≡ true → absent_or o k other ≡ other
present None k other e = cc
present (Some v) k other e = refl

none : (o : Option ℤ) (k : ℕ) (other : Option ℕ) → absent_or o k other ≡ None → (is_some o ≡ true) × (other ≡ None)
none None k other e = (cc, cc)
none (Some v) k other e = (refl, e)

-- the first key without a value is the lowest absent one
first_absent : (n k : ℕ) (ps : List Pair) (i : ℕ) → k ≤ i → i < k + n → ((j : ℕ) → k ≤ j → j < i → is_some (value_of ps j) ≡ true)
    → is_some (value_of ps i) ≡ false → lowest_absent_from n k ps ≡ Some i
first_absent zero k ps i low high before e = absurd (omega arith)
first_absent (suc n) k ps i low high before e =
    ⊎_elim
    (λ (same : k ≡ i). let e' : is_some (value_of ps k) ≡ false = ap (λ j. is_some (value_of ps j)) same ∙ e in absent (value_of ps k) k _ e' ∙ ap Some same)
    (λ (other : k ≡ i → ⊥).
    present (value_of ps k) k _ (before k (omega arith) (omega arith))
    ∙ first_absent n (suc k) ps i (omega arith) (omega arith) (λ j p q. before j (omega arith) q) e)
    (cases_eq k i)

none_absent : (n k : ℕ) (ps : List Pair) → ((j : ℕ) → k ≤ j → j < k + n → is_some (value_of ps j) ≡ true) → lowest_absent_from n k ps ≡ None
none_absent zero k ps all = refl
none_absent (suc n) k ps all =
    present (value_of ps k) k _ (all k (omega arith) (omega arith)) ∙ none_absent n (suc k) ps (λ j p q. all j (omega arith) (omega arith))

-- what a search through the keys 1 to 11 finds
pub lowest_found : (ps : List Pair) (r : Option ℕ)
    → MatchOption r ((k : ℕ) → 1 ≤ k → k < 12 → is_some (value_of ps k) ≡ true)
    (λ i. (1 ≤ i) × (i < 12) × (is_some (value_of ps i) ≡ false) × ((k : ℕ) → 1 ≤ k → k < i → is_some (value_of ps k) ≡ true))
    → lowest_absent ps ≡ r
lowest_found ps None all = none_absent 11 1 ps all
lowest_found ps (Some i) f = first_absent 11 1 ps i f.0 f.1 f.3 f.2

-- where no key is absent, each has a value
pub has_value : (n k : ℕ) (ps : List Pair) → lowest_absent_from n k ps ≡ None → (j : ℕ) → k ≤ j → j < k + n → is_some (value_of ps j) ≡ true
has_value zero k ps e j low high = absurd (omega arith)
has_value (suc n) k ps e j low high =
    let parts = none (value_of ps k) k (lowest_absent_from n (suc k) ps) e in
    ⊎_elim
    (λ (same : k ≡ j). ap (λ i. is_some (value_of ps i)) (sym same) ∙ parts.0)
    (λ (other : k ≡ j → ⊥). has_value n (suc k) ps parts.1 j (omega arith) (omega arith))
    (cases_eq k j)
