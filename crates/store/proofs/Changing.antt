-- An open change stays well formed and short under a put.
use Rattle.std.proofs.Common.{◌≡◌, ℕ, suc, ◌<◌, ◌≤◌, Bool, true, false, cond, not, eqb, ltb, leb, ◌⊎◌, List, [], ◌∷◌, length, is_some, Some, Ok, Err, Result, sym, refl, ap, ◌∙◌, inl, inr, arith}
use Rattle.std.proofs.lemmas.Bool.{both_ways, and_parts, and_from, and_cases, not-false, ltb-true, ltb-false, leb-false, ne_eqb, cond-false, cond_both}
use Rattle.layout.specs.declared.meanings.Pair.{Pair}
use Rattle.layout.specs.Catalogue.{is_key, admits}
use Rattle.layout.specs.PairLists.{rising_above, all_admitted, value_of, with_pair}
use Rattle.layout.proofs.WellFormed.{key_bounds, rising_with, admitted_with}
use Rattle.journal.specs.Commit.{Change}
use Rattle.store.specs.declared.refusals.Refusal.{Refusal}
use Rattle.store.specs.declared.refusals.Refusal.TheVariants.{UnknownKey, NotAdmitted, ChangeFull}
use Rattle.store.specs.Changes.{is_full, put_answer, put_change}

-- a key that is not above the ones before has no value
value_below : (j k : ℕ) (ps : List Pair) → k ≤ j → rising_above j ps ≡ true → is_some (value_of ps k) ≡ false
value_below j k [] h r = refl
value_below j k (p ∷ ps) h r =
    let rs = and_parts (ltb j p.key) (rising_above p.key ps) r in
    let above : j < p.key = ltb-true j p.key rs.0 in
    let other : eqb p.key k ≡ false = ne_eqb p.key k (λ e. omega arith) in
    ap is_some (cond-false (eqb p.key k) (Some p.value) (value_of ps k) other) ∙ value_below p.key k ps (omega arith) rs.1

-- one pair more at most
with_more : (p : Pair) (ps : List Pair) → length (with_pair p ps) ≤ suc (length ps)
with_more p [] = omega arith
with_more p (q ∷ qs) =
    cond_both (ltb q.key p.key) (q ∷ with_pair p qs) (cond (eqb q.key p.key) (p ∷ qs) (p ∷ q ∷ qs)) (λ l. length l ≤ suc (suc (length qs)))
    (λ _. omega (arith, with_more p qs))
    (λ _. cond_both (eqb q.key p.key) (p ∷ qs) (p ∷ q ∷ qs) (λ l. length l ≤ suc (suc (length qs))) (λ _. omega arith) (λ _. omega arith))

-- and none where the key has a value
with_same : (j : ℕ) (p : Pair) (ps : List Pair) → rising_above j ps ≡ true → is_some (value_of ps p.key) ≡ true → length (with_pair p ps) ≤ length ps
with_same j p [] r h = absurd (both_ways false refl h)
with_same j p (q ∷ qs) r h =
    let rs = and_parts (ltb j q.key) (rising_above q.key qs) r in
    let later : eqb q.key p.key ≡ false → is_some (value_of qs p.key) ≡ true =
    λ e. sym (ap is_some (cond-false (eqb q.key p.key) (Some q.value) (value_of qs p.key) e)) ∙ h in
    cond_both (ltb q.key p.key) (q ∷ with_pair p qs) (cond (eqb q.key p.key) (p ∷ qs) (p ∷ q ∷ qs)) (λ l. length l ≤ suc (length qs))
    (λ e. let below : q.key < p.key = ltb-true q.key p.key e in
    let more = with_same q.key p qs rs.1 (later (ne_eqb q.key p.key (λ x. omega arith))) in
    omega (arith, more))
    (λ e. cond_both (eqb q.key p.key) (p ∷ qs) (p ∷ q ∷ qs) (λ l. length l ≤ suc (length qs)) (λ _. omega arith)
    (λ d. absurd (both_ways (is_some (value_of qs p.key)) (value_below q.key p.key qs (ltb-false q.key p.key e) rs.1) (later d))))

with_few : (p : Pair) (ch : List Pair) → Change ch → is_full ch p.key ≡ false → length (with_pair p ch) ≤ 12
with_few p ch c e = go (and_cases (leb 12 (length ch)) (not (is_some (value_of ch p.key))) e)
  where
    go : (leb 12 (length ch) ≡ false) ⊎ (not (is_some (value_of ch p.key)) ≡ false) → length (with_pair p ch) ≤ 12
    go (inl q) = omega (arith, leb-false 12 (length ch) q, with_more p ch)
    go (inr q) = omega (arith, with_same 0 p ch (and_parts (rising_above 0 ch) (all_admitted ch) c.formed).0 (not-false _ q), c.few)

with_change : (p : Pair) (ch : List Pair) → Change ch → admits p ≡ true → is_full ch p.key ≡ false → Change (with_pair p ch)
with_change p ch c a e =
    let above : 0 < p.key = omega (arith, (key_bounds p a).0) in
    let cs = and_parts (rising_above 0 ch) (all_admitted ch) c.formed in
    record { formed = and_from _ _ (rising_with 0 p ch above cs.0) (admitted_with p ch a cs.1); few = with_few p ch c e }

by_tests : (k a f : Bool) (ch more : List Pair) (n : ℕ) (C : Result ℕ Refusal → List Pair → Type 0) → ((why : Refusal) → C (Err why) ch) → (a ≡ true → f ≡ false → C (Ok n) more) →
    C (cond k (cond a (cond f (Err ChangeFull) (Ok n)) (Err NotAdmitted)) (Err UnknownKey)) (cond k (cond a (cond f ch more) ch) ch)
by_tests true true true ch more n C refused accepted = refused ChangeFull
by_tests true true false ch more n C refused accepted = accepted refl refl
by_tests true false f ch more n C refused accepted = refused NotAdmitted
by_tests false a f ch more n C refused accepted = refused UnknownKey

-- what holds of a put that was refused, and of one that was accepted, holds of every put
pub put_cases : (ch : List Pair) (p : Pair) (C : Result ℕ Refusal → List Pair → Type 0) → Change ch → ((why : Refusal) → C (Err why) ch) →
    (Change (with_pair p ch) → C (Ok (length (with_pair p ch))) (with_pair p ch)) → C (put_answer ch p) (put_change ch p)
put_cases ch p C c refused accepted =
    by_tests (is_key p.key) (admits p) (is_full ch p.key) ch (with_pair p ch) (length (with_pair p ch)) C refused (λ a f. accepted (with_change p ch c a f))
