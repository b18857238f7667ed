-- A pair put into a list of pairs at its place: what the list is then.
use Rattle.std.proofs.Common.{◌≡◌, ℕ, suc, ◌<◌, ◌≤◌, true, false, eqb, ltb, List, [], ◌∷◌, length, get_or, take, set, ℤ, sym, refl, ap, ◌∙◌, ⊎_elim, one-add, arith}
use Rattle.std.specs.List.{insert, prefix_len}
use Rattle.std.proofs.lemmas.List.Edits.{length-insert}
use Rattle.std.proofs.lemmas.List.{length-take-le, get_or-take}
use Rattle.std.proofs.lemmas.List.Sums.{prefix_len-le-length}
use Rattle.std.proofs.lemmas.Bool.{cases_Bool, cond-true, cond-false, eq-eqb, ne_eqb}
use Rattle.layout.specs.Catalogue.{pair_of}
use Rattle.layout.specs.PairLists.{listed, with_pair}
use Rattle.layout.specs.declared.meanings.Pair.{Pair}
use Rattle.layout.proofs.Paired.{keys_of, keys_listed, length_listed}

-- how many keys stand before the place of a key
abbrev keys_below : ℕ → List ℕ → ℕ
keys_below key ks = prefix_len (λ k. ltb k key) ks

-- one step of the search for a place
place_past : (k : ℕ) (p : Pair) (ps : List Pair) → ltb p.key k ≡ true → keys_below k (keys_of (p ∷ ps)) ≡ suc (keys_below k (keys_of ps))
place_past k p ps t = cond-true (ltb p.key k) _ _ t ∙ one-add (keys_below k (keys_of ps))

place_here : (k : ℕ) (p : Pair) (ps : List Pair) → ltb p.key k ≡ false → keys_below k (keys_of (p ∷ ps)) ≡ 0
place_here k p ps t = cond-false (ltb p.key k) _ _ t

-- where the key stands at its place, its pair is replaced
with_replaced : (k : ℕ) (v : ℤ) (ps : List Pair) → keys_below k (keys_of ps) < length ps →
    get_or (keys_of ps) (keys_below k (keys_of ps)) 0 ≡ k → with_pair (pair_of k v) ps ≡ set ps (keys_below k (keys_of ps)) (pair_of k v)
with_replaced k v [] h e = absurd (omega arith)
with_replaced k v (p ∷ ps) h e =
    ⊎_elim
    (λ (t : ltb p.key k ≡ true).
    let q = place_past k p ps t in
    cond-true (ltb p.key k) _ _ t
    ∙ ap (λ xs. p ∷ xs) (with_replaced k v ps (omega arith) (ap (λ i. get_or (keys_of (p ∷ ps)) i 0) (sym q) ∙ e))
    ∙ ap (λ i. set (p ∷ ps) i (pair_of k v)) (sym q))
    (λ (t : ltb p.key k ≡ false).
    let q = place_here k p ps t in
    let same : p.key ≡ k = ap (λ i. get_or (keys_of (p ∷ ps)) i 0) (sym q) ∙ e in
    cond-false (ltb p.key k) _ _ t ∙ cond-true (eqb p.key k) _ _ (eq-eqb p.key k same)
    ∙ ap (λ i. set (p ∷ ps) i (pair_of k v)) (sym q))
    (cases_Bool (ltb p.key k))

-- where another key or none stands there, the pair is inserted
with_inserted : (k : ℕ) (v : ℤ) (ps : List Pair) →
    (keys_below k (keys_of ps) < length ps → get_or (keys_of ps) (keys_below k (keys_of ps)) 0 ≡ k → ⊥) →
    with_pair (pair_of k v) ps ≡ insert ps (keys_below k (keys_of ps)) (pair_of k v)
with_inserted k v [] ne = refl
with_inserted k v (p ∷ ps) ne =
    ⊎_elim
    (λ (t : ltb p.key k ≡ true).
    let q = place_past k p ps t in
    cond-true (ltb p.key k) _ _ t
    ∙ ap (λ xs. p ∷ xs) (with_inserted k v ps (λ h e. ne (omega arith) (ap (λ i. get_or (keys_of (p ∷ ps)) i 0) q ∙ e)))
    ∙ ap (λ i. insert (p ∷ ps) i (pair_of k v)) (sym q))
    (λ (t : ltb p.key k ≡ false).
    let q = place_here k p ps t in
    let other : p.key ≡ k → ⊥ = λ e. ne (omega arith) (ap (λ i. get_or (keys_of (p ∷ ps)) i 0) q ∙ e) in
    cond-false (ltb p.key k) _ _ t ∙ cond-false (eqb p.key k) _ _ (ne_eqb p.key k other)
    ∙ ap (λ i. insert (p ∷ ps) i (pair_of k v)) (sym q))
    (cases_Bool (ltb p.key k))

-- the same for the pairs of two arrays side by side
module _ (ks : List ℕ) (vs : List ℤ) (n : ℕ) (hk : n ≤ length ks) (hv : n ≤ length vs) where
  pub place_within : (k : ℕ) → keys_below k (take n ks) ≤ n
  place_within k = omega (arith, prefix_len-le-length (λ j. ltb j k) (take n ks), length-take-le n ks hk)

  pub laid_replaced : (k : ℕ) (v : ℤ) (i : ℕ) → i ≡ keys_below k (take n ks) → i < n → get_or ks i 0 ≡ k →
      with_pair (pair_of k v) (listed ks vs n) ≡ set (listed ks vs n) i (pair_of k v)
  laid_replaced k v i e h same =
      let q : keys_below k (keys_of (listed ks vs n)) ≡ i = ap (keys_below k) (keys_listed ks vs n hk hv) ∙ sym e in
      let l = length_listed ks vs n hk hv in
      with_replaced k v (listed ks vs n) (omega arith)
      (ap (λ j. get_or (keys_of (listed ks vs n)) j 0) q ∙ ap (λ xs. get_or xs i 0) (keys_listed ks vs n hk hv) ∙ get_or-take n ks i 0 h ∙ same)
      ∙ ap (λ j. set (listed ks vs n) j (pair_of k v)) q

  pub laid_inserted : (k : ℕ) (v : ℤ) (i : ℕ) → i ≡ keys_below k (take n ks) → (i < n → get_or ks i 0 ≡ k → ⊥) →
      with_pair (pair_of k v) (listed ks vs n) ≡ insert (listed ks vs n) i (pair_of k v)
  laid_inserted k v i e ne =
      let q : keys_below k (keys_of (listed ks vs n)) ≡ i = ap (keys_below k) (keys_listed ks vs n hk hv) ∙ sym e in
      let l = length_listed ks vs n hk hv in
      with_inserted k v (listed ks vs n)
      (λ h same.
      let b : i < n = omega arith in
      ne b (sym (ap (λ j. get_or (keys_of (listed ks vs n)) j 0) q ∙ ap (λ xs. get_or xs i 0) (keys_listed ks vs n hk hv) ∙ get_or-take n ks i 0 b) ∙ same))
      ∙ ap (λ j. insert (listed ks vs n) j (pair_of k v)) q

  pub laid_room : (k : ℕ) (v : ℤ) (i m : ℕ) → i ≡ keys_below k (take n ks) → (i < n → get_or ks i 0 ≡ k → ⊥) →
      length (with_pair (pair_of k v) (listed ks vs n)) ≤ m → n < m
  laid_room k v i m e ne h =
      let l = length_listed ks vs n hk hv in
      let w = place_within k in
      omega (arith, ap length (laid_inserted k v i e ne), length-insert (listed ks vs n) i (pair_of k v) (omega arith))
