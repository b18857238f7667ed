-- Keys and values side by side: lengths, places, an insertion and a replacement.
use Rattle.std.proofs.Common.{◌≡◌, ℕ, zero, suc, ◌+◌, ◌<◌, ◌≤◌, List, [], ◌∷◌, map, length, get_or, take, set, ℤ, pos, sym, refl, ap, ◌∙◌, cond, ltb, Option, Some, None, arith}
use Rattle.std.specs.List.{insert, slice_get}
use Rattle.std.proofs.lemmas.List.{length-take-le, get_or-take}
use Rattle.std.proofs.lemmas.Option.{slice_get-get_or, slice_get_past}
use Rattle.std.proofs.lemmas.Bool.{cond_both, ltb-true, ltb-false}
use Rattle.layout.specs.Catalogue.{pair_of}
use Rattle.layout.specs.PairLists.{paired, listed}
use Rattle.layout.specs.declared.meanings.Pair.{Pair}

-- what stands for the pair at a place that is past the end
abbrev pub no_pair : Pair
no_pair = pair_of 0 (pos 0)

abbrev pub keys_of : List Pair → List ℕ
keys_of ps = map (λ (p : Pair). p.key) ps

length_paired : (ks : List ℕ) (vs : List ℤ) → length ks ≡ length vs → length (paired ks vs) ≡ length ks
length_paired [] vs e = refl
length_paired (k ∷ ks) [] e = absurd (omega arith)
length_paired (k ∷ ks) (v ∷ vs) e = omega (arith, length_paired ks vs (omega arith))

get_or_paired : (ks : List ℕ) (vs : List ℤ) (i : ℕ) → i < length ks → i < length vs → get_or (paired ks vs) i no_pair ≡ pair_of (get_or ks i 0) (get_or vs i (pos 0))
get_or_paired [] vs i h l = absurd (omega arith)
get_or_paired (k ∷ ks) [] i h l = absurd (omega arith)
get_or_paired (k ∷ ks) (v ∷ vs) zero h l = refl
get_or_paired (k ∷ ks) (v ∷ vs) (suc i) h l = get_or_paired ks vs i (omega arith) (omega arith)

keys_paired : (ks : List ℕ) (vs : List ℤ) → length ks ≡ length vs → keys_of (paired ks vs) ≡ ks
keys_paired [] vs e = refl
keys_paired (k ∷ ks) [] e = absurd (omega arith)
keys_paired (k ∷ ks) (v ∷ vs) e = ap (λ xs. k ∷ xs) (keys_paired ks vs (omega arith))

paired_inserted : (i : ℕ) (ks : List ℕ) (vs : List ℤ) (k : ℕ) (v : ℤ) → length ks ≡ length vs →
    paired (insert ks i k) (insert vs i v) ≡ insert (paired ks vs) i (pair_of k v)
paired_inserted zero ks vs k v e = refl
paired_inserted (suc i) [] [] k v e = refl
paired_inserted (suc i) [] (b ∷ vs) k v e = absurd (omega arith)
paired_inserted (suc i) (a ∷ ks) [] k v e = absurd (omega arith)
paired_inserted (suc i) (a ∷ ks) (b ∷ vs) k v e = ap (λ ps. pair_of a b ∷ ps) (paired_inserted i ks vs k v (omega arith))

pub paired_set : (n i : ℕ) (ks : List ℕ) (vs : List ℤ) (k : ℕ) (v : ℤ) →
    paired (take n (set ks i k)) (take n (set vs i v)) ≡ set (paired (take n ks) (take n vs)) i (pair_of k v)
paired_set zero i ks vs k v = refl
paired_set (suc n) i [] vs k v = refl
paired_set (suc n) zero (a ∷ ks) [] k v = refl
paired_set (suc n) (suc i) (a ∷ ks) [] k v = refl
paired_set (suc n) zero (a ∷ ks) (b ∷ vs) k v = refl
paired_set (suc n) (suc i) (a ∷ ks) (b ∷ vs) k v = ap (λ ps. pair_of a b ∷ ps) (paired_set n i ks vs k v)

-- a place written behind the first n, which are then one more
pub pushed : {X : Type 0} (xs : List X) (n : ℕ) (x : X) → n < length xs → take (suc n) (set xs n x) ≡ insert (take n xs) n x
pushed [] n x h = absurd (omega arith)
pushed (y ∷ ys) zero x h = refl
pushed (y ∷ ys) (suc n) x h = ap (λ zs. y ∷ zs) (pushed ys n x (omega arith))

module _ (ks : List ℕ) (vs : List ℤ) (n : ℕ) (hk : n ≤ length ks) (hv : n ≤ length vs) where
  same_take : length (take n ks) ≡ length (take n vs)
  same_take = length-take-le n ks hk ∙ sym (length-take-le n vs hv)

  pub length_listed : length (listed ks vs n) ≡ n
  length_listed = length_paired (take n ks) (take n vs) same_take ∙ length-take-le n ks hk

  pub keys_listed : keys_of (listed ks vs n) ≡ take n ks
  keys_listed = keys_paired (take n ks) (take n vs) same_take

  get_or_listed : (i : ℕ) → i < n → get_or (listed ks vs n) i no_pair ≡ pair_of (get_or ks i 0) (get_or vs i (pos 0))
  get_or_listed i b =
      let a = length-take-le n ks hk in
      let e = length-take-le n vs hv in
      let x = get_or-take n ks i 0 b in
      let y = get_or-take n vs i (pos 0) b in
      get_or_paired (take n ks) (take n vs) i (omega arith) (omega arith) ∙ (λ j. pair_of (x j) (y j))

  pub slice_get_listed : (i : ℕ) (o : Option Pair) → o ≡ cond (ltb i n) (Some (pair_of (get_or ks i 0) (get_or vs i (pos 0)))) None → o ≡ slice_get (listed ks vs n) i
  slice_get_listed i o e =
      let l = length_listed in
      e ∙ cond_both (ltb i n) (Some (pair_of (get_or ks i 0) (get_or vs i (pos 0)))) None (λ o. o ≡ slice_get (listed ks vs n) i)
      (λ e. let b = ltb-true i n e in ap Some (sym (get_or_listed i b)) ∙ sym (slice_get-get_or (listed ks vs n) i no_pair (omega arith)))
      (λ e. sym (slice_get_past (listed ks vs n) i (omega (arith, ltb-false i n e))))

  pub listed_inserted : (ks' : List ℕ) (vs' : List ℤ) (i k : ℕ) (v : ℤ) →
      take (n + 1) ks' ≡ insert (take n ks) i k → take (n + 1) vs' ≡ insert (take n vs) i v →
      listed ks' vs' (n + 1) ≡ insert (listed ks vs n) i (pair_of k v)
  listed_inserted ks' vs' i k v ek ev =
      ap (λ xs. paired xs (take (n + 1) vs')) ek ∙ ap (paired (insert (take n ks) i k)) ev
      ∙ paired_inserted i (take n ks) (take n vs) k v same_take
