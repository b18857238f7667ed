-- Lists of pairs of a key and a value.
use Rattle.std.specs.Prelude.{◌≡◌, ℕ, Bool, true, cond, ◌&&◌, List, [], ◌∷◌, take, ℤ, Some, None, fold, Option, ◌==◌, nat_lt}
use Rattle.layout.specs.Catalogue.{pair_of, admits}
use Rattle.layout.specs.declared.meanings.Pair.{Pair}

-- keys and values side by side
abbrev pub paired : List ℕ → List ℤ → List Pair
paired [] vs = []
paired (k ∷ ks) [] = []
paired (k ∷ ks) (v ∷ vs) = pair_of k v ∷ paired ks vs

-- the pairs that the first n places of two arrays hold
abbrev pub listed : List ℕ → List ℤ → ℕ → List Pair
listed ks vs n = paired (take n ks) (take n vs)

-- each key is above the one before it, the first above b
abbrev pub rising_above : ℕ → List Pair → Bool
rising_above b [] = true
rising_above b (p ∷ ps) = nat_lt b p.key && rising_above p.key ps

-- the keys rise, so that each stands once (no key is 0)
abbrev pub rising : List Pair → Bool
rising ps = rising_above 0 ps

abbrev pub all_admitted : List Pair → Bool
all_admitted [] = true
all_admitted (p ∷ ps) = admits p && all_admitted ps

-- rising keys, each once, and admitted values only
abbrev pub well_formed : List Pair → Bool
well_formed ps = rising ps && all_admitted ps

-- the value of a key
abbrev pub value_of : List Pair → ℕ → Option ℤ
value_of [] q = None
value_of (p ∷ ps) q = cond (p.key == q) (Some p.value) (value_of ps q)

-- the pairs with one more, at its place in the order, or in the place of the pair that has its key
abbrev pub with_pair : Pair → List Pair → List Pair
with_pair p [] = p ∷ []
with_pair p (q ∷ qs) = cond (nat_lt q.key p.key) (q ∷ with_pair p qs) (cond (q.key == p.key) (p ∷ qs) (p ∷ q ∷ qs))

-- the pairs of a change laid over others, one after the other
abbrev pub merged : List Pair → List Pair → List Pair
merged base change = fold (λ ps p. with_pair p ps) base change

-- the first where it is there, else the second
abbrev pub or_else : Option ℤ → Option ℤ → Option ℤ
or_else None y = y
or_else (Some v) y = Some v

-- What the two mean for who looks a key up.
pub record LookupLaws : Type 0 where
  -- after a pair was laid over a list its own key has the new value, every other key the value that it had
  pub laid : (p : Pair) (ps : List Pair) (q : ℕ) → value_of (with_pair p ps) q ≡ cond (p.key == q) (Some p.value) (value_of ps q)
  -- after a change was laid over a list a key has the change's value, or where the change has none the value that it had
  pub over : (base change : List Pair) (q : ℕ) → well_formed change ≡ true → value_of (merged base change) q ≡ or_else (value_of change q) (value_of base q)
