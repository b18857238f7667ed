-- The catalogue: which keys there are, and which values each admits.
use Rattle.std.specs.Prelude.{ℕ, ◌+◌, Bool, true, false, cond, not, ◌&&◌, ◌||◌, List, [], ◌∷◌, ℤ, pos, negsuc, codes, ◌==◌, int_le, nat_le, ◌≡◌, map, Option, Some, None}
use Rattle.std.specs.Str.{bytes_eq}
use Rattle.layout.specs.declared.meanings.Pair.{Pair}

-- the lowest and the highest admitted value, and whether 0 and −1 are left out
pub record Limits : Type 0 where
  pub low : ℤ
  pub high : ℤ
  pub hole : Bool

-- AC1 to AC3, B1, B2, MB, MC and MD
abbrev pub signed_key : ℕ → Bool
signed_key k = (nat_le 1 k && nat_le k 3) || (nat_le 7 k && nat_le k 11)

-- AC4 to AC6
abbrev pub unsigned_key : ℕ → Bool
unsigned_key k = nat_le 4 k && nat_le k 6

abbrev pub is_key : ℕ → Bool
is_key k = nat_le 1 k && nat_le k 13

-- the limits by the kind of a key: a signed coefficient, an unsigned one, OSS, else PCOR
abbrev pub limits_by : Bool → Bool → Bool → Limits
limits_by signed unsigned oss =
    cond signed (record { low = negsuc 32767; high = pos 32767; hole = true })
    (cond unsigned (record { low = pos 1; high = pos 65534; hole = false })
    (cond oss (record { low = pos 0; high = pos 3; hole = false }) (record { low = negsuc 499; high = pos 500; hole = false })))

abbrev pub limits : ℕ → Limits
limits k = limits_by (signed_key k) (unsigned_key k) (k == 12)

-- 0 and −1
abbrev pub is_hole : ℤ → Bool
is_hole (pos n) = n == 0
is_hole (negsuc n) = n == 0

-- the limits admit the value
abbrev pub in_limits : Limits → ℤ → Bool
in_limits l z = (int_le l.low z && int_le z l.high) && not (l.hole && is_hole z)

abbrev pub pair_of : ℕ → ℤ → Pair
pair_of k v = record { key = k; value = v }

-- the catalogue has the pair's key and admits its value
unfoldable pub admits : Pair → Bool
admits p = is_key p.key && in_limits (limits p.key) p.value

-- the names of the keys 1 to 13
abbrev pub names : List (List ℕ)
names =
    codes "AC1" ∷ codes "AC2" ∷ codes "AC3" ∷ codes "AC4" ∷ codes "AC5" ∷ codes "AC6" ∷ codes "B1" ∷ codes "B2"
    ∷ codes "MB" ∷ codes "MC" ∷ codes "MD" ∷ codes "OSS" ∷ codes "PCOR" ∷ []

-- the key of a name, counted from k on; 0 where it is none of them
abbrev pub key_from : ℕ → List (List ℕ) → List ℕ → ℕ
key_from k [] w = 0
key_from k (n ∷ ns) w = cond (bytes_eq n w) k (key_from (k + 1) ns w)

unfoldable pub key_named : List ℕ → ℕ
key_named w = key_from 1 names w

-- the name of a key, where the names are those of the keys from k on; none where it is none of these
abbrev pub name_from : ℕ → List (List ℕ) → ℕ → Option (List ℕ)
name_from k [] key = None
name_from k (n ∷ ns) key = cond (k == key) (Some n) (name_from (k + 1) ns key)

unfoldable pub name_of : ℕ → Option (List ℕ)
name_of key = name_from 1 names key

-- the names of the keys 1 to 13, in their order, are told apart: each is that of its own key alone
abbrev pub NamesTellKeys : Type 0
NamesTellKeys = map key_named names ≡ (1 ∷ 2 ∷ 3 ∷ 4 ∷ 5 ∷ 6 ∷ 7 ∷ 8 ∷ 9 ∷ 10 ∷ 11 ∷ 12 ∷ 13 ∷ [])
