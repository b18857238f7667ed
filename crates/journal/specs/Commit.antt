-- The writes of a commit and of a format, and what the units read as when they are done.
use Rattle.std.specs.Prelude.{◌≡◌, ℕ, suc, ◌+◌, ◌-◌, ◌≤◌, Bool, true, cond, List, [], ◌∷◌, ◌++◌, map, length, Some, nat_le}
use Rattle.layout.specs.declared.meanings.Pair.{Pair}
use Rattle.layout.specs.PairLists.{well_formed, merged}
use Rattle.layout.specs.Codec.{record_value, commit_value, header_value}
use Rattle.journal.specs.Reading.{Banks, Reading, reads}
use Rattle.journal.specs.Writes.{Write, program, erase}

-- one value after another, from unit u of bank b on
abbrev pub programs : ℕ → ℕ → List ℕ → List Write
programs b u [] = []
programs b u (v ∷ vs) = program b u v ∷ programs b (suc u) vs

-- the records of pairs in key order, from unit u of bank b on
abbrev pub records : ℕ → ℕ → List Pair → List Write
records b u ps = programs b u (map record_value ps)

-- a change at the end of a bank: its records, then a commit of its count and of the number
abbrev pub appending : ℕ → ℕ → List Pair → ℕ → List Write
appending b end change number = programs b end (map record_value change ++ commit_value (length change) number ∷ [])

-- the other bank of banks 0 and 1
abbrev pub other : ℕ → ℕ
other b = 1 - b

-- pairs into a bank, erased before: their records from unit 1 on, and last the header of their count and of the number
abbrev pub moving : ℕ → List Pair → ℕ → List Write
moving b ps number = erase b ∷ records b 1 ps ++ program b 0 (header_value (length ps) number) ∷ []

-- the change fits behind the end of a bank of `width` units
abbrev pub fits : ℕ → Reading → List Pair → Bool
fits width r change = nat_le (r.end + length change + 1) width

-- the writes of a commit of the change with this number, on banks of `width` units that read as r
abbrev pub commit_writes : ℕ → Reading → List Pair → ℕ → List Write
commit_writes width r change number =
    cond (fits width r change) (appending r.active r.end change number) (moving (other r.active) (merged r.pairs change) number)

-- how many they are: n + 1, or m + 2 for m merged pairs
abbrev pub writes_needed : ℕ → Reading → List Pair → ℕ
writes_needed width r change = cond (fits width r change) (length change + 1) (length (merged r.pairs change) + 2)

-- what is read when all of them are done
abbrev pub committed : ℕ → Reading → List Pair → ℕ → Reading
committed width r change number =
    cond (fits width r change)
    (record { active = r.active; pairs = merged r.pairs change; number = number; end = r.end + length change + 1 })
    (record { active = other r.active; pairs = merged r.pairs change; number = number; end = length (merged r.pairs change) + 1 })

-- the writes of format, and what is read when they are done
abbrev pub formatting : List Write
formatting = erase 0 ∷ erase 1 ∷ program 0 0 (header_value 0 0) ∷ []

abbrev pub formatted : Reading
formatted = record { active = 0; pairs = []; number = 0; end = 1 }

-- a list of pairs that may be committed
pub record Change (change : List Pair) : Type 0 where
  pub formed : well_formed change ≡ true
  pub few : length change ≤ 12

-- the units are read with these pairs and this number
pub record Holds (bs : Banks) (pairs : List Pair) (number : ℕ) : Type 0 where
  pub found : Reading
  pub read : reads bs ≡ Some found
  pub same_pairs : found.pairs ≡ pairs
  pub same_number : found.number ≡ number
