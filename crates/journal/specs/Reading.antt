-- How the units of banks 0 and 1 are read.
use Rattle.std.specs.Prelude.{ℕ, zero, suc, ◌+◌, Bool, cond, ◌&&◌, List, [], ◌∷◌, reverse, length, take, drop, Some, None, Option, ◌==◌, nat_le, nat_lt, slice_index_or}
use Rattle.std.specs.Option.{option_map}
use Rattle.flash.specs.declared.units.Unit.{Unit as Cell}
use Rattle.flash.specs.declared.units.Unit.TheVariants.{Blank, Programmed, Unreadable}
use Rattle.layout.specs.declared.meanings.Pair.{Pair}
use Rattle.layout.specs.declared.meanings.Meaning.{Meaning}
use Rattle.layout.specs.declared.meanings.Meaning.TheVariants.{Noise, Record, Commit, Header}
use Rattle.layout.specs.PairLists.{rising, merged}
use Rattle.layout.specs.Codec.{meaning_of}

-- the banks of a flash, each a list of its units
abbrev pub Banks : Type 0
Banks = List (List Cell)

abbrev pub bank : ℕ → Banks → List Cell
bank b bs = slice_index_or bs b []

-- what units say
abbrev pub meanings : List Cell → List Meaning
meanings [] = []
meanings (u ∷ us) = meaning_of u ∷ meanings us

-- The number and the pairs up to some unit of a bank, and the run: the valid records that stand directly before that unit
-- and after the header's records and the last commit that counted, newest first.
pub record Progress : Type 0 where
  pub number : ℕ
  pub pairs : List Pair
  pub run : List Pair

-- the c newest of a run, oldest first
abbrev pub newest : ℕ → List Pair → List Pair
newest c run = reverse (take c run)

-- a commit of count c and number n counts here
abbrev pub counts : ℕ → ℕ → Progress → Bool
counts c n s = n == s.number + 1 && (nat_le c (length s.run) && rising (newest c s.run))

-- after a commit that counts
abbrev pub taken : ℕ → ℕ → Progress → Progress
taken c n s = record { number = n; pairs = merged s.pairs (newest c s.run); run = [] }

-- after a unit that is passed over
abbrev pub passed : Progress → Progress
passed s = record { number = s.number; pairs = s.pairs; run = [] }

-- one unit more
abbrev pub step : Progress → Meaning → Progress
step s Noise = passed s
step s (Record p) = record { number = s.number; pairs = s.pairs; run = p ∷ s.run }
step s (Commit c n) = cond (counts c n s) (taken c n s) (passed s)
step s (Header c n) = passed s

abbrev pub steps : Progress → List Meaning → Progress
steps s [] = s
steps s (m ∷ ms) = steps (step s m) ms

-- the valid records at the front
abbrev pub leading : List Meaning → List Pair
leading [] = []
leading (Noise ∷ ms) = []
leading (Record p ∷ ms) = p ∷ leading ms
leading (Commit c n ∷ ms) = []
leading (Header c n ∷ ms) = []

-- a header of count c before these units is lawful: the c units at their front are valid records with rising keys
abbrev pub lawful : ℕ → List Meaning → Bool
lawful c ms = nat_le c (length (leading ms)) && rising (take c (leading ms))

-- what a lawful header gives: its number, its pairs, and the units after its records
pub record Opening : Type 0 where
  pub number : ℕ
  pub pairs : List Pair
  pub rest : List Meaning

abbrev pub opening : List Meaning → Option Opening
opening [] = None
opening (Noise ∷ ms) = None
opening (Record p ∷ ms) = None
opening (Commit c n ∷ ms) = None
opening (Header c n ∷ ms) = cond (lawful c ms) (Some (record { number = n; pairs = take c (leading ms); rest = drop c ms })) None

-- the bank after its last unit
abbrev pub closing : Opening → Progress
closing o = steps (record { number = o.number; pairs = o.pairs; run = [] }) o.rest

-- by the numbers of the lawful headers of banks 0 and 1: the bank with the greater one, bank 0 at a tie
abbrev pub active_bank : Option ℕ → Option ℕ → Option ℕ
active_bank None None = None
active_bank (Some x) None = Some 0
active_bank None (Some y) = Some 1
active_bank (Some x) (Some y) = cond (nat_lt x y) (Some 1) (Some 0)

-- the number of a bank's lawful header
abbrev pub header_number : List Cell → Option ℕ
header_number us = option_map (λ (o : Opening). o.number) (opening (meanings us))

-- the place after the last unit that is not blank
abbrev pub end_after : Cell → ℕ → ℕ
end_after Blank zero = zero
end_after Blank (suc e) = suc (suc e)
end_after (Programmed v) e = suc e
end_after Unreadable e = suc e

abbrev pub end_of : List Cell → ℕ
end_of [] = 0
end_of (u ∷ us) = end_after u (end_of us)

-- what is read: the active bank, the pairs, the number, and the end
pub record Reading : Type 0 where
  pub active : ℕ
  pub pairs : List Pair
  pub number : ℕ
  pub end : ℕ

abbrev pub reading_in : Banks → ℕ → Opening → Reading
reading_in bs b o = record { active = b; pairs = (closing o).pairs; number = (closing o).number; end = end_of (bank b bs) }

abbrev pub reads_bank : Banks → Option ℕ → Option Reading
reads_bank bs None = None
reads_bank bs (Some b) = option_map (reading_in bs b) (opening (meanings (bank b bs)))

unfoldable pub reads : Banks → Option Reading
reads bs = reads_bank bs (active_bank (header_number (bank 0 bs)) (header_number (bank 1 bs)))
