-- What can be read of a flash, and how the code walks over a bank: by places, with a count of the valid records directly before.
use Rattle.std.specs.Prelude.{ℕ, ◌+◌, ◌-◌, cond, ◌&&◌, List, [], take, drop, Some, None, Option, ◌==◌, nat_le}
use Rattle.flash.specs.FlashState.{FlashState}
use Rattle.layout.specs.declared.meanings.Pair.{Pair}
use Rattle.layout.specs.declared.meanings.Meaning.{Meaning}
use Rattle.layout.specs.declared.meanings.Meaning.TheVariants.{Noise, Record, Commit, Header}
use Rattle.layout.specs.PairLists.{merged}
use Rattle.layout.specs.Held.{pairs_of}
use Rattle.journal.specs.Reading.{Banks, leading, lawful, Opening, Reading}
use Rattle.journal.specs.declared.standing.Standing.{Standing}
use Rattle.journal.specs.declared.logs.Log.{Log}
use Rattle.journal.specs.declared.logs.Start.{Start}

-- what can be read: all units of a flash that is on, none of one that is off
abbrev pub visible : FlashState → Banks
visible s = cond s.on s.units []

-- a standing, as a reading
abbrev pub reading_of : Standing → Reading
reading_of s = record { active = s.bank; pairs = pairs_of s.pairs; number = s.number; end = s.end }

-- ---- the walk, for contracts of private functions alone

-- the pairs of the c units at the front, if those are valid records with rising keys
abbrev pub records_of : ℕ → List Meaning → Option (List Pair)
records_of c ms = cond (lawful c ms) (Some (take c (leading ms))) None

-- what a lawful header gives, among these units
abbrev pub opening_at : List Meaning → Start → Opening
opening_at ms o = record { number = o.log.number; pairs = pairs_of o.log.pairs; rest = drop o.next ms }

-- the number and the pairs so far, and how many valid records stand directly before
pub record Tally : Type 0 where
  pub number : ℕ
  pub pairs : List Pair
  pub run : ℕ

abbrev pub tally : Log → Tally
tally l = record { number = l.number; pairs = pairs_of l.pairs; run = l.run }

-- the pairs that a commit of count c and number n at this unit adds, if it counts
abbrev pub counted_at : List Meaning → ℕ → ℕ → ℕ → Tally → Option (List Pair)
counted_at ms unit c n l = cond (n == l.number + 1 && nat_le c l.run) (records_of c (drop (unit - c) ms)) None

abbrev pub tally_with : Option (List Pair) → ℕ → Tally → Tally
tally_with None n l = record { number = l.number; pairs = l.pairs; run = 0 }
tally_with (Some ps) n l = record { number = n; pairs = merged l.pairs ps; run = 0 }

-- one unit more
abbrev pub tally_step : List Meaning → ℕ → Tally → Meaning → Tally
tally_step ms unit l Noise = tally_with None 0 l
tally_step ms unit l (Record p) = record { number = l.number; pairs = l.pairs; run = l.run + 1 }
tally_step ms unit l (Commit c n) = tally_with (counted_at ms unit c n l) n l
tally_step ms unit l (Header c n) = tally_with None 0 l
