-- What a store knows, beside what its units say.
use Rattle.std.specs.Prelude.{◌≡◌, ℕ, List, Some}
use Rattle.flash.specs.FlashState.{FlashState}
use Rattle.layout.specs.declared.meanings.Pair.{Pair}
use Rattle.layout.specs.declared.pairs.Pairs.{Pairs}
use Rattle.layout.specs.Held.{pairs_of}
use Rattle.journal.specs.Reading.{Reading, reads}
use Rattle.journal.specs.Commit.{Change}
use Rattle.journal.specs.Log.{reading_of}
use Rattle.journal.specs.Outcomes.{Usable}
use Rattle.journal.specs.declared.standing.Standing.{Standing}
use Rattle.store.specs.declared.phases.Phase.{Phase}
use Rattle.store.specs.declared.phases.Phase.TheVariants.{Cold, Ready, Changing}

-- What a store knows. A cold one has no pairs and no change; a ready one has what it took from the units; a changing one also
-- has an open change, with its ticket's number and its pairs.
pub data Memory : Type 0 where
  cold : Memory
  ready : Reading → Memory
  changing : Reading → ℕ → List Pair → Memory

abbrev pub memory_of : Phase → Standing → Pairs → Memory
memory_of Cold standing change = cold
memory_of Ready standing change = ready (reading_of standing)
memory_of (Changing ticket) standing change = changing (reading_of standing) ticket (pairs_of change)

-- the flash is on, large enough, and its units read as r
pub record Known (s : FlashState) (r : Reading) : Type 0 where
  pub usable : Usable s
  pub read : reads s.units ≡ Some r

-- What a store knows is what its units say; an open change is well formed and has at most 12 pairs. So it is at every moment of a store's life.
abbrev pub TiedIn : Memory → FlashState → Type 0
TiedIn cold s = Unit {0}
TiedIn (ready r) s = Known s r
TiedIn (changing r ticket change) s = Known s r × Change change
