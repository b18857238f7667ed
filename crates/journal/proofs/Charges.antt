-- Lists of writes under a charge, said of the units alone: the form in which it is proved what a commit and a format leave.
use Rattle.std.specs.Prelude.{◌≡◌, ℕ, zero, suc, ◌+◌, ◌<◌, ◌≤◌, ◌⊎◌, List, [], ◌∷◌, length, Some, slice_index_or}
use Rattle.flash.specs.declared.units.Unit.TheVariants.{Blank}
use Rattle.layout.specs.declared.meanings.Pair.{Pair}
use Rattle.layout.specs.PairLists.{merged}
use Rattle.journal.specs.Reading.{Banks, bank, Reading, reads}
use Rattle.journal.specs.Writes.{Write, program, erase, done, Cut}
use Rattle.journal.specs.Commit.{commit_writes, writes_needed, committed, Holds}

-- in banks of `width` units: the place exists, and a unit to program is blank
abbrev pub Ready : ℕ → Write → Banks → Type 0
Ready width (program b u v) bs = (b < length bs) × (u < width) × (slice_index_or (bank b bs) u Blank ≡ Blank)
Ready width (erase b) bs = b < length bs

-- each write is ready when those before it are done
abbrev pub AllReady : ℕ → List Write → Banks → Type 0
AllReady width [] bs = Unit {0}
AllReady width (w ∷ ws) bs = Ready width w bs × AllReady width ws (done width w bs)

-- the units after may be what the writes leave under a charge: the writes that it completes are done, and the next is cut
abbrev pub Leaves : ℕ → ℕ → List Write → Banks → Banks → Type 0
Leaves width charge [] bs after = after ≡ bs
Leaves width zero (w ∷ ws) bs after = Cut w bs after
Leaves width (suc charge) (w ∷ ws) bs after = Leaves width charge ws (done width w bs) after

-- at least two banks, the first two of `width` units, at least 64
pub record Roomy (width : ℕ) (bs : Banks) : Type 0 where
  pub two : 2 ≤ length bs
  pub first : length (bank 0 bs) ≡ width
  pub second : length (bank 1 bs) ≡ width
  pub enough : 64 ≤ width

-- What the writes of a commit leave under any charge and any residue, on units that read as r.
pub record WholeOrAbsent (width : ℕ) (bs : Banks) (r : Reading) (change : List Pair) (number : ℕ) : Type 0 where
  -- no write is refused for its place
  pub ready : AllReady width (commit_writes width r change number) bs
  -- with charge for all writes the change is read, whole
  pub whole :
      (charge : ℕ) (after : Banks) → Leaves width charge (commit_writes width r change number) bs after →
      writes_needed width r change ≤ charge → reads after ≡ Some (committed width r change number)
  -- with less charge the units are read as before, or, where only the last write was cut, with the whole change
  pub cut :
      (charge : ℕ) (after : Banks) → Leaves width charge (commit_writes width r change number) bs after →
      charge < writes_needed width r change →
      Holds after r.pairs r.number
      ⊎ ((suc charge ≡ writes_needed width r change) × Holds after (merged r.pairs change) (r.number + 1))
