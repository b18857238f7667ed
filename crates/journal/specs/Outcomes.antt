-- What comes of the writes of a commit and of a format on a flash that is on: exactly the charge decides.
use Rattle.std.specs.Prelude.{◌≡◌, ℕ, suc, ◌+◌, ◌-◌, ◌<◌, ◌≤◌, true, false, ◌⊎◌, List, length, Some, Result, MatchResult, slice_index_or}
use Rattle.flash.specs.declared.faults.FlashFault.{Ghosts as FaultGhosts}
use Rattle.flash.specs.FlashState.{FlashState, flash_state}
use Rattle.layout.specs.declared.meanings.Pair.{Pair}
use Rattle.layout.specs.PairLists.{merged}
use Rattle.journal.specs.Reading.{Reading, reads}
use Rattle.journal.specs.Writes.{Write, erase, write_bank, write_unit}
use Rattle.journal.specs.Commit.{commit_writes, writes_needed, committed, formatting, formatted, Holds}

-- a flash that is on, with at least two banks of at least 64 units
pub record Usable (s : FlashState) : Type 0 where
  pub on : s.on ≡ true
  pub two : 2 ≤ length s.units
  pub enough : 64 ≤ s.width

-- all writes completed, which the charge sufficed for: the units read as r, and the flash has as many banks and units as before
pub record Finished (s : FlashState) (needed : ℕ) (r : Reading) (s' : FlashState) : Type 0 where
  pub enough : needed ≤ s.charge
  pub is : s' ≡ flash_state s'.units s.width true (s.charge - needed)
  pub banks : length s'.units ≡ length s.units
  pub read : reads s'.units ≡ Some r

-- the charge was too small: the write that it did not reach was cut, as the fault says with its place, and the flash is off
pub record CutShort {F : Type 0} (t : FaultGhosts F) (s : FlashState) (ws : List Write) (needed : ℕ) (s' : FlashState) (e : F) : Type 0 where
  pub short : s.charge < needed
  pub number : t.number e ≡ 24
  pub place : t.place e ≡ (write_bank (slice_index_or ws s.charge (erase 0)), write_unit (slice_index_or ws s.charge (erase 0)))
  pub is : s' ≡ flash_state s'.units s.width false 0
  pub banks : length s'.units ≡ length s.units

-- the units then read as before, or, only where the last write was the one that was cut, with the whole change
pub record CutCommit {F : Type 0} (t : FaultGhosts F) (s : FlashState) (r : Reading) (change : List Pair) (number : ℕ) (s' : FlashState) (e : F) : Type 0 where
  pub cut : CutShort t s (commit_writes s.width r change number) (writes_needed s.width r change) s' e
  pub after :
      Holds s'.units r.pairs r.number
      ⊎ ((suc s.charge ≡ writes_needed s.width r change) × Holds s'.units (merged r.pairs change) (r.number + 1))

-- the units read as r, and the change is one to commit with the number after r's
pub record Committable (s : FlashState) (r : Reading) (change : List Pair) (number : ℕ) : Type 0 where
  pub usable : Usable s
  pub read : reads s.units ≡ Some r
  pub few : length change ≤ 12
  pub next : number ≡ r.number + 1

abbrev pub WholeOrAbsentAfter : {A F : Type 0} → FaultGhosts F → FlashState → Reading → List Pair → ℕ → FlashState → Result A F → Type 0
WholeOrAbsentAfter t s r change number s' answer =
    Committable s r change number →
    MatchResult answer (λ _. Finished s (writes_needed s.width r change) (committed s.width r change number) s') (CutCommit t s r change number s')

abbrev pub EmptyAfter : {A F : Type 0} → FaultGhosts F → FlashState → FlashState → Result A F → Type 0
EmptyAfter t s s' answer = Usable s → MatchResult answer (λ _. Finished s 3 formatted s') (CutShort t s formatting 3 s')
