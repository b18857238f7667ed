-- Format and commit on a flash: the writes that they make, and what came of them.
use Rattle.std.specs.Prelude.{◌≡◌, ℕ, ◌+◌, Bool, ◌&&◌, List, [], length, Ok, Err, Option, Result, nat_le}
use Rattle.flash.specs.FlashState.{FlashState}
use Rattle.flash.specs.Calls.{PoweredUp}
use Rattle.flash.specs.declared.faults.FlashFault.{Ghosts as FaultGhosts}
use Rattle.layout.specs.declared.meanings.Pair.{Pair}
use Rattle.journal.specs.Reading.{Reading}
use Rattle.journal.specs.Writes.{Performed}
use Rattle.journal.specs.Commit.{commit_writes, formatting}
use Rattle.journal.specs.Outcomes.{WholeOrAbsentAfter, EmptyAfter}
use Rattle.store.specs.declared.refusals.Refusal.{Refusal}
use Rattle.store.specs.declared.refusals.Refusal.TheVariants.{WriteStopped}

-- at least two banks of at least 64 units
abbrev pub is_roomy : FlashState → Bool
is_roomy s = nat_le 2 (length s.units) && nat_le 64 s.width

-- what every fault gives, whatever its type: the flash's number, and the place
abbrev pub Stop : Type 0
Stop = ℕ × (ℕ × Option ℕ)

abbrev pub stops : FaultGhosts Stop
stops = record { layer = []; number = λ (e : Stop). e.0; place = λ (e : Stop). e.1 }

-- 11 carries the place of the write that the flash refused
abbrev pub refused_at : {A : Type 0} → Result A Stop → Result A Refusal
refused_at (Ok x) = Ok x
refused_at (Err e) = Err (WriteStopped e.1)

-- The writes of a format on a flash that was powered up; where it is large enough, exactly the charge decides.
pub record FormatWrites (s : FlashState) (r : Result (Unit {0}) Refusal) (s' : FlashState) : Type 0 where
  pub result : Result (Unit {0}) Stop
  pub writes : Performed stops formatting s s' result
  pub empty : EmptyAfter stops s s' result
  pub answer : r ≡ refused_at result

-- Format on a flash: a power-up, whose charge the flash chooses, then its writes.
pub record FormatRun (s : FlashState) (r : Result (Unit {0}) Refusal) (s' : FlashState) : Type 0 where
  pub powered : FlashState
  pub power_up : PoweredUp s powered
  pub run : FormatWrites powered r s'

-- A commit on a flash, over units that are taken to read as `standing`: its writes, with the next number; where the units do
-- read so, exactly the charge decides, and a cut leaves the change whole or absent.
pub record CommitRun (s : FlashState) (standing : Reading) (change : List Pair) (r : Result (Unit {0}) Refusal) (s' : FlashState) : Type 0 where
  pub result : Result (Unit {0}) Stop
  pub writes : Performed stops (commit_writes s.width standing change (standing.number + 1)) s s' result
  pub whole_or_absent : WholeOrAbsentAfter stops s standing change (standing.number + 1) s' result
  pub answer : r ≡ refused_at result
