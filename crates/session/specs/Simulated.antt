-- The store of a session on its simulator, and what its calls make of the simulator as a whole.
use Rattle.std.specs.Prelude.{◌≡◌, ℕ, ◌+◌, cond, List, [], ◌∷◌, Result, ◌==◌}
use Rattle.flash.specs.Calls.{PoweredUp}
use Rattle.journal.specs.Writes.{Write, program, erase, write_refusal}
use Rattle.journal.specs.Commit.{commit_writes, formatting}
use Rattle.simulator.specs.SimulatorStates.{SimulatorState, flash_of, after_power_up, after_program, after_erase}
use Rattle.store.specs.declared.refusals.Refusal.{Refusal}
use Rattle.store.specs.Calls.{If, last_number, written}
use Rattle.store.specs.Memories.{Memory, cold, ready, changing}
use Rattle.store.specs.Moments.{Moment}
use Rattle.store.specs.Stops.{is_roomy, FormatWrites}

-- the simulator as a whole, what the store knows, and the number of the next ticket
pub record SimulatedStore : Type 0 where
  pub simulator : SimulatorState
  pub memory : Memory
  pub next : ℕ

-- the same, seen as a store on any flash
abbrev pub moment_of : SimulatedStore → Moment
moment_of m = record { flash = flash_of m.simulator; memory = m.memory; next = m.next }

-- one write, completed or not
abbrev pub after_write : SimulatorState → Write → SimulatorState
after_write s (program b u v) = after_program s b u v
after_write s (erase b) = after_erase s b

-- writes in their order, up to the first that the simulator does not complete
abbrev pub after_writes : SimulatorState → List Write → SimulatorState
after_writes s [] = s
after_writes s (w ∷ ws) =
    cond (write_refusal (flash_of s) w == 0) (after_writes (after_write s w) ws) (after_write s w)

-- recover: a power-up, where the simulator is large enough
abbrev pub after_recover : SimulatorState → SimulatorState
after_recover s = cond (is_roomy (flash_of s)) (after_power_up s) s

-- format: a power-up and then its writes, where it is large enough
abbrev pub after_format : SimulatorState → SimulatorState
after_format s = cond (is_roomy (flash_of s)) (after_writes (after_power_up s) formatting) s

-- commit with the ticket `shown`: the writes of the change that is open under it, unless the last
-- number stands
abbrev pub after_commit : SimulatorState → Memory → ℕ → SimulatorState
after_commit s cold shown = s
after_commit s (ready r) shown = s
after_commit s (changing r ticket change) shown =
    cond (shown == ticket)
    (cond (r.number == last_number) s
    (after_writes s (commit_writes s.width r change (r.number + 1)))) s

-- a format where it is large enough: its writes, from the simulator as it is powered up, and what
-- it answers to them
pub record FormattedFrom
    (s : SimulatorState) (r : Result ℕ Refusal) (s' : SimulatorState) : Type 0 where
  pub power_up : PoweredUp (flash_of s) (flash_of (after_power_up s))
  pub made : Result (Unit {0}) Refusal
  pub run : FormatWrites (flash_of (after_power_up s)) made (flash_of s')
  pub answer : r ≡ written 0 made

abbrev pub FormatsFrom : SimulatorState → Result ℕ Refusal → SimulatorState → Type 0
FormatsFrom s r s' = If (is_roomy (flash_of s)) (FormattedFrom s r s') (Unit {0})
