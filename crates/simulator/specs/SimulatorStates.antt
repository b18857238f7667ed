-- The whole of a simulator at one moment, and what each call makes of it.
use Rattle.std.specs.Prelude.{ℕ, ◌+◌, ◌-◌, ◌*◌, Bool, true, false, List, take, drop, replicate, vec_items, slice_index_or, slice_set}
use Rattle.flash.specs.declared.units.Unit.{Unit as Cell}
use Rattle.flash.specs.declared.units.Unit.TheVariants.{Blank, Programmed}
use Rattle.flash.specs.FlashState.{FlashState, flash_state}
use Rattle.flash.specs.Calls.{program_refusal, erase_refusal, by_refusal}
use Rattle.flash.specs.declared.plans.PlanEntry.{PlanEntry}
use Rattle.flash.specs.Plans.{Plan, no_plan, taking}
use Rattle.simulator.specs.declared.simulators.Simulator.{Simulator}
use Rattle.simulator.specs.Residues.{program_residue, bank_residue}
use Rattle.simulator.specs.Tables.{rows, over}

-- `residue` and `pattern` are those of the last power-up
pub record SimulatorState : Type 0 where
  pub banks : ℕ
  pub width : ℕ
  pub table : List Cell
  pub on : Bool
  pub charge : ℕ
  pub residue : ℕ
  pub pattern : ℕ
  pub plan : Plan

abbrev pub state_of : Simulator → SimulatorState
state_of s = record { banks = s.banks; width = s.width; table = vec_items s.table; on = s.on; charge = s.entry.charge; residue = s.entry.residue; pattern = s.entry.pattern; plan = record { entries = s.plan.items; taken = s.taken } }

-- the simulator as a flash
abbrev pub flash_of : SimulatorState → FlashState
flash_of s = flash_state (rows s.banks s.width s.table) s.width s.on s.charge

-- as it is made: blank, off, with no charge and no plan
abbrev pub new_simulator : ℕ → ℕ → SimulatorState
new_simulator banks width = record { banks = banks; width = width; table = replicate (banks * width) Blank; on = false; charge = 0; residue = 2; pattern = 0; plan = no_plan }

-- another plan, and all else as it was
abbrev pub with_plan : SimulatorState → Plan → SimulatorState
with_plan s p = record { banks = s.banks; width = s.width; table = s.table; on = s.on; charge = s.charge; residue = s.residue; pattern = s.pattern; plan = p }

-- what a power-up sets once every entry is taken
abbrev pub last_entry : PlanEntry
last_entry = record { charge = 4294967295; residue = 2; pattern = 0 }

-- the entry that the next power-up takes
abbrev pub next_entry : Plan → PlanEntry
next_entry p = slice_index_or p.entries p.taken last_entry

abbrev pub after_power_up : SimulatorState → SimulatorState
after_power_up s = record { banks = s.banks; width = s.width; table = s.table; on = true; charge = (next_entry s.plan).charge; residue = (next_entry s.plan).residue; pattern = (next_entry s.plan).pattern; plan = taking s.plan }

-- another table, charge or power, and all else as it was
abbrev pub with_table : SimulatorState → List Cell → SimulatorState
with_table s xs = record { banks = s.banks; width = s.width; table = xs; on = s.on; charge = s.charge; residue = s.residue; pattern = s.pattern; plan = s.plan }

abbrev pub with_charge : SimulatorState → ℕ → SimulatorState
with_charge s n = record { banks = s.banks; width = s.width; table = s.table; on = s.on; charge = n; residue = s.residue; pattern = s.pattern; plan = s.plan }

abbrev pub turned_off : SimulatorState → SimulatorState
turned_off s = record { banks = s.banks; width = s.width; table = s.table; on = false; charge = s.charge; residue = s.residue; pattern = s.pattern; plan = s.plan }

-- a completed write costs one
abbrev pub paid : SimulatorState → SimulatorState
paid s = with_charge s (s.charge - 1)

abbrev pub with_cell : SimulatorState → ℕ → ℕ → Cell → SimulatorState
with_cell s b u x = with_table s (slice_set s.table (b * s.width + u) x)

abbrev pub after_program : SimulatorState → ℕ → ℕ → ℕ → SimulatorState
after_program s b u v = by_refusal (program_refusal (flash_of s) b u) (paid (with_cell s b u (Programmed v))) (turned_off (with_cell s b u (program_residue s.residue v))) s

-- other units in bank b
abbrev pub with_row : SimulatorState → ℕ → List Cell → SimulatorState
with_row s b xs = with_table s (over s.table (b * s.width) xs)

abbrev pub with_bank_blank : SimulatorState → ℕ → SimulatorState
with_bank_blank s b = with_row s b (replicate s.width Blank)

abbrev pub with_bank_cut : SimulatorState → ℕ → SimulatorState
with_bank_cut s b = with_row s b (bank_residue s.pattern (take s.width (drop (b * s.width) s.table)))

abbrev pub after_erase : SimulatorState → ℕ → SimulatorState
after_erase s b = by_refusal (erase_refusal (flash_of s) b) (paid (with_bank_blank s b)) (turned_off (with_bank_cut s b)) s
