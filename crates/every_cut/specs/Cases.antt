-- What is tried: the ways in which the second calibration is committed, and the cuts in each.
use Rattle.std.specs.Prelude.{◌≡◌, ℕ, zero, suc, ◌+◌, List, [], ◌∷◌, ◌++◌}
use Rattle.flash.specs.Plans.{with_entry}
use Rattle.simulator.specs.declared.simulators.Simulator.{Simulator}
use Rattle.simulator.specs.SimulatorStates.{SimulatorState, state_of, new_simulator, with_plan}
use Rattle.store.specs.Memories.{cold}
use Rattle.runs.specs.States.{StoreState}
use Rattle.every_cut.specs.declared.ways.Way.{Way}
use Rattle.every_cut.specs.declared.ways.Way.TheVariants.{InPlace, OtherBank}
use Rattle.every_cut.specs.declared.ways.Left.{Left}
use Rattle.every_cut.specs.declared.ways.Case.{Case}
use Rattle.every_cut.specs.declared.ways.Left.TheVariants.{Nothing, AllOfIt, Unreadable}

-- behind how many empty commits, and how many writes it needs there
abbrev pub empty_of : Way → ℕ
empty_of InPlace = 3
empty_of OtherBank = 4

abbrev pub writes_of : Way → ℕ
writes_of InPlace = 12
writes_of OtherBank = 13

-- of a unit that is programmed: nothing, the whole value, or what no one can read
abbrev pub residue_of : Left → ℕ
residue_of Nothing = 0
residue_of AllOfIt = 1
residue_of Unreadable = 2

-- and of the units of a bank that is erased, two bits each: as they were, blank, unreadable
abbrev pub pattern_of : Left → ℕ
pattern_of Nothing = 0
pattern_of AllOfIt = 0x5555_5555_5555_5555
pattern_of Unreadable = 0xaaaa_aaaa_aaaa_aaaa

abbrev pub case_of : ℕ → Left → Case
case_of charge left = record { charge = charge; left = left }

-- a cut at this charge, with each thing that it can leave
abbrev pub cases_at : ℕ → List Case
cases_at charge =
    case_of charge Nothing ∷ case_of charge AllOfIt ∷ case_of charge Unreadable ∷ []

-- every charge below n
unfoldable pub cases_below : ℕ → List Case
cases_below zero = []
cases_below (suc n) = cases_below n ++ cases_at n

-- up to the writes that are needed
abbrev pub cases_of : Way → List Case
cases_of way = cases_below (writes_of way + 1)

-- one power-up more in the plan: the charge that it brings, and what its cut leaves
abbrev pub with_power_up : SimulatorState → ℕ → Left → SimulatorState
with_power_up s charge left = with_plan s (with_entry s.plan (record {
  charge = charge;
  residue = residue_of left;
  pattern = pattern_of left;
}))

-- A simulator of 2 banks of 64 blank units. The power-ups of the format and of the last recover
-- bring plenty, the one before the second calibration brings the charge of the case.
unfoldable pub planned_simulator : Case → SimulatorState
planned_simulator case =
    with_power_up
    (with_power_up (with_power_up (new_simulator 2 64) 1000 case.left) case.charge case.left)
    1000 case.left

-- a store over it that was never used, whose next ticket is 1
pub record BlankStore (case : Case) (s : StoreState Simulator) : Type 0 where
  pub flash : state_of s.flash ≡ planned_simulator case
  pub memory : s.memory ≡ cold
  pub next : s.next ≡ 1
