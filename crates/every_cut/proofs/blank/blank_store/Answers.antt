use Rattle.std.proofs.Common.{◌≡◌, ℕ, length, ap, ◌∙◌, arith}
use Rattle.simulator.specs.SimulatorStates.{SimulatorState, state_of}
use Rattle.every_cut.specs.declared.ways.Left.{Left}
use Rattle.every_cut.specs.Cases.{with_power_up, planned_simulator}
use Rattle.every_cut.proofs.blank.blank_store.Goals as goal

abbrev many : SimulatorState → ℕ
many s = length s.plan.entries

then : {s t u : SimulatorState} (charge : ℕ) (left : Left) → u ≡ with_power_up t charge left → t ≡ s → u ≡ with_power_up s charge left
then charge left e d = e ∙ ap (λ (s : SimulatorState). with_power_up s charge left) d

pub plan-requires : goal.plan-requires
plan-requires c = omega (arith, ap many c.in_ok-simulator.ensures)

pub plan-requires-2 : goal.plan-requires-2
plan-requires-2 c = omega (arith, ap many (then 1000 c.args.case.left c.plan.ensures c.in_ok-simulator.ensures))

pub plan-requires-3 : goal.plan-requires-3
plan-requires-3 c =
    omega (arith, ap many (then c.args.case.charge c.args.case.left c.plan-2.ensures (then 1000 c.args.case.left c.plan.ensures c.in_ok-simulator.ensures)))

pub returns : goal.returns
unfolding planned_simulator
returns c =
    let left = c.args.case.left in
    record {
      flash = ap state_of c.new.ensures.flash
          ∙ then 1000 left c.plan-3.ensures (then c.args.case.charge left c.plan-2.ensures (then 1000 left c.plan.ensures c.in_ok-simulator.ensures));
      memory = c.new.ensures.cold;
      next = c.new.ensures.next;
    }
