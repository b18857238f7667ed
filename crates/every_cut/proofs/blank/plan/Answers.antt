use Rattle.std.proofs.Common.{◌≡◌, ℕ, ◌<◌, length, Option, Some, None, ap, ◌∙◌, arith}
use Rattle.flash.specs.Plans.{Plan, Added, with_entry}
use Rattle.flash.specs.declared.plans.PlanEntry.{PlanEntry}
use Rattle.simulator.specs.SimulatorStates.{state_of, with_plan}
use Rattle.every_cut.proofs.blank.plan.Goals as goal

-- a plan that is not full takes the entry
taken : (before after : Plan) (e : PlanEntry) (o : Option ℕ) → length before.entries < 16 → Added 16 before e o after → after ≡ with_entry before e
taken before after e None h a = absurd (omega (arith, h, a.0))
taken before after e (Some n) h a = a.1

pub returns : goal.returns
returns c =
    let s = state_of c.args.simulator.now in
    let e = taken s.plan (state_of c.add_entry.new.self).plan _ c.add_entry.result c.requires c.add_entry.ensures.plan in
    c.add_entry.ensures.state ∙ ap (with_plan s) e
    ∙ λ i. with_plan s (with_entry s.plan (record { charge = c.args.charge; residue = c.residue.ensures i; pattern = c.pattern.ensures i }))
