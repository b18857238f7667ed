use Rattle.std.proofs.Common.{◌≡◌, vec_items}
use Rattle.every_cut.specs.Cases.{cases_below}
use Rattle.every_cut.proofs.ways.cases.Given as goal

abbrev pub invariant-loop-charge : goal.invariant-loop-charge
invariant-loop-charge l = vec_items l.cases ≡ cases_below l.charge
