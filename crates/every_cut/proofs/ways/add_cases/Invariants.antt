use Rattle.std.proofs.Common.{◌≡◌, ◌++◌, map, take, vec_items}
use Rattle.every_cut.specs.Cases.{case_of}
use Rattle.every_cut.proofs.ways.add_cases.Given as goal

abbrev pub invariant-loop-left : goal.invariant-loop-left
invariant-loop-left l =
    vec_items l.cases ≡ vec_items l.initial.cases ++ map (case_of l.charge) (take l.left-index l.left-items)
