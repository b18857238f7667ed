use Rattle.std.proofs.Common.{◌≡◌, map, take, vec_items}
use Rattle.every_cut.specs.Asked.{outcome_of}
use Rattle.every_cut.proofs.asking.outcomes_in.Given as goal

abbrev pub invariant-loop-call : goal.invariant-loop-call
invariant-loop-call l = vec_items l.log ≡ map outcome_of (take l.call-index l.calls)
