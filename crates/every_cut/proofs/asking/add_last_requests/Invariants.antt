use Rattle.std.proofs.Common.{◌≡◌, ◌∷◌, ◌++◌, map, vec_items}
use Rattle.runs.specs.declared.requests.Request.TheVariants.{Recover, Commit}
use Rattle.layout.specs.Held.{pairs_left}
use Rattle.figures.specs.Figures.{example_pairs}
use Rattle.every_cut.specs.Asked.{get_request}
use Rattle.every_cut.proofs.asking.add_last_requests.Given as goal

-- gets of the pairs given so far
abbrev pub invariant-loop-key : goal.invariant-loop-key
invariant-loop-key l = record {
  requests : vec_items l.requests ≡ vec_items l.fn.requests ++ Commit l.ticket ∷ Recover ∷ map get_request l.yielded;
  rest : l.yielded ++ pairs_left l.key-iterator ≡ example_pairs;
}
