use Rattle.std.proofs.Common.{◌≡◌, ◌++◌, length, vec_items}
use Rattle.layout.specs.Held.{pairs_of, pairs_left}
use Rattle.every_cut.specs.Asked.{open_calls}
use Rattle.every_cut.proofs.asking.open.Given as goal

-- the puts of the pairs given so far
abbrev pub invariant-loop-key : goal.invariant-loop-key
invariant-loop-key l = record {
  counted : l.count ≡ length l.yielded;
  asked : vec_items l.calls ≡ vec_items l.fn.calls ++ open_calls l.ticket l.yielded;
  rest : l.yielded ++ pairs_left l.key-iterator ≡ pairs_of l.pairs;
}
