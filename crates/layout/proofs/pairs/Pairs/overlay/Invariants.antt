use Rattle.std.proofs.Common.{◌≡◌, ◌++◌}
use Rattle.layout.specs.PairLists.{merged}
use Rattle.layout.specs.Tables.{pairs_in}
use Rattle.layout.specs.Held.{pairs_left}
use Rattle.layout.proofs.pairs.Pairs.overlay.Given as goal

abbrev pub invariant-loop-pair : goal.invariant-loop-pair
invariant-loop-pair l = record {
  laid : pairs_in l.self.table ≡ merged (pairs_in l.initial.self.table) l.yielded;
  rest : l.yielded ++ pairs_left l.pair-iterator ≡ pairs_in l.other.table;
}
