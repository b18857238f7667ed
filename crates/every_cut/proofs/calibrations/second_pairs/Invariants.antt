use Rattle.std.proofs.Common.{◌≡◌, [], take}
use Rattle.layout.specs.PairLists.{merged}
use Rattle.layout.specs.Held.{pairs_of}
use Rattle.every_cut.specs.Asked.{second_pairs}
use Rattle.every_cut.proofs.calibrations.second_pairs.Given as goal

-- the pairs of the turns before
abbrev pub invariant-loop-key : goal.invariant-loop-key
invariant-loop-key l = pairs_of l.pairs ≡ merged [] (take l.key-index second_pairs)
