use Rattle.std.proofs.Common.{◌≡◌, [], take}
use Rattle.layout.specs.PairLists.{merged}
use Rattle.layout.specs.Held.{pairs_of}
use Rattle.figures.specs.Figures.{example_pairs}
use Rattle.figures.proofs.example.example_pairs.Given as goal

-- the pairs of the turns before
abbrev pub invariant-loop-key : goal.invariant-loop-key
invariant-loop-key l = pairs_of l.pairs ≡ merged [] (take l.key-index example_pairs)
