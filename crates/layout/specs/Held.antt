-- The pairs that a list of pairs holds, and those that an iterator over it has still to give.
use Rattle.std.specs.Prelude.{List}
use Rattle.std.specs.Slice.Iter.{iter_rest}
use Rattle.layout.specs.declared.meanings.Pair.{Pair}
use Rattle.layout.specs.PairLists.{paired}
use Rattle.layout.specs.Tables.{pairs_in}
use Rattle.layout.specs.declared.pairs.Pairs.{Pairs}
use Rattle.layout.specs.declared.iter.PairsIter.{PairsIter}

abbrev pub pairs_of : Pairs → List Pair
pairs_of p = pairs_in p.table

-- the keys and the values that are still to come, side by side
abbrev pub pairs_left : PairsIter → List Pair
pairs_left it = paired (iter_rest it.keys) (iter_rest it.values)
