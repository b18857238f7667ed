-- The pairs that a table holds.
use Rattle.std.specs.Prelude.{List}
use Rattle.layout.specs.declared.meanings.Pair.{Pair}
use Rattle.layout.specs.PairLists.{listed}
use Rattle.layout.specs.declared.table.Table.{Table}

abbrev pub pairs_in : Table → List Pair
pairs_in t = listed t.keys t.values t.len
