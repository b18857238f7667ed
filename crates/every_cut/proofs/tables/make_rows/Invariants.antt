use Rattle.std.proofs.Common.{◌≡◌, map, take, vec_items}
use Rattle.std.specs.List.{All}
use Rattle.simulator.specs.contracts.simulators.calls.SimulatorFlash.TheImpl.{ghosts}
use Rattle.every_cut.specs.Rows.{RowOf, case_in}
use Rattle.every_cut.proofs.tables.make_rows.Given as goal

-- a row for each case so far
abbrev pub invariant-loop-case : goal.invariant-loop-case
invariant-loop-case l = record {
  cases : map case_in (vec_items l.rows) ≡ take l.case-index l.case-items;
  each : All (RowOf ghosts l.way) (vec_items l.rows);
}
