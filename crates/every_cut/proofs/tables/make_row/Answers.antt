use Rattle.std.proofs.Common.{List, Option, vec_items, sym, subst}
use Rattle.simulator.specs.contracts.simulators.calls.SimulatorFlash.TheImpl.{ghosts}
use Rattle.store.specs.declared.entries.Entry.{Entry}
use Rattle.every_cut.specs.declared.ways.Case.{Case}
use Rattle.every_cut.specs.Rows.{RunOf, ReadOff}
use Rattle.every_cut.proofs.Readings.{one_stands}
use Rattle.every_cut.proofs.tables.make_row.Goals as goal

pub returns-clause-row : goal.returns-clause-row
returns-clause-row c =
    let log = vec_items c.in_ok-log.log in
    let row = c.read_row.result in
    let run : RunOf ghosts c.args.way row.case log =
    subst (λ (case : Case). RunOf ghosts c.args.way case log) (sym c.read_row.ensures.case) c.in_ok-log.ensures in
    let read : ReadOff log row = subst (λ (os : List (Option Entry)). ReadOff os row) c.deref.ensures.value c.read_row.ensures.read in
    record { log = log; run = run; read = read; one = one_stands ghosts c.args.way row.case log row run read }
