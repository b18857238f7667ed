use Rattle.std.proofs.Common.{[], ◌∷◌, ◌++◌, map, vec_items, sym, ap, ◌∙◌, subst}
use Rattle.std.specs.List.{All}
use Rattle.std.proofs.lemmas.List.{map-append, take_more}
use Rattle.std.proofs.lemmas.List.Elements.{All-push}
use Rattle.simulator.specs.contracts.simulators.calls.SimulatorFlash.TheImpl.{ghosts}
use Rattle.every_cut.specs.declared.ways.Left.TheVariants.{Nothing}
use Rattle.every_cut.specs.Cases.{case_of}
use Rattle.every_cut.specs.Rows.{RowOf, case_in}
use Rattle.every_cut.proofs.tables.make_rows.Goals as goal

pub loop-case-preserved : goal.loop-case-preserved
loop-case-preserved c =
    let rows = vec_items c.loop-case.rows in
    let row = c.in_ok-make_row.field-0 in
    let i = c.loop-case.case-index in
    let items = c.deref-case-items.result.now in
    record {
      cases = ap (map case_in) c.in_ok-push.ensures.items ∙ map-append case_in rows (row ∷ [])
          ∙ (λ j. c.loop-case.invariant.cases j ++ c.in_ok-make_row.ensures.case j ∷ []) ∙ sym (take_more items i (case_of 0 Nothing) c.loop-case-test.true);
      each = subst (All (RowOf ghosts c.args.way)) (sym c.in_ok-push.ensures.items)
          (All-push (RowOf ghosts c.args.way) rows row c.loop-case.invariant.each c.in_ok-make_row.ensures.row);
    }
