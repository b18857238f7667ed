use Rattle.std.proofs.Common.{◌≡◌, vec_items, ap, ◌∙◌}
use Rattle.simulator.specs.contracts.simulators.calls.SimulatorFlash.TheImpl.{ghosts}
use Rattle.every_cut.specs.declared.rows.Totals.{Totals}
use Rattle.every_cut.specs.Rows.{totals_of}
use Rattle.every_cut.proofs.Mixed.{none_mixed}
use Rattle.every_cut.proofs.tables.make_part.Goals as goal

pub returns : goal.returns
returns c =
    let rows = vec_items c.in_ok-rows.rows in
    let totals : c.of-totals.result ≡ totals_of rows = c.of-totals.ensures ∙ ap totals_of c.deref.ensures.value in
    record {
      rows = c.in_ok-rows.ensures;
      totals = totals;
      none_mixed = ap (λ (t : Totals). t.mixed) totals ∙ none_mixed ghosts c.args.way rows c.in_ok-rows.ensures.each;
    }
