use Rattle.std.proofs.Common.{◌≡◌, ◌*◌, replicate, vec_len, sym, ap, ◌∙◌}
use Rattle.flash.specs.declared.units.Unit.TheVariants.{Blank}
use Rattle.simulator.specs.Shapes.{make_refusal}
use Rattle.simulator.specs.Tables.{values_fit}
use Rattle.simulator.proofs.Fitting.{blank_fits}
use Rattle.simulator.proofs.Making.{makes}
use Rattle.simulator.proofs.simulators.Simulator.new.Goals as goal

pub invariant_of-result-clause-values : goal.invariant_of-result-clause-values
invariant_of-result-clause-values c =
    let b = c.args.banks in
    let w = c.args.width in
    let t = c.args.table in
    let code : make_refusal b w (vec_len t) ≡ 0 = ap (make_refusal b w) (sym c.len.ensures) ∙ c.in_default.ensures in
    let m = makes b w (vec_len t) code in
    let table = c.fill.ensures.items (λ y e. e) ∙ ap (λ k. replicate k Blank) m.full in
    ap values_fit table ∙ blank_fits (b * w)
