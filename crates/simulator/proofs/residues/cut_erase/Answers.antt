use Rattle.std.proofs.Common.{get_or, set, ap, ◌∙◌}
use Rattle.flash.specs.declared.units.Unit.TheVariants.{Blank}
use Rattle.simulator.specs.Residues.{unit_residue}
use Rattle.simulator.proofs.Cuts.{cut_step}
use Rattle.simulator.proofs.residues.cut_erase.Goals as goal

pub loop-u-preserved : goal.loop-u-preserved
loop-u-preserved c =
    let u = c.loop-u.u in
    ap (set c.loop-u.bank u) c.unit_residue.ensures
    ∙ ap (λ z. set z u (unit_residue c.args.pattern u (get_or z u Blank))) c.loop-u.invariant
    ∙ cut_step c.args.pattern u c.args.bank.now Blank c.loop-u-test.true
