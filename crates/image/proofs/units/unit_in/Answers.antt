use Rattle.std.proofs.Common.{◌∙◌, ◌-◌, take, drop, ap}
use Rattle.flash.specs.declared.units.Unit.TheVariants.{Programmed}
use Rattle.image.proofs.ImageNumbers.{be_8}
use Rattle.image.proofs.units.unit_in.Goals as goal

pub returns-in-1 : goal.returns-in-1
returns-in-1 c =
    let part = (rw c.unwrap.ensures at c.try_into.ensures.1).same ∙ ap (λ n. take (n - 1) (drop 1 c.args.bytes.now)) c.requires in
    let value = (rw part at c.from_be_bytes.ensures) ∙ be_8 c.args.bytes.now 1 c.type_inv.bytes in
    rw c.in-1.is (ap Programmed value)
