use Rattle.std.proofs.Common.{◌∙◌, refl, arith}
use Rattle.image.specs.ImageBytes.{with_be}
use Rattle.image.specs.ImageOpening.{image_bytes}
use Rattle.image.proofs.ImageNumbers.{put_same_but}
use Rattle.image.proofs.ImageCalls.{opened_of, be_over, still_opened}
use Rattle.image.proofs.images.Image.set_charge.Goals as goal

pub invariant_of-self : goal.invariant_of-self
invariant_of-self c =
    let m = c.args.self.now in
    let bs = image_bytes m in
    let x = c.args.charge in
    let left = be_over m.bytes c.deref_mut.result.now c.copy_from_slice.new.self 8 4 4 c.deref_mut.ensures.value refl (omega (arith, (opened_of m).header)) x (c.copy_from_slice.ensures.after ∙ c.to_be_bytes.ensures) in
    record { opened = still_opened m _ (with_be bs 8 4 x) 8 12 left (put_same_but bs 8 4 x 8 12 (omega arith) (omega arith)) (omega arith) }

pub returns : goal.returns
returns c =
    let m = c.args.self.now in
    be_over m.bytes c.deref_mut.result.now c.copy_from_slice.new.self 8 4 4 c.deref_mut.ensures.value refl (omega (arith, (opened_of m).header)) c.args.charge (c.copy_from_slice.ensures.after ∙ c.to_be_bytes.ensures)
