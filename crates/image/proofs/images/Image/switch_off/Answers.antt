use Rattle.std.proofs.Common.{arith}
use Rattle.image.specs.ImageOpening.{image_bytes}
use Rattle.std.specs.Prelude.{slice_set}
use Rattle.image.proofs.ImageNumbers.{set_same_but}
use Rattle.image.proofs.ImageFlashes.{open_kept}
use Rattle.image.proofs.images.Image.switch_off.Goals as goal

pub invariant_of-self : goal.invariant_of-self
invariant_of-self c =
    let m = c.args.self.now in
    let bs = image_bytes m in
    record { opened = open_kept bs (slice_set bs 16 _) 8 17 (set_same_but bs 16 _ 8 17 (omega arith) (omega arith)) (omega arith) m.opened }
