use Rattle.std.proofs.Common.{ap, ◌∙◌, arith}
use Rattle.std.specs.Prelude.{slice_set}
use Rattle.image.specs.Formed.{be_below}
use Rattle.image.specs.declared.headers.Header.{Header}
use Rattle.image.specs.ImageBytes.{with_be}
use Rattle.image.specs.ImageOpening.{image_bytes}
use Rattle.image.specs.ImageStates.{image_flash, image_supply}
use Rattle.image.proofs.ImageNumbers.{set_same_but}
use Rattle.image.proofs.ImageFlashes.{open_kept, flash_power_up}
use Rattle.image.proofs.ImageCalls.{opened_of}
use Rattle.image.proofs.images.calls.ImageFlash.power_up.Goals as goal

pub invariant_of-self : goal.invariant_of-self
invariant_of-self c =
    let m = c.set_charge.new.self in
    let bs = image_bytes m in
    record { opened = open_kept bs (slice_set bs 16 1) 8 17 (set_same_but bs 16 1 8 17 (omega arith) (omega arith)) (omega arith) m.opened }

pub returns : goal.returns
returns c =
    let m = c.args.self.now in
    let bs = image_bytes m in
    let supply = ap (λ (h : Header). h.supply) c.header-supply.ensures in
    let buffer = ap (λ z. slice_set z 16 1) (c.set_charge.ensures ∙ ap (with_be bs 8 4) supply) in
    record {
      powers = record { charge = image_supply bs; fits = be_below bs 12 4; is = ap image_flash buffer ∙ flash_power_up bs (opened_of m).header };
      buffer = buffer;
    }
