use Rattle.std.proofs.Common.{◌≡◌, ◌+◌, ◌-◌, ◌<◌, ◌≤◌, length, take, drop, sym, ap, ◌∙◌, ⊎_elim, arith}
use Rattle.flash.specs.Causes.{cause_number, cause_place}
use Rattle.flash.proofs.Refusals.{read_refusal_open}
use Rattle.flash.proofs.Keeping.{read_missing}
use Rattle.image.specs.ImageOpening.{image_bytes}
use Rattle.image.specs.ImageStates.{image_banks, image_width, image_units, unit_from, image_flash}
use Rattle.image.proofs.ImageUnits.{unit_alone}
use Rattle.image.proofs.ImageFlashes.{in_bank, unit_is}
use Rattle.image.proofs.ImageCalls.{banks_read, width_read, on_read, banks_shown}
use Rattle.image.proofs.images.calls.ImageFlash.read.Goals as goal

pub returns-then-bank-header : goal.returns-then-bank-header
returns-then-bank-header c =
    let bs = image_bytes c.args.self.now in
    let h = c.header-header.result in
    let is = c.header-header.ensures in
    let banks = banks_shown bs h is in
    let width = width_read bs h is in
    let far : c.args.bank < length (image_units bs) → c.args.unit < image_width bs → ⊥ = λ p q. ⊎_elim (λ (r : h.banks ≤ c.args.bank). omega arith) (λ r. omega (arith, r.1)) c.then-bank-header.either in
    let missing = read_missing (image_flash bs) c.args.bank c.args.unit (on_read bs h is c.if-not-header.false) far in
    let cause = c.new-then-bank-header.ensures in
    record { reads = record { number = ap cause_number cause ∙ sym missing; refused = omega (arith, missing); place = ap cause_place cause } }

pub returns : goal.returns
returns c =
    let bs = image_bytes c.args.self.now in
    let h = c.header-header.result in
    let is = c.header-header.ensures in
    let there : c.args.bank < image_banks bs = omega (arith, banks_read bs h is) in
    let in' : c.args.unit < image_width bs = omega (arith, width_read bs h is) in
    let at = c.place-at.result in
    let nine : at + 9 - at ≡ 9 = omega arith in
    let part = ap (λ k. take k (drop at c.deref.result.now)) nine ∙ ap (λ z. take 9 (drop at z)) c.deref.ensures.value in
    record {
      reads = record {
        accepted = read_refusal_open (image_flash bs) c.args.bank c.args.unit (on_read bs h is c.if-not-header.false) (in_bank bs c.args.bank there) in';
        value = c.unit_in.ensures ∙ ap (λ z. unit_from z 0) part ∙ unit_alone bs at ∙ ap (unit_from bs) c.place-at.ensures.place ∙ sym (unit_is bs c.args.bank c.args.unit there in');
      };
    }
