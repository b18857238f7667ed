use Rattle.std.proofs.Common.{◌≡◌, ◌+◌, ◌-◌, ◌*◌, ◌/◌, ◌<◌, length, refl, sym, ap, ◌∙◌, arith}
use Rattle.flash.specs.Calls.{erase_refusal}
use Rattle.flash.specs.Causes.{cause_number, cause_place}
use Rattle.flash.proofs.Keeping.{erase_cut, erase_done, erase_absent}
use Rattle.flash.proofs.Refusals.{by_done, by_cut, by_same}
use Rattle.std.specs.Prelude.{ℕ, List, ◌≤◌}
use Rattle.image.specs.declared.images.Image.{Image}
use Rattle.image.specs.declared.headers.Header.{Header}
use Rattle.image.specs.ImageHeader.{header_of}
use Rattle.image.specs.ImageOpening.{image_bytes}
use Rattle.image.specs.ImageBytes.{with_zeros}
use Rattle.image.specs.ImageStates.{image_charge, image_banks, image_width, open_refusal, unit_place, image_flash, paid, switched_off}
use Rattle.image.proofs.ImageNumbers.{zeros_same_but}
use Rattle.image.proofs.ImageFlashes.{in_bank, bank_room, erase_done_state, half_bank, half_allowed, erase_cut_state}
use Rattle.image.proofs.ImageCalls.{opened_of, zeros_over, still_opened, banks_read, width_read, charge_read, on_read, banks_shown}
use Rattle.image.proofs.images.calls.ImageFlash.erase.Goals as goal

pub returns-then-bank-header : goal.returns-then-bank-header
returns-then-bank-header c =
    let bs = image_bytes c.args.self.now in
    let h = c.header-header.result in
    let is = c.header-header.ensures in
    let cause = c.new-then-bank-header.ensures in
    let absent = erase_absent _ c.new-then-bank-header.result (image_flash bs) c.args.bank (on_read bs h is c.if-not-header.false) (omega (arith, banks_shown bs h is)) (ap cause_number cause) (ap cause_place cause) in
    record { erases = absent; untouched = λ _. refl; buffer = by_same (erase_refusal (image_flash bs) c.args.bank) _ _ bs (omega (arith, sym absent.why.number ∙ ap cause_number cause)) (omega (arith, sym absent.why.number ∙ ap cause_number cause)) }

-- the units of a bank that is there: from i to within the buffer, and the bytes after zeros were written into f of them
module _ (m : Image) (b : ℕ) (h : Header) (is : h ≡ header_of (image_bytes m)) (there : b < h.banks) (i : ℕ) (at : i ≡ unit_place (image_width (image_bytes m)) b 0) where
  in_image : b < image_banks (image_bytes m)
  in_image = omega (arith, banks_read (image_bytes m) h is)

  bank_end : i + 9 * h.width ≤ length (image_bytes m)
  bank_end = omega (arith, at, width_read (image_bytes m) h is, bank_room (image_bytes m) (opened_of m) b in_image)

  zeros_opened : (n : ℕ) (left : List ℕ) → left ≡ with_zeros (image_bytes m) i n → open_refusal left ≡ 0
  zeros_opened n left e =
      still_opened m left (with_zeros (image_bytes m) i n) 8 (i + n) e (zeros_same_but (image_bytes m) i n 8 (i + n) (omega (arith, at)) (omega arith)) (omega arith)

  zeros_placed : (f : ℕ → ℕ) → with_zeros (image_bytes m) i (9 * f h.width) ≡ with_zeros (image_bytes m) (unit_place (image_width (image_bytes m)) b 0) (9 * f (image_width (image_bytes m)))
  zeros_placed f =
      ap (λ k. with_zeros (image_bytes m) k (9 * f h.width)) at ∙ ap (λ w. with_zeros (image_bytes m) (unit_place (image_width (image_bytes m)) b 0) (9 * f w)) (width_read (image_bytes m) h is)

pub invariant_of-self : goal.invariant_of-self
invariant_of-self c =
    let m = c.args.self.now in
    let h = c.header-header.result in
    let is = c.header-header.ensures in
    let i = c.place-at.result in
    let at = c.place-at.ensures.place in
    let room = bank_end m c.args.bank h is c.if-bank-header.false i at in
    record { opened = zeros_opened m c.args.bank h is c.if-bank-header.false i at _ _ (zeros_over m.bytes c.deref_mut.result.now c.fill.new.self i _ _ c.deref_mut.ensures.value refl (omega arith) (c.fill.ensures.after (λ y e. e))) }

pub returns-then-header-eq0 : goal.returns-then-header-eq0
returns-then-header-eq0 c =
    let m = c.args.self.now in
    let bs = image_bytes m in
    let h = c.header-header.result in
    let is = c.header-header.ensures in
    let i = c.place-at.result in
    let at = c.place-at.ensures.place in
    let n = 9 * (h.width / 2) in
    let there = in_image m c.args.bank h is c.if-bank-header.false i at in
    let room : i + n ≤ length bs = omega (arith, bank_end m c.args.bank h is c.if-bank-header.false i at) in
    let filled = zeros_over m.bytes c.deref_mut.result.now c.fill.new.self i (i + n - i) n c.deref_mut.ensures.value (omega arith) room (c.fill.ensures.after (λ y e. e)) in
    let after = c.switch_off.ensures ∙ ap switched_off (filled ∙ zeros_placed m c.args.bank h is c.if-bank-header.false i at (λ w. w / 2)) in
    let cause = c.new-then-header-eq0.ensures in
    let o = opened_of m in
    let cut = erase_cut (image_flash bs) c.args.bank (on_read bs h is c.if-not-header.false) (in_bank bs c.args.bank there) _ c.new-then-header-eq0.result _ (sym (charge_read bs h is) ∙ c.if-header-eq0.true) (ap cause_number cause) (ap cause_place cause) (half_bank bs o c.args.bank there) (half_allowed bs o c.args.bank there) (ap image_flash after ∙ erase_cut_state bs o c.args.bank there) in
    record { erases = cut; untouched = λ h. let n = ap cause_number cause in absurd (omega (arith, n, h)); buffer = after ∙ by_cut (erase_refusal (image_flash bs) c.args.bank) _ _ bs (sym cut.why.number ∙ ap cause_number cause) }

pub invariant_of-self-2 : goal.invariant_of-self-2
invariant_of-self-2 c =
    let m = c.args.self.now in
    let h = c.header-header.result in
    let is = c.header-header.ensures in
    let i = c.place-at.result in
    let at = c.place-at.ensures.place in
    let room = bank_end m c.args.bank h is c.if-bank-header.false i at in
    record { opened = zeros_opened m c.args.bank h is c.if-bank-header.false i at _ _ (zeros_over m.bytes c.deref_mut-2.result.now c.fill-2.new.self i _ _ c.deref_mut-2.ensures.value refl (omega arith) (c.fill-2.ensures.after (λ y e. e))) }

pub returns : goal.returns
returns c =
    let m = c.args.self.now in
    let bs = image_bytes m in
    let h = c.header-header.result in
    let is = c.header-header.ensures in
    let i = c.place-at.result in
    let at = c.place-at.ensures.place in
    let n = 9 * h.width in
    let there = in_image m c.args.bank h is c.if-bank-header.false i at in
    let room = bank_end m c.args.bank h is c.if-bank-header.false i at in
    let filled = zeros_over m.bytes c.deref_mut-2.result.now c.fill-2.new.self i (i + n - i) n c.deref_mut-2.ensures.value (omega arith) room (c.fill-2.ensures.after (λ y e. e)) in
    let after = c.pay.ensures ∙ ap paid (filled ∙ zeros_placed m c.args.bank h is c.if-bank-header.false i at (λ w. w)) in
    let some : 0 < image_charge bs = omega (arith, charge_read bs h is, c.if-header-eq0.false) in
    let o = opened_of m in
    let done = erase_done (image_flash bs) c.args.bank (on_read bs h is c.if-not-header.false) (in_bank bs c.args.bank there) _ some (ap image_flash after ∙ erase_done_state bs o c.args.bank there) in
    record { erases = done; untouched = tt; buffer = after ∙ by_done (erase_refusal (image_flash bs) c.args.bank) _ _ bs done.accepted }
