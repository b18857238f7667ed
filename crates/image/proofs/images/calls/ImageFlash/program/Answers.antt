use Rattle.std.proofs.Common.{◌≡◌, ◌+◌, ◌-◌, ◌^◌, ◌<◌, ◌≤◌, length, set, sym, refl, ap, ◌∙◌, inr, arith, rules}
use Rattle.std.specs.Vec.{with_item}
use Rattle.std.proofs.lemmas.List.{length-set}
use Rattle.flash.specs.declared.units.Unit.TheVariants.{Blank, Unreadable}
use Rattle.flash.specs.Calls.{program_refusal}
use Rattle.flash.specs.Causes.{cause_number, cause_place}
use Rattle.flash.proofs.Keeping.{program_cut, program_done}
use Rattle.flash.proofs.Refusals.{by_done, by_cut}
use Rattle.image.specs.ImageOpening.{image_bytes}
use Rattle.image.specs.ImageStates.{image_charge, image_flash, paid, switched_off, unit_written}
use Rattle.image.proofs.ImageNumbers.{set_same_but}
use Rattle.image.proofs.ImageUnits.{written_same_but}
use Rattle.image.proofs.ImageFlashes.{open_kept, program_done_state, program_cut_state}
use Rattle.image.proofs.ImageCalls.{charge_read, cut_refusal, free_of, opened_of, be_over, still_opened, there_of}
use Rattle.image.proofs.images.calls.ImageFlash.program.Goals as goal

pub place-at-requires-clause-bank : goal.place-at-requires-clause-bank
place-at-requires-clause-bank c = (there_of c.args.self.now c.args.bank c.args.unit c.in_ok-read.ensures.reads.accepted).0

pub invariant_of-self : goal.invariant_of-self
invariant_of-self c =
    let m = c.args.self.now in
    let bs = image_bytes m in
    let i = c.place-at.result in
    record { opened = open_kept bs (set bs i _) 8 (i + 9) (set_same_but bs i _ 8 (i + 9) (omega (arith, c.place-at.ensures.place)) (omega arith)) (omega arith) m.opened }

pub returns-then-header-eq0 : goal.returns-then-header-eq0
returns-then-header-eq0 c =
    let m = c.args.self.now in
    let bs = image_bytes m in
    let s = image_flash bs in
    let read = c.in_ok-read.ensures.reads in
    let there = there_of m c.args.bank c.args.unit read.accepted in
    let blank : c.in_ok-read.field-0 ≡ Blank = search rules in
    let free = free_of s c.args.bank c.args.unit c.in_ok-read.field-0 read.value blank in
    let after = c.switch_off.ensures ∙ ap (λ k. switched_off (set bs k 2)) c.place-at.ensures.place in
    let empty : image_charge bs ≡ 0 = sym (charge_read bs c.header.result c.header.ensures) ∙ c.if-header-eq0.true in
    let cause = c.new-then-header-eq0.ensures in
    let cut = program_cut s c.args.bank c.args.unit read.accepted free _ c.new-then-header-eq0.result _ c.args.value empty (ap cause_number cause) (ap cause_place cause) Unreadable (inr (inr refl)) (ap image_flash after ∙ program_cut_state bs (opened_of m) c.args.bank c.args.unit there.0 there.1) in
    record { programs = cut; untouched = λ h. let n = ap cause_number cause in absurd (omega (arith, n, h)); buffer = after ∙ by_cut (program_refusal s c.args.bank c.args.unit) _ _ bs (cut_refusal s c.args.bank c.args.unit read.accepted free empty) }

pub invariant_of-self-2 : goal.invariant_of-self-2
invariant_of-self-2 c =
    let m = c.args.self.now in
    let bs = image_bytes m in
    let i = c.place-at.result in
    let us = set bs i 1 in
    let room : i + 1 + 8 ≤ length us = omega (arith, c.place-at.ensures.within, length-set bs i 1) in
    let written = be_over (with_item m.bytes i 1) c.deref_mut.result.now c.copy_from_slice.new.self (i + 1) (i + 9 - (i + 1)) 8 c.deref_mut.ensures.value (omega arith) room _ (c.copy_from_slice.ensures.after ∙ c.to_be_bytes.ensures) in
    record { opened = still_opened m _ _ i (i + 9) written (written_same_but bs i _) (omega (arith, c.place-at.ensures.place)) }

pub returns : goal.returns
returns c =
    let m = c.args.self.now in
    let bs = image_bytes m in
    let s = image_flash bs in
    let i = c.place-at.result in
    let v = c.args.value in
    let us = set bs i 1 in
    let read = c.in_ok-read.ensures.reads in
    let there = there_of m c.args.bank c.args.unit read.accepted in
    let blank : c.in_ok-read.field-0 ≡ Blank = search rules in
    let free = free_of s c.args.bank c.args.unit c.in_ok-read.field-0 read.value blank in
    let room : i + 1 + 8 ≤ length us = omega (arith, c.place-at.ensures.within, length-set bs i 1) in
    let written = be_over (with_item m.bytes i 1) c.deref_mut.result.now c.copy_from_slice.new.self (i + 1) (i + 9 - (i + 1)) 8 c.deref_mut.ensures.value (omega arith) room v (c.copy_from_slice.ensures.after ∙ c.to_be_bytes.ensures) in
    let after = c.pay.ensures ∙ ap paid written ∙ ap (λ k. paid (unit_written bs k v)) c.place-at.ensures.place in
    let some : 0 < image_charge bs = omega (arith, charge_read bs c.header.result c.header.ensures, c.if-header-eq0.false) in
    let fits : v < 2 ^ 64 = omega arith in
    let done = program_done s c.args.bank c.args.unit read.accepted free _ v some (ap image_flash after ∙ program_done_state bs (opened_of m) c.args.bank c.args.unit there.0 there.1 v fits) in
    record { programs = done; untouched = tt; buffer = after ∙ by_done (program_refusal s c.args.bank c.args.unit) _ _ bs done.accepted }
