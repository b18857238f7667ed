use Rattle.std.proofs.Common.{◌≡◌, ◌-◌, ◌*◌, ◌<◌, false, take, drop, replicate, refl, sym, ap, ◌∙◌, arith}
use Rattle.std.proofs.lemmas.List.{length-replicate}
use Rattle.flash.specs.declared.units.Unit.TheVariants.{Blank}
use Rattle.flash.specs.Causes.{cause_number, cause_place}
use Rattle.flash.proofs.Keeping.{erase_absent, erase_cut, erase_done}
use Rattle.simulator.specs.Formed.{full_of, items, rows_length}
use Rattle.simulator.specs.SimulatorStates.{state_of, flash_of, paid, turned_off, with_bank_blank, with_bank_cut, with_table}
use Rattle.simulator.specs.Residues.{bank_residue}
use Rattle.simulator.proofs.Simulating.{bank_blank, bank_cut, table_bank, table_residue, row_residue_length, in_bank, simulated, erase_state_same, erase_state_cut, erase_state_done}
use Rattle.simulator.proofs.simulators.calls.SimulatorFlash.erase.Goals as goal

pub invariant_of-self-clause-values : goal.invariant_of-self-clause-values
invariant_of-self-clause-values c =
    let u = c.units_of-units in
    let r = bank_cut c.args.self.now c.args.bank u.result.start u.result.end c.deref_mut.result.now c.cut_erase.new.bank (omega (arith, c.if-bank-self.false)) c.deref_mut.ensures.value u.ensures.start u.ensures.end c.cut_erase.ensures in
    r.values

pub invariant_of-self-2-clause-values : goal.invariant_of-self-2-clause-values
invariant_of-self-2-clause-values c =
    let u = c.units_of-units in
    let r = bank_blank c.args.self.now c.args.bank u.result.start u.result.end c.deref_mut-2.result.now c.fill.new.self (omega (arith, c.if-bank-self.false)) c.deref_mut-2.ensures.value u.ensures.start u.ensures.end (c.fill.ensures.after (λ y e. e)) in
    r.values

pub returns-then-bank-self : goal.returns-then-bank-self
returns-then-bank-self c =
    let s = c.args.self.now in
    let size = rows_length s.banks s.width (items s) in
    let cause = c.new-then-bank-self.ensures in
    let none = erase_absent _ c.new-then-bank-self.result (simulated s) c.args.bank c.if-not-self.false (omega (arith, size, c.if-bank-self.true)) (ap cause_number cause) (ap cause_place cause) in
    let code = sym none.why.number ∙ ap cause_number cause in
    record { erases = none; untouched = λ _. refl; state = erase_state_same (state_of s) c.args.bank (omega (arith, code)) (omega (arith, code)) }

pub returns-then-self-eq0 : goal.returns-then-self-eq0
returns-then-self-eq0 c =
    let s = c.args.self.now in
    let b = c.args.bank in
    let there = in_bank s.banks s.width (items s) s.on s.entry.charge (full_of s) b c.if-bank-self.false in
    let left = bank_residue s.entry.pattern (take s.width (drop (b * s.width) (items s))) in
    let size = row_residue_length s.banks s.width (items s) false s.entry.charge (full_of s) b c.if-bank-self.false s.entry.pattern in
    let u = c.units_of-units in
    let bank = bank_cut s b u.result.start u.result.end c.deref_mut.result.now c.cut_erase.new.bank (omega (arith, c.if-bank-self.false)) c.deref_mut.ensures.value u.ensures.start u.ensures.end c.cut_erase.ensures in
    let after : state_of c.turn_off.new.self ≡ turned_off (with_bank_cut (state_of s) b) = c.turn_off.ensures ∙ ap (λ xs. turned_off (with_table (state_of s) xs)) bank.table in
    let cause = c.new-then-self-eq0.ensures in
    let cut = erase_cut (simulated s) b c.if-not-self.false there _ c.new-then-self-eq0.result _ c.if-self-eq0.true (ap cause_number cause) (ap cause_place cause)
    left (table_residue s.banks s.width (items s) s.on s.entry.charge (full_of s) b c.if-bank-self.false s.entry.pattern)
    (ap flash_of after ∙ table_bank s.banks s.width (items s) false s.entry.charge (full_of s) b c.if-bank-self.false left size) in
    record { erases = cut; untouched = λ h. let n = ap cause_number cause in absurd (omega (arith, n, h)); state = after ∙ erase_state_cut (state_of s) b (sym cut.why.number ∙ ap cause_number cause) }

pub returns : goal.returns
returns c =
    let s = c.args.self.now in
    let b = c.args.bank in
    let there = in_bank s.banks s.width (items s) s.on s.entry.charge (full_of s) b c.if-bank-self.false in
    let left = replicate s.width Blank in
    let u = c.units_of-units in
    let bank = bank_blank s b u.result.start u.result.end c.deref_mut-2.result.now c.fill.new.self (omega (arith, c.if-bank-self.false)) c.deref_mut-2.ensures.value u.ensures.start u.ensures.end (c.fill.ensures.after (λ y e. e)) in
    let after : state_of c.pay.new.self ≡ paid (with_bank_blank (state_of s) b) = c.pay.ensures ∙ ap (λ xs. paid (with_table (state_of s) xs)) bank.table in
    let paid_for : 0 < s.entry.charge = omega (arith, c.if-self-eq0.false) in
    let done = erase_done (simulated s) b c.if-not-self.false there _ paid_for
    (ap flash_of after ∙ table_bank s.banks s.width (items s) s.on (s.entry.charge - 1) (full_of s) b c.if-bank-self.false left (length-replicate s.width Blank)) in
    record { erases = done; untouched = tt; state = after ∙ erase_state_done (state_of s) b done.accepted }
