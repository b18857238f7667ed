use Rattle.std.proofs.Common.{◌≡◌, ◌+◌, ◌-◌, ◌*◌, ◌^◌, ◌<◌, false, set, sym, ap, ◌∙◌, subst, arith, rules}
use Rattle.flash.specs.declared.units.Unit.TheVariants.{Blank, Programmed}
use Rattle.flash.specs.FlashState.{unit_at, ValueFits}
use Rattle.flash.specs.Causes.{cause_number, cause_place}
use Rattle.flash.proofs.Keeping.{program_cut, program_done}
use Rattle.simulator.specs.Formed.{full_of, items, table_state}
use Rattle.simulator.specs.SimulatorStates.{flash_of}
use Rattle.simulator.specs.Residues.{program_residue}
use Rattle.simulator.proofs.Cuts.{residue_allowed}
use Rattle.simulator.proofs.Fitting.{set_fits, program_residue_fits}
use Rattle.simulator.proofs.Simulating.{table_unit, simulated, there_of, place_of}
use Rattle.simulator.proofs.simulators.calls.SimulatorFlash.program.Goals as goal

pub overflow_mul-at : goal.overflow_mul-at
overflow_mul-at c = let s = c.args.self.now in omega (arith, place_of s c.args.bank c.args.unit c.in_ok-read.ensures.reads.accepted, s.filled, s.shape)

pub overflow_add-at : goal.overflow_add-at
overflow_add-at c = let s = c.args.self.now in omega (arith, place_of s c.args.bank c.args.unit c.in_ok-read.ensures.reads.accepted, s.filled, s.shape)

pub index_mut-requires : goal.index_mut-requires
index_mut-requires c = place_of c.args.self.now c.args.bank c.args.unit c.in_ok-read.ensures.reads.accepted

pub invariant_of-self-clause-values : goal.invariant_of-self-clause-values
invariant_of-self-clause-values c =
    let s = c.args.self.now in
    let value : c.args.value < 2 ^ 64 = omega arith in
    let left : ValueFits c.program_residue.result = subst ValueFits (sym c.program_residue.ensures) (program_residue_fits s.entry.residue c.args.value value) in
    set_fits (items s) (c.args.bank * s.width + c.args.unit) c.program_residue.result left s.values

pub returns-then-self-eq0-clause-programs : goal.returns-then-self-eq0-clause-programs
returns-then-self-eq0-clause-programs c =
    let s = c.args.self.now in
    let read = c.in_ok-read.ensures.reads in
    let blank : c.in_ok-read.field-0 ≡ Blank = search rules in
    let free : unit_at (simulated s) c.args.bank c.args.unit ≡ Blank = sym read.value ∙ blank in
    let p = there_of s c.args.bank c.args.unit read.accepted in
    let x = program_residue s.entry.residue c.args.value in
    let at = c.args.bank * s.width + c.args.unit in
    let cause = c.new-then-self-eq0.ensures in
    let left = c.program_residue.ensures in
    program_cut (simulated s) c.args.bank c.args.unit read.accepted free _ c.new-then-self-eq0.result _ c.args.value c.if-self-eq0.true (ap cause_number cause) (ap cause_place cause)
    x (residue_allowed s.entry.residue c.args.value)
    (ap flash_of c.turn_off.ensures ∙ ap (λ y. table_state s.banks s.width (set (items s) at y) false s.entry.charge) left ∙ table_unit s.banks s.width (items s) false s.entry.charge (full_of s) c.args.bank p.0 c.args.unit x p.1)

pub index_mut-requires-2 : goal.index_mut-requires-2
index_mut-requires-2 c = place_of c.args.self.now c.args.bank c.args.unit c.in_ok-read.ensures.reads.accepted

pub invariant_of-self-2-clause-values : goal.invariant_of-self-2-clause-values
invariant_of-self-2-clause-values c =
    let s = c.args.self.now in
    let value : c.args.value < 2 ^ 64 = omega arith in
    set_fits (items s) (c.args.bank * s.width + c.args.unit) (Programmed c.args.value) value s.values

pub returns-clause-programs : goal.returns-clause-programs
returns-clause-programs c =
    let s = c.args.self.now in
    let read = c.in_ok-read.ensures.reads in
    let blank : c.in_ok-read.field-0 ≡ Blank = search rules in
    let free : unit_at (simulated s) c.args.bank c.args.unit ≡ Blank = sym read.value ∙ blank in
    let p = there_of s c.args.bank c.args.unit read.accepted in
    let paid : 0 < s.entry.charge = omega (arith, c.if-self-eq0.false) in
    program_done (simulated s) c.args.bank c.args.unit read.accepted free _ c.args.value paid
    (ap flash_of c.pay.ensures ∙ table_unit s.banks s.width (items s) s.on (s.entry.charge - 1) (full_of s) c.args.bank p.0 c.args.unit (Programmed c.args.value) p.1)
