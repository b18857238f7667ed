use Rattle.std.proofs.Common.{◌+◌, ◌*◌, ◌<◌, length, sym, ap, ◌∙◌, arith}
use Rattle.std.proofs.lemmas.List.{get_or_read}
use Rattle.flash.specs.declared.units.Unit.TheVariants.{Blank}
use Rattle.flash.specs.Causes.{cause_number, cause_place}
use Rattle.flash.proofs.Refusals.{read_refusal_open}
use Rattle.flash.proofs.Keeping.{read_missing}
use Rattle.simulator.specs.Formed.{full_of, items, rows_length}
use Rattle.simulator.proofs.Simulating.{simulated, table_unit_at, in_bank, place_fits}
use Rattle.simulator.proofs.simulators.calls.SimulatorFlash.read.Goals as goal
use Rattle.simulator.proofs.simulators.calls.SimulatorFlash.read.Goals.{then-bank-self-via-then-bank-self, then-bank-self-via-else-bank-self+then-unit-self}

pub returns-then-bank-self : goal.returns-then-bank-self
returns-then-bank-self c =
    let s = c.args.self.now in
    let size = rows_length s.banks s.width (items s) in
    let far : c.args.bank < length (simulated s).units → c.args.unit < s.width → ⊥ = λ h k. elim c.then-bank-self.branch [ then-bank-self-via-then-bank-self w ↦ omega (arith, w.if-bank-self.true) | then-bank-self-via-else-bank-self+then-unit-self w ↦ omega (arith, w.if-unit-self.true) ] in
    let missing = read_missing (simulated s) c.args.bank c.args.unit c.if-not-self.false far in
    let cause = c.new-then-bank-self.ensures in
    record { reads = record { number = ap cause_number cause ∙ sym missing; refused = omega (arith, missing); place = ap cause_place cause } }

pub returns : goal.returns
returns c =
    let s = c.args.self.now in
    let there = in_bank s.banks s.width (items s) s.on s.entry.charge (full_of s) c.args.bank c.if-bank-self.false in
    let fits = place_fits s.banks s.width (items s) s.on s.entry.charge (full_of s) c.args.bank c.if-bank-self.false c.args.unit c.if-unit-self.false in
    let held = table_unit_at s.banks s.width (items s) s.on s.entry.charge (full_of s) c.args.bank c.if-bank-self.false c.args.unit c.if-unit-self.false in
    record {
      reads = record {
        accepted = read_refusal_open (simulated s) c.args.bank c.args.unit c.if-not-self.false there c.if-unit-self.false;
        value = get_or_read (items s) (c.args.bank * s.width + c.args.unit) c.index.result.now fits c.index.ensures Blank ∙ sym held;
      };
    }
