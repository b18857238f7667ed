use Rattle.std.proofs.Common.{◌≡◌, pos, ◌-ℤ◌, sym, ap, ◌∙◌, arith, w64, SFits, to_z, of_z}
use Rattle.std.proofs.lemmas.Int.{ints, to_z-of_z}
use Rattle.compensation.specs.Formulas.{balance_of, pressure_from_balance}
use Rattle.compensation.proofs.Judged.{read}
use Rattle.compensation.proofs.Ranges.{from_le, from_lt}
use Rattle.compensation.proofs.calibration.Calibration.pressure.Goals as goal

pub returns : goal.returns
returns c =
    let k = c.args.self.now.values in
    let limit = c.up_limit.result in
    let fl : SFits w64 limit = record { sfits = c.up_limit.type_inv } in
    let fu = c.ranges.up in
    let fb = c.ranges.b5 in
    let up : to_z w64 (of_z w64 c.from-up.result) ≡ c.args.up = omega (arith, ints) in
    let b6 : c.of.result.b6 ≡ c.args.b5 -ℤ pos 4000 = simp to_z-of_z at c.of.ensures in
    let inside = simp (up, to_z-of_z) at c.if-not-contains.ensures.cases in
    let v = simp up at c.judged_up.ensures in
    v
    ∙ (ap (λ b. pressure_from_balance k (balance_of k b) c.args.up) b6
    ∙ sym (read k c.args.b5 c.args.up limit c.up_limit.ensures.value (from_le (pos 0) c.args.up inside.0) (from_lt c.args.up limit inside.1)))
