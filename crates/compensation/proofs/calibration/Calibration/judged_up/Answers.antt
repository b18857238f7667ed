use Rattle.std.proofs.Common.{◌≡◌, ◌-ℤ◌, Err, sym, ap, ◌∙◌, arith, lit<, w64, SFits, rules}
use Rattle.std.proofs.lemmas.Int.{ints, to_z-of_z}
use Rattle.compensation.specs.declared.readings.ReadingRefusal.TheVariants.{Pressure}
use Rattle.compensation.specs.Formulas.{b7_of, pressure_from_balance}
use Rattle.compensation.proofs.Bounds.{bounds}
use Rattle.compensation.proofs.Judged.{judged}
use Rattle.compensation.proofs.Sizes.{fits_size}
use Rattle.compensation.proofs.calibration.Calibration.judged_up.Goals as goal

pub returns-then-up-balance : goal.returns-then-up-balance
returns-then-up-balance c =
    let k = c.args.self.now.values in
    let from = c.balance-balance.result in
    let f3 : SFits w64 from.b3 = search rules in
    let f4 : SFits w64 from.b4 = search rules in
    let f6 = fits_size 36768 c.args.deviation.b6 (lit< tt) c.args.deviation.b6_small in
    let v = c.balance-balance.ensures.value in
    let refused : Err Pressure ≡ pressure_from_balance k from c.args.up = grind (arith, ints) in
    refused ∙ ap (λ b. pressure_from_balance k b c.args.up) v

pub returns : goal.returns
unfolding b7_of
returns c =
    let k = c.args.self.now.values in
    let from = c.balance-balance.result in
    let pcor = (bounds c.args.self.now).pcor in
    let fp = fits_size 500 k.pcor (lit< tt) pcor in
    let fu = c.ranges.up in
    let f3 : SFits w64 from.b3 = search rules in
    let f4 : SFits w64 from.b4 = search rules in
    let f6 = fits_size 36768 c.args.deviation.b6 (lit< tt) c.args.deviation.b6_small in
    let small = c.balance-balance.ensures.b3 in
    let fd : SFits w64 (c.args.up -ℤ from.b3) = omega (arith, ints) in
    let r7 : SFits w64 c.b7-b7.result = record { sfits = c.b7-b7.type_inv } in
    let v = c.balance-balance.ensures.value in
    let b7 = simp to_z-of_z at c.b7-b7.ensures.value in
    let worked = rw b7 at (simp to_z-of_z at c.worked.ensures) in
    worked ∙ (sym (judged k from c.args.up (omega (arith, ints)) (omega (arith, ints))) ∙ ap (λ b. pressure_from_balance k b c.args.up) v)
