use Rattle.std.proofs.Common.{◌≡◌, pos, ◌+ℤ◌, Err, sym, ap, ◌∙◌, arith, lit<, w16, w64, SFits, rules}
use Rattle.std.proofs.lemmas.Int.{ints, to_z-of_z}
use Rattle.compensation.proofs.Bounds.{bounds}
use Rattle.compensation.proofs.Sizes.{fits_size}
use Rattle.compensation.proofs.Judged.{divisor_zero, divisor_good}
use Rattle.compensation.specs.Formulas.{worked_temperature, temperature_at, temperature_from_x2}
use Rattle.compensation.proofs.calibration.Calibration.temperature_at.Goals as goal

pub overflow_add-x1 : goal.overflow_add-x1
overflow_add-x1 c = let b = bounds c.args.self.now in omega (arith, ints)

pub returns-then-x1-k-eq0 : goal.returns-then-x1-k-eq0
returns-then-x1-k-eq0 c =
    let k = c.args.self.now.values in
    let md = (bounds c.args.self.now).md in
    sym (divisor_zero k (pos c.args.ut) c.x1-x1.result c.x1-x1.ensures.value (omega (arith, ints)))

pub judged_t-requires : goal.judged_t-requires
judged_t-requires c = omega (arith, ints)

pub returns-in_err-t : goal.returns-in_err-t
returns-in_err-t c =
    let k = c.args.self.now.values in
    let md = (bounds c.args.self.now).md in
    let fd = fits_size 32768 k.md (lit< tt) md in
    let r1 : SFits w64 c.x1-x1.result = record { sfits = c.x1-x1.type_inv } in
    let r2 : SFits w64 c.x2-x2.result = record { sfits = c.x2-x2.type_inv } in
    let n : (c.x1-x1.result +ℤ k.md ≡ pos 0 → ⊥) = λ z. omega (arith, ints) in
    let j = divisor_good k (pos c.args.ut) c.x1-x1.result c.x1-x1.ensures.value n in
    let v2 = simp to_z-of_z at c.x2-x2.ensures.value in
    let e : temperature_from_x2 c.x1-x1.result c.x2-x2.result ≡ temperature_at k (pos c.args.ut) = ap (λ z. temperature_from_x2 c.x1-x1.result z) v2 ∙ sym j in
    let fs : SFits w64 (c.x1-x1.result +ℤ c.x2-x2.result) = omega (arith, ints) in
    let v = simp to_z-of_z at c.in_err-t.ensures.value in
    let same : c.from_residual.result ≡ Err c.in_err-t.field-0.0 = search rules in
    same ∙ (ap (worked_temperature c.x1-x1.result c.x2-x2.result) v ∙ e)

pub returns : goal.returns
returns c =
    let k = c.args.self.now.values in
    let md = (bounds c.args.self.now).md in
    let fd = fits_size 32768 k.md (lit< tt) md in
    let r1 : SFits w64 c.x1-x1.result = record { sfits = c.x1-x1.type_inv } in
    let r2 : SFits w64 c.x2-x2.result = record { sfits = c.x2-x2.type_inv } in
    let n : (c.x1-x1.result +ℤ k.md ≡ pos 0 → ⊥) = λ z. omega (arith, ints) in
    let j = divisor_good k (pos c.args.ut) c.x1-x1.result c.x1-x1.ensures.value n in
    let v2 = simp to_z-of_z at c.x2-x2.ensures.value in
    let e : temperature_from_x2 c.x1-x1.result c.x2-x2.result ≡ temperature_at k (pos c.args.ut) = ap (λ z. temperature_from_x2 c.x1-x1.result z) v2 ∙ sym j in
    let small = c.in_ok-t.ensures.made in
    let fs : SFits w64 (c.x1-x1.result +ℤ c.x2-x2.result) = omega (arith, ints) in
    let fb : SFits w16 (c.x1-x1.result +ℤ c.x2-x2.result) = omega (arith, ints) in
    let ft : SFits w16 c.in_ok-t.t = search rules in
    let v = simp to_z-of_z at c.in_ok-t.ensures.value in
    simp to_z-of_z (ap (worked_temperature c.x1-x1.result c.x2-x2.result) v ∙ e)
