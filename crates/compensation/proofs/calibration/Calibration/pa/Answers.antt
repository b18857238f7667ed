use Rattle.std.proofs.Common.{◌+ℤ◌, arith, lit<, lit≤, w64, SFits}
use Rattle.std.proofs.lemmas.Int.{ints, to_z-of_z}
use Rattle.compensation.specs.Ranges.{Size}
use Rattle.compensation.proofs.Bounds.{bounds}
use Rattle.compensation.proofs.Sizes.{widen, size_sum, fits_size}
use Rattle.compensation.specs.Formulas.{pa_of}
use Rattle.compensation.proofs.calibration.Calibration.pa.Goals as goal

pub overflow_add-result-2 : goal.overflow_add-result-2
overflow_add-result-2 c = let k = bounds c.args.self.now in omega (arith, ints, k)

pub returns : goal.returns
unfolding pa_of
returns c =
    let k = c.args.self.now.values in
    let pcor = (bounds c.args.self.now).pcor in
    let fp = c.ranges.p in
    let fc = fits_size 500 k.pcor (lit< tt) pcor in
    let r1 : SFits w64 c.floor_over.result = record { sfits = c.floor_over.type_inv } in
    let r2 : SFits w64 c.last_correction.result = record { sfits = c.last_correction.type_inv } in
    let s : Size 1100000 (c.args.p +ℤ c.last_correction.result) = omega (arith, ints) in
    let t = size_sum 1100000 500 (c.args.p +ℤ c.last_correction.result) k.pcor s pcor in
    let fs = fits_size 1100000 (c.args.p +ℤ c.last_correction.result) (lit< tt) s in
    let ft = fits_size 1100500 (c.args.p +ℤ c.last_correction.result +ℤ k.pcor) (lit< tt) t in
    let v1 = simp to_z-of_z at c.floor_over.ensures.value in
    let v2 = simp to_z-of_z at c.last_correction.ensures.value in
    record { value = simp to_z-of_z (cc); size = simp to_z-of_z (widen 1100500 1200000 (c.args.p +ℤ c.last_correction.result +ℤ k.pcor) (lit≤ tt) t) }
