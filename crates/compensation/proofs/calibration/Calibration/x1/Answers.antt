use Rattle.std.proofs.Common.{◌≡◌, pos, ◌-ℤ◌, arith, lit<, lit≤, w64, SFits, to_z, of_z}
use Rattle.std.proofs.lemmas.Int.{ints, to_z-of_z}
use Rattle.compensation.specs.Formulas.{x1_of}
use Rattle.compensation.specs.Ranges.{Size}
use Rattle.compensation.proofs.Bounds.{bounds}
use Rattle.compensation.proofs.Sizes.{widen, fits_size}
use Rattle.compensation.proofs.calibration.Calibration.x1.Goals as goal

pub overflow_sub-from : goal.overflow_sub-from
overflow_sub-from c = let ac6 = (bounds c.args.self.now).ac6 in omega (arith, ints)

pub scaled-requires : goal.scaled-requires
scaled-requires c =
    let b = bounds c.args.self.now in
    let ac5 = b.ac5 in
    let ac6 = b.ac6 in
    record { a_small = omega (arith, ints); b_small = omega (arith, ints); d_positive = omega (arith, ints) }

pub returns : goal.returns
unfolding x1_of
returns c =
    let k = c.args.self.now.values in
    let b = bounds c.args.self.now in
    let ac6 = b.ac6 in
    let f5 = fits_size 65535 k.ac5 (lit< tt) b.ac5 in
    let f6 = fits_size 65535 k.ac6 (lit< tt) b.ac6 in
    let u : to_z w64 (of_z w64 c.from.result) ≡ pos c.args.ut = omega (arith, ints) in
    let r : SFits w64 c.scaled.result = record { sfits = c.scaled.type_inv } in
    let d : Size 131070 (pos c.args.ut -ℤ k.ac6) = omega (arith, ints) in
    let fd = fits_size 131070 (pos c.args.ut -ℤ k.ac6) (lit< tt) d in
    let b2 = simp (u, to_z-of_z) at c.scaled.ensures.bound in
    let v = simp (u, to_z-of_z) at c.scaled.ensures.value in
    record { value = simp to_z-of_z (v); size = simp to_z-of_z (widen 262137 262200 c.scaled.result (lit≤ tt) (b2 131070 65535 d b.ac5)) }
