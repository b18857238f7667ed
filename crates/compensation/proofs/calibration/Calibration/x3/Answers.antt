use Rattle.std.proofs.Common.{◌+ℤ◌, arith, lit<, lit≤, w64, SFits}
use Rattle.std.proofs.lemmas.Int.{ints, to_z-of_z}
use Rattle.compensation.specs.Formulas.{x3_of}
use Rattle.compensation.proofs.Bounds.{bounds}
use Rattle.compensation.proofs.Sizes.{widen, size_sum, fits_size}
use Rattle.compensation.proofs.calibration.Calibration.x3.Goals as goal

pub scaled-requires-clause-a_small : goal.scaled-requires-clause-a_small
scaled-requires-clause-a_small c = let b2 = (bounds c.args.self.now).b2 in omega (arith, ints)

pub scaled-requires-2-clause-a_small : goal.scaled-requires-2-clause-a_small
scaled-requires-2-clause-a_small c = let ac2 = (bounds c.args.self.now).ac2 in omega (arith, ints)

pub returns : goal.returns
unfolding x3_of
returns c =
    let k = c.args.self.now.values in
    let b = bounds c.args.self.now in
    let d = c.args.deviation in
    let f2 = fits_size 32768 k.b2 (lit< tt) b.b2 in
    let fa = fits_size 32768 k.ac2 (lit< tt) b.ac2 in
    let f6 = fits_size 36768 d.b6 (lit< tt) d.b6_small in
    let fs = fits_size 340000 d.s (lit< tt) d.s_small in
    let r1 : SFits w64 c.scaled.result = record { sfits = c.scaled.type_inv } in
    let r2 : SFits w64 c.scaled-2.result = record { sfits = c.scaled-2.type_inv } in
    let b1 = simp to_z-of_z at c.scaled.ensures.bound in
    let b2 = simp to_z-of_z at c.scaled-2.ensures.bound in
    let s = size_sum 5440001 588289 c.scaled.result c.scaled-2.result (b1 32768 340000 b.b2 d.s_small) (b2 32768 36768 b.ac2 d.b6_small) in
    let ft = fits_size 6028290 (c.scaled.result +ℤ c.scaled-2.result) (lit< tt) s in
    let v1 = simp to_z-of_z at c.scaled.ensures.value in
    let v2 = simp to_z-of_z at c.scaled-2.ensures.value in
    record { value = simp to_z-of_z (cc); size = simp to_z-of_z (widen 6028290 6100000 (c.scaled.result +ℤ c.scaled-2.result) (lit≤ tt) s) }
