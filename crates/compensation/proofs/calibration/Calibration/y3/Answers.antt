use Rattle.std.proofs.Common.{pos, ◌+ℤ◌, arith, lit<, lit≤, w64, SFits}
use Rattle.std.proofs.lemmas.Int.{ints, to_z-of_z}
use Rattle.compensation.specs.Ranges.{Size}
use Rattle.compensation.proofs.Bounds.{bounds}
use Rattle.compensation.proofs.Sizes.{widen, size_sum, fits_size}
use Rattle.compensation.specs.Formulas.{y3_of}
use Rattle.compensation.proofs.calibration.Calibration.y3.Goals as goal

pub scaled-requires-clause-a_small : goal.scaled-requires-clause-a_small
scaled-requires-clause-a_small c = let ac3 = (bounds c.args.self.now).ac3 in omega (arith, ints)

pub scaled-requires-2-clause-a_small : goal.scaled-requires-2-clause-a_small
scaled-requires-2-clause-a_small c = let b1 = (bounds c.args.self.now).b1 in omega (arith, ints)

pub returns : goal.returns
unfolding y3_of
returns c =
    let k = c.args.self.now.values in
    let b = bounds c.args.self.now in
    let d = c.args.deviation in
    let f3 = fits_size 32768 k.ac3 (lit< tt) b.ac3 in
    let f1 = fits_size 32768 k.b1 (lit< tt) b.b1 in
    let f6 = fits_size 36768 d.b6 (lit< tt) d.b6_small in
    let fs = fits_size 340000 d.s (lit< tt) d.s_small in
    let r1 : SFits w64 c.scaled.result = record { sfits = c.scaled.type_inv } in
    let r2 : SFits w64 c.scaled-2.result = record { sfits = c.scaled-2.type_inv } in
    let r3 : SFits w64 c.floor_over.result = record { sfits = c.floor_over.type_inv } in
    let b1 = simp to_z-of_z at c.scaled.ensures.bound in
    let b2 = simp to_z-of_z at c.scaled-2.ensures.bound in
    let s : Size 317074 (c.scaled.result +ℤ c.scaled-2.result) = size_sum 147073 170001 c.scaled.result c.scaled-2.result (b1 32768 36768 b.ac3 d.b6_small) (b2 32768 340000 b.b1 d.s_small) in
    let t : Size 317076 (c.scaled.result +ℤ c.scaled-2.result +ℤ pos 2) = size_sum 317074 2 (c.scaled.result +ℤ c.scaled-2.result) (pos 2) s (omega (arith, ints)) in
    let fs2 = fits_size 317074 (c.scaled.result +ℤ c.scaled-2.result) (lit< tt) s in
    let ft = fits_size 317076 (c.scaled.result +ℤ c.scaled-2.result +ℤ pos 2) (lit< tt) t in
    let b3 = simp to_z-of_z at c.floor_over.ensures.bound in
    let v1 = simp to_z-of_z at c.scaled.ensures.value in
    let v2 = simp to_z-of_z at c.scaled-2.ensures.value in
    let v3 = simp to_z-of_z at c.floor_over.ensures.value in
    record { value = simp to_z-of_z (cc); size = simp to_z-of_z (widen 79270 90000 c.floor_over.result (lit≤ tt) (b3 317076 t)) }
