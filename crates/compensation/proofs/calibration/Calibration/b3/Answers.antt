use Rattle.std.proofs.Common.{pos, ◌+ℤ◌, ◌*ℤ◌, arith, lit<, lit≤, w64, SFits}
use Rattle.std.proofs.lemmas.Int.{ints, to_z-of_z}
use Rattle.compensation.proofs.Bounds.{bounds}
use Rattle.compensation.proofs.Products.{size_product}
use Rattle.compensation.proofs.Sizes.{widen, size_sum, size_counted, size_constant, fits_size}
use Rattle.compensation.specs.Formulas.{b3_of}
use Rattle.compensation.proofs.calibration.Calibration.b3.Goals as goal

pub overflow_mul-k : goal.overflow_mul-k
overflow_mul-k c = let ac1 = (bounds c.args.self.now).ac1 in omega (arith, ints)

pub overflow_add-k : goal.overflow_add-k
overflow_add-k c = let ac1 = (bounds c.args.self.now).ac1 in omega (arith, ints)

pub samples-requires : goal.samples-requires
samples-requires c = let oss = (bounds c.args.self.now).oss in omega (arith, ints)

pub times-requires-clause-a_small : goal.times-requires-clause-a_small
times-requires-clause-a_small c = let ac1 = (bounds c.args.self.now).ac1 in omega (arith, ints)

pub returns : goal.returns
unfolding b3_of
returns c =
    let k = c.args.self.now.values in
    let b = bounds c.args.self.now in
    let oss = b.oss in
    let fo : SFits w64 k.oss = omega (arith, ints) in
    let f1 = fits_size 32768 k.ac1 (lit< tt) b.ac1 in
    let f3 = c.ranges.x3 in
    let fs : SFits w64 c.samples.result = record { sfits = c.samples.type_inv } in
    let r1 : SFits w64 c.times.result = record { sfits = c.times.type_inv } in
    let r2 : SFits w64 c.floor_over.result = record { sfits = c.floor_over.type_inv } in
    let four = size_product k.ac1 (pos 4) 32768 4 b.ac1 (size_constant 4 4 (lit≤ tt)) in
    let f = fits_size 131072 (k.ac1 *ℤ pos 4) (lit< tt) four in
    let sum = size_sum 131072 6100000 (k.ac1 *ℤ pos 4) c.args.x3 four c.requires in
    let g = fits_size 6231072 (k.ac1 *ℤ pos 4 +ℤ c.args.x3) (lit< tt) sum in
    let b1 = simp to_z-of_z at c.times.ensures.bound in
    let samples = size_counted 8 c.samples.result c.samples.ensures.range in
    let s = size_sum 49848576 2 c.times.result (pos 2) (b1 6231072 8 sum samples) (size_constant 2 2 (lit≤ tt)) in
    let h = fits_size 49848578 (c.times.result +ℤ pos 2) (lit< tt) s in
    let b2 = simp to_z-of_z at c.floor_over.ensures.bound in
    let v0 = simp to_z-of_z at c.samples.ensures.value in
    let v1 = simp to_z-of_z at c.times.ensures.value in
    let v2 = simp to_z-of_z at c.floor_over.ensures.value in
    record { value = simp to_z-of_z (cc); size = simp to_z-of_z (widen 12462145 13000000 c.floor_over.result (lit≤ tt) (b2 49848578 s)) }
