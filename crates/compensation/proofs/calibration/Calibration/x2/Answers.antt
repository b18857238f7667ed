use Rattle.std.proofs.Common.{pos, ◌+ℤ◌, ◌*ℤ◌, arith, lit<, lit≤, w64, SFits}
use Rattle.std.proofs.lemmas.Int.{ints, to_z-of_z}
use Rattle.compensation.proofs.Bounds.{bounds}
use Rattle.compensation.proofs.Products.{size_product}
use Rattle.compensation.proofs.Sizes.{size_sum, size_constant, fits_size}
use Rattle.compensation.specs.Formulas.{x2_of}
use Rattle.compensation.proofs.calibration.Calibration.x2.Goals as goal

pub overflow_mul-k : goal.overflow_mul-k
overflow_mul-k c = let mc = (bounds c.args.self.now).mc in omega (arith, ints)

pub overflow_add-x1 : goal.overflow_add-x1
overflow_add-x1 c = let md = (bounds c.args.self.now).md in omega (arith, ints)

pub floor_div-requires : goal.floor_div-requires
floor_div-requires c =
    let k = c.args.self.now.values in
    let b = bounds c.args.self.now in
    let mc = b.mc in
    let md = b.md in
    let f1 = c.ranges.x1 in
    let fd = fits_size 32768 k.md (lit< tt) md in
    let d = size_sum 262200 32768 c.args.x1 k.md c.requires.x1_small md in
    let fs = fits_size 294968 (c.args.x1 +ℤ k.md) (lit< tt) d in
    record { d_nonzero = simp to_z-of_z c.requires.divisor_nonzero; n_not_least = omega (arith, ints); d_not_least = omega (arith, ints) }

pub returns : goal.returns
unfolding x2_of
returns c =
    let k = c.args.self.now.values in
    let b = bounds c.args.self.now in
    let f1 = c.ranges.x1 in
    let fc = fits_size 32768 k.mc (lit< tt) b.mc in
    let fd = fits_size 32768 k.md (lit< tt) b.md in
    let r : SFits w64 c.floor_div.result = record { sfits = c.floor_div.type_inv } in
    let n = size_product k.mc (pos 2048) 32768 2048 b.mc (size_constant 2048 2048 (lit≤ tt)) in
    let fn = fits_size 67108864 (k.mc *ℤ pos 2048) (lit< tt) n in
    let d = size_sum 262200 32768 c.args.x1 k.md c.requires.x1_small b.md in
    let fs = fits_size 294968 (c.args.x1 +ℤ k.md) (lit< tt) d in
    let bound = simp to_z-of_z at c.floor_div.ensures.bound in
    let v = simp to_z-of_z at c.floor_div.ensures.value in
    record { value = simp to_z-of_z (cc); size = simp to_z-of_z (bound 67108864 n) }
