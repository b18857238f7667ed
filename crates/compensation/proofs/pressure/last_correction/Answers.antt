use Rattle.std.proofs.Common.{pos, ◌+ℤ◌, arith, lit<, lit≤, w64, SFits}
use Rattle.std.proofs.lemmas.Int.{ints, to_z-of_z}
use Rattle.compensation.specs.Ranges.{Size}
use Rattle.compensation.proofs.Sizes.{widen, size_sum, fits_size}
use Rattle.compensation.specs.Formulas.{last_correction_of}
use Rattle.compensation.proofs.pressure.last_correction.Goals as goal

pub scaled-requires : goal.scaled-requires
scaled-requires c = let b = c.times.ensures.bound 4000 4000 (omega (arith, ints)) (omega (arith, ints)) in omega (arith, ints)

pub returns : goal.returns
unfolding last_correction_of
returns c =
    let fp = c.ranges.p in
    let fq = c.ranges.q in
    let r0 : SFits w64 c.times.result = record { sfits = c.times.type_inv } in
    let r1 : SFits w64 c.scaled.result = record { sfits = c.scaled.type_inv } in
    let r2 : SFits w64 c.scaled-2.result = record { sfits = c.scaled-2.type_inv } in
    let r3 : SFits w64 c.floor_over.result = record { sfits = c.floor_over.type_inv } in
    let q : Size 4000 c.args.q = omega (arith, ints) in
    let p : Size 1000000 c.args.p = omega (arith, ints) in
    let b0 = simp to_z-of_z at c.times.ensures.bound in
    let b1 = simp to_z-of_z at c.scaled.ensures.bound in
    let b2 = simp to_z-of_z at c.scaled-2.ensures.bound in
    let s = size_sum 741700 112259 c.scaled.result c.scaled-2.result (b1 16000000 3038 (b0 4000 4000 q q) (omega (arith, ints))) (b2 7357 1000000 (omega (arith, ints)) p) in
    let t = size_sum 853959 3791 (c.scaled.result +ℤ c.scaled-2.result) (pos 3791) s (omega (arith, ints)) in
    let fs = fits_size 853959 (c.scaled.result +ℤ c.scaled-2.result) (lit< tt) s in
    let ft = fits_size 857750 (c.scaled.result +ℤ c.scaled-2.result +ℤ pos 3791) (lit< tt) t in
    let b3 = simp to_z-of_z at c.floor_over.ensures.bound in
    let v0 = simp to_z-of_z at c.times.ensures.value in
    let v1 = simp to_z-of_z at c.scaled.ensures.value in
    let v2 = simp to_z-of_z at c.scaled-2.ensures.value in
    let v3 = simp to_z-of_z at c.floor_over.ensures.value in
    record { value = simp to_z-of_z (cc); size = simp to_z-of_z (widen 53610 100000 c.floor_over.result (lit≤ tt) (b3 857750 t)) }
