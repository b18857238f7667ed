use Rattle.std.proofs.Common.{pos, ◌≤ℤ◌, arith, lit≤, w64, SFits}
use Rattle.std.proofs.lemmas.Int.{ints, to_z-of_z}
use Rattle.compensation.specs.Ranges.{Size}
use Rattle.compensation.proofs.Bounds.{bounds}
use Rattle.compensation.proofs.Sizes.{widen}
use Rattle.compensation.proofs.calibration.Calibration.b7.Goals as goal

pub samples-requires : goal.samples-requires
samples-requires c = let oss = (bounds c.args.self.now).oss in omega (arith, ints)

pub returns-clause-range : goal.returns-clause-range
returns-clause-range c =
    let k = c.args.self.now.values in
    let oss = (bounds c.args.self.now).oss in
    let fo : SFits w64 k.oss = omega (arith, ints) in
    let fa = c.ranges.above in
    let fs : SFits w64 c.samples.result = record { sfits = c.samples.type_inv } in
    let r1 : SFits w64 c.floor_div.result = record { sfits = c.floor_div.type_inv } in
    let r2 : SFits w64 c.times.result = record { sfits = c.times.type_inv } in
    let d : Size 13600000 c.args.above = omega (arith, ints) in
    let qs = simp to_z-of_z at c.floor_div.ensures.sign in
    let q : Size 50000 c.floor_div.result = c.floor_div.ensures.bound 50000 (omega (arith, ints)) in
    let qpos : pos 0 ≤ℤ c.floor_div.result = qs (omega (arith, ints)) (omega (arith, ints)) in
    let tb = simp to_z-of_z at c.times.ensures.bound in
    let ts = simp to_z-of_z at c.times.ensures.sign in
    let top : Size 680000000000 c.times.result = tb 13600000 50000 d q in
    let low : pos 0 ≤ℤ c.times.result = ts c.requires.0 qpos in
    let high : c.times.result ≤ℤ pos 1000000000000 = (widen 680000000000 1000000000000 c.times.result (lit≤ tt) top).1 in
    simp to_z-of_z (low, high)
