use Rattle.std.proofs.Common.{pos, ◌+ℤ◌, arith, w64, SFits}
use Rattle.std.proofs.lemmas.Int.{ints, to_z-of_z}
use Rattle.compensation.specs.Formulas.{b4_of}
use Rattle.compensation.proofs.Bounds.{bounds}
use Rattle.compensation.proofs.calibration.Calibration.b4.Goals as goal

pub scaled-requires-clause-a_small : goal.scaled-requires-clause-a_small
scaled-requires-clause-a_small c = let ac4 = (bounds c.args.self.now).ac4 in omega (arith, ints)

pub returns : goal.returns
unfolding b4_of
returns c =
    let ac4 = (bounds c.args.self.now).ac4 in
    let a = c.scaled.ensures.bound 65535 122768 (omega (arith, ints)) (omega (arith, ints)) in
    let f : SFits w64 (c.args.y3 +ℤ pos 32768) = omega (arith, ints) in
    record { value = search (arith, ints, to_z-of_z, c.scaled.ensures.value); size = omega (arith, ints) }
