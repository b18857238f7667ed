use Rattle.std.proofs.Common.{pos, ◌-ℤ◌, arith}
use Rattle.std.proofs.lemmas.Int.{ints, to_z-of_z}
use Rattle.compensation.specs.Formulas.{s_of}
use Rattle.compensation.specs.Ranges.{Size}
use Rattle.compensation.proofs.pressure.Deviation.of.Goals as goal

pub invariant_of-result : goal.invariant_of-result
unfolding s_of
invariant_of-result c =
    let small : Size 36768 (c.args.b5 -ℤ pos 4000) = omega (arith, ints) in
    let bound = c.scaled.ensures.bound 36768 36768 (omega (arith, ints)) (omega (arith, ints)) in
    record { b6_small = omega (arith, ints); s_small = omega (arith, ints); s_value = search (arith, ints, to_z-of_z, c.scaled.ensures.value) }
