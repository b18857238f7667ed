use Rattle.std.proofs.Common.{pos, ◌+ℤ◌, arith, w64, SFits}
use Rattle.std.proofs.lemmas.Int.{ints, to_z-of_z}
use Rattle.compensation.specs.Formulas.{t_of}
use Rattle.compensation.proofs.temperature.t.Goals as goal

pub returns-clause-value : goal.returns-clause-value
unfolding t_of
returns-clause-value c =
    let f : SFits w64 (c.args.b5 +ℤ pos 8) = omega (arith, ints) in
    search (arith, ints, to_z-of_z, c.floor_over.ensures.value)
