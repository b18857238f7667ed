use Rattle.std.proofs.Common.{pos, ◌*ℤ◌, ◌≤ℤ◌, arith, w64, SFits, rules}
use Rattle.std.proofs.lemmas.Int.{ints, to_z-of_z}
use Rattle.compensation.specs.Ranges.{Size}
use Rattle.compensation.specs.Formulas.{p_of}
use Rattle.compensation.proofs.pressure.Balanced.p.Goals as goal

pub returns-then-self-lt2147483648-clause-value : goal.returns-then-self-lt2147483648-clause-value
unfolding p_of
returns-then-self-lt2147483648-clause-value c =
    let w = c.args.self in
    let within = w.b7_within in
    let f7 : SFits w64 w.b7 = omega (arith, ints) in
    let f4 : SFits w64 w.balance.b4 = search rules in
    let fd : SFits w64 (w.b7 *ℤ pos 2) = omega (arith, ints) in
    let fr : SFits w64 c.floor_div.result = record { sfits = c.floor_div.type_inv } in
    let t = simp to_z-of_z at c.if-self-lt2147483648.true in
    let v = simp to_z-of_z at c.floor_div.ensures.value in
    simp to_z-of_z (rw t v)

pub returns-else-self-lt2147483648 : goal.returns-else-self-lt2147483648
unfolding p_of
returns-else-self-lt2147483648 c =
    let w = c.args.self in
    let within = w.b7_within in
    let f7 : SFits w64 w.b7 = omega (arith, ints) in
    let f4 : SFits w64 w.balance.b4 = search rules in
    let r = c.floor_div-else-self-lt2147483648.result in
    let fr : SFits w64 r = record { sfits = c.floor_div-else-self-lt2147483648.type_inv } in
    let t = simp to_z-of_z at c.if-self-lt2147483648.false in
    let v = simp to_z-of_z at c.floor_div-else-self-lt2147483648.ensures.value in
    let s = simp to_z-of_z at c.floor_div-else-self-lt2147483648.ensures.sign in
    let b = simp to_z-of_z at c.floor_div-else-self-lt2147483648.ensures.bound in
    let low : pos 0 ≤ℤ r = s within.0 w.gain in
    let size : Size 1000000000000 r = b 1000000000000 (omega (arith, ints)) in
    let fd : SFits w64 (r *ℤ pos 2) = omega (arith, ints) in
    record { value = simp to_z-of_z (rw (t, v)); range = simp to_z-of_z (omega (arith, ints)) }
