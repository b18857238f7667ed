use Rattle.std.proofs.Common.{pos, ◌≤ℤ◌, sym, arith, w32, w64, SFits, rules}
use Rattle.std.proofs.lemmas.Int.{ints, to_z-of_z}
use Rattle.compensation.proofs.Judged.{limited}
use Rattle.compensation.proofs.pressure.Balanced.worked.Goals as goal

pub returns : goal.returns
returns c =
    let w = c.args.self in
    let k = c.args.k.now.values in
    let within = w.b7_within in
    let f7 : SFits w64 w.b7 = omega (arith, ints) in
    let f4 : SFits w64 w.balance.b4 = search rules in
    let fp : SFits w64 c.p-p.result = record { sfits = c.p-p.type_inv } in
    let ra : SFits w64 c.pa.result = record { sfits = c.pa.type_inv } in
    let size = c.pa.ensures.size in
    let ra32 : SFits w32 c.pa.result = omega (arith, ints) in
    let pa = simp to_z-of_z at c.pa.ensures.value in
    let most : c.p-p.result ≤ℤ pos 1000000 = omega (arith, ints) in
    simp to_z-of_z (rw pa (sym (limited w.balance w.b7 k.pcor c.p-p.result c.p-p.ensures.value most)))
