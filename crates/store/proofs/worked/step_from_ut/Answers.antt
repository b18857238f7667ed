use Rattle.std.proofs.Common.{Ok, w16, w32, SFits, rules}
use Rattle.std.proofs.lemmas.Int.{to_z-of_z}
use Rattle.layout.specs.Held.{pairs_of}
use Rattle.store.proofs.Looking.{step_is}
use Rattle.store.proofs.worked.step_from_ut.Goals as goal

pub returns : goal.returns
returns c =
    let fb : SFits w16 c.in_ok-worked.worked.b5 = search rules in
    let ft : SFits w16 c.in_ok-worked.worked.t = search rules in
    let fu : SFits w32 c.args.ut = search rules in
    let u = simp to_z-of_z at c.in_ok-raw.ensures in
    simp to_z-of_z
    (step_is (pairs_of c.args.standing.now.pairs) c.args.standing.now.number c.args.ut c.in_ok-raw.raw c.in_ok-gathered.field-0.values (Ok c.in_ok-worked.worked)
    u c.in_ok-gathered.ensures.0 c.in_ok-gathered.ensures.1 c.in_ok-worked.ensures)
