use Rattle.std.proofs.Common.{sym, ap, ◌∙◌}
use Rattle.layout.specs.PairLists.{well_formed}
use Rattle.layout.specs.Tables.{pairs_in}
use Rattle.layout.proofs.WellFormed.{well_formed_with, well_formed_few}
use Rattle.layout.specs.PairLists.{with_pair}
use Rattle.layout.proofs.pairs.Pairs.lay.Goals as goal

pub lay-requires : goal.lay-requires
lay-requires c =
    let s = c.args.self.now in
    let w = well_formed_with c.args.pair (pairs_in s.table) (sym c.if-not-admits.ensures) s.ok in
    record { few = s.few; room = well_formed_few (with_pair c.args.pair (pairs_in s.table)) w }

pub invariant_of-self : goal.invariant_of-self
invariant_of-self c =
    let s = c.args.self.now in
    let w = well_formed_with c.args.pair (pairs_in s.table) (sym c.if-not-admits.ensures) s.ok in
    record { few = c.lay.ensures.few; ok = ap well_formed c.lay.ensures.pairs ∙ w }
