use Rattle.std.proofs.Common.{w32, SFits, rules}
use Rattle.std.proofs.lemmas.Int.{to_z-of_z}
use Rattle.store.specs.declared.entries.Entry.{Entry}
use Rattle.store.specs.declared.entries.Entry.TheVariants.{Put}
use Rattle.store.specs.Moments.{moment}
use Rattle.store.specs.Calls.{Does}
use Rattle.store.proofs.Law.{follows_ledger}
use Rattle.store.proofs.Tying.{keeps_tied}
use Rattle.store.proofs.stores.Store.put.Goals as goal

pub returns : goal.returns
returns g c =
    let m = moment g.F.Flash c.args.self.now in
    let m' = moment g.F.Flash c.judge.new.self in
    let e : Entry = Put c.args.ticket.now.number c.args.key c.args.value c.judge.result in
    let v : SFits w32 c.args.value = search rules in
    let d : Does m e m' = simp to_z-of_z at c.judge.ensures.judged in
    record { does = d; tied = keeps_tied m e m' d; ledger = follows_ledger m e m' d; flash = c.judge.ensures.flash }
