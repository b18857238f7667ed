use Rattle.store.specs.declared.entries.Entry.{Entry}
use Rattle.store.specs.declared.entries.Entry.TheVariants.{Recover}
use Rattle.store.specs.Moments.{moment}
use Rattle.store.proofs.Law.{follows_ledger}
use Rattle.store.proofs.Tying.{keeps_tied}
use Rattle.store.proofs.stores.Store.recover.Goals as goal

pub returns : goal.returns
returns g c =
    let m = moment g.F.Flash c.args.self.now in
    let m' = moment g.F.Flash c.judge.new.self in
    let e : Entry = Recover c.judge.result in
    record { does = c.judge.ensures.judged; tied = keeps_tied m e m' c.judge.ensures.judged; ledger = follows_ledger m e m' c.judge.ensures.judged; flash = c.judge.ensures.flash }
