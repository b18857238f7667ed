use Rattle.store.specs.Moments.{moment}
use Rattle.store.proofs.Writing.{format_begins}
use Rattle.store.proofs.Tying.{format_tied}
use Rattle.store.proofs.stores.Store.format.Goals as goal

pub returns : goal.returns
returns g c =
    let m = moment g.F.Flash c.args.self.now in
    let m' = moment g.F.Flash c.judge.new.self in
    record { does = c.judge.ensures.judged; tied = format_tied m c.judge.result m' c.judge.ensures.judged; past = format_begins m c.judge.result m' c.judge.ensures.judged; flash = c.judge.ensures.flash }
