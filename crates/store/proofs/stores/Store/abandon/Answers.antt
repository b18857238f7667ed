use Rattle.std.proofs.Common.{◌≡◌, Ok, Err, Result, sym, subst, rules}
use Rattle.store.specs.declared.entries.Entry.{Entry}
use Rattle.store.specs.declared.entries.Entry.TheVariants.{Abandon}
use Rattle.store.specs.declared.refusals.Refusal.{Refusal}
use Rattle.store.specs.Moments.{moment}
use Rattle.store.specs.Calls.{Does}
use Rattle.store.proofs.Law.{follows_ledger}
use Rattle.store.proofs.Tying.{keeps_tied}
use Rattle.store.proofs.Looking.{abandons_err}
use Rattle.store.proofs.stores.Store.abandon.Goals as goal

pub returns-in_err-judge : goal.returns-in_err-judge
returns-in_err-judge g c =
    let m = moment g.F.Flash c.args.self.now in
    let m' = moment g.F.Flash c.judge.new.self in
    let shown = c.args.ticket.number in
    let why = c.in_err-judge.field-0.0 in
    let is : c.from_residual.result ≡ Err why = search rules in
    let e : Entry = Abandon shown c.from_residual.result in
    let d : Does m e m' =
    subst (λ (r : Result (Unit {0}) Refusal). Does m (Abandon shown r) m') (sym is) (abandons_err m.memory m m' shown why c.in_err-judge.ensures.judged) in
    record { does = d; tied = keeps_tied m e m' d; ledger = follows_ledger m e m' d; flash = c.judge.ensures.flash }

pub returns : goal.returns
returns g c =
    let m = moment g.F.Flash c.args.self.now in
    let m' = moment g.F.Flash c.judge.new.self in
    let e : Entry = Abandon c.args.ticket.number (Ok tt) in
    let d : Does m e m' = search rules in
    record { does = d; tied = keeps_tied m e m' d; ledger = follows_ledger m e m' d; flash = c.judge.ensures.flash }
