use Rattle.std.proofs.Common.{◌≡◌, ℕ, Ok, Err, Result, sym, ap, subst, rules}
use Rattle.store.specs.declared.entries.Entry.{Entry}
use Rattle.store.specs.declared.entries.Entry.TheVariants.{Begin}
use Rattle.store.specs.declared.refusals.Refusal.{Refusal}
use Rattle.store.specs.Calls.{ticket_number}
use Rattle.store.specs.Moments.{moment}
use Rattle.store.specs.Calls.{Does}
use Rattle.store.proofs.Law.{follows_ledger}
use Rattle.store.proofs.Tying.{keeps_tied}
use Rattle.store.proofs.stores.Store.begin.Goals as goal

pub returns-in_err-number : goal.returns-in_err-number
returns-in_err-number g c =
    let m = moment g.F.Flash c.args.self.now in
    let m' = moment g.F.Flash c.judge.new.self in
    let why = c.in_err-number.field-0.0 in
    let is : c.from_residual.result ≡ Err why = search rules in
    let same : ticket_number c.from_residual.result ≡ Err why = ap ticket_number is in
    let e : Entry = Begin (ticket_number c.from_residual.result) in
    let d : Does m e m' = subst (λ (r : Result ℕ Refusal). Does m (Begin r) m') (sym same) c.in_err-number.ensures.judged in
    record { does = d; tied = keeps_tied m e m' d; ledger = follows_ledger m e m' d; flash = c.judge.ensures.flash }

pub returns : goal.returns
returns g c =
    let m = moment g.F.Flash c.args.self.now in
    let m' = moment g.F.Flash c.judge.new.self in
    let e : Entry = Begin (Ok c.in_ok-number.number) in
    let d : Does m e m' = c.in_ok-number.ensures.judged in
    record { does = d; tied = keeps_tied m e m' d; ledger = follows_ledger m e m' d; flash = c.judge.ensures.flash }
