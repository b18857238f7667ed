use Rattle.std.proofs.Common.{◌≡◌, ℕ, List, ℤ, Ok, Err, Option, Result, refl, rules}
use Rattle.layout.specs.declared.meanings.Pair.{Pair}
use Rattle.layout.specs.Held.{pairs_of}
use Rattle.store.specs.declared.entries.Entry.{Entry}
use Rattle.store.specs.declared.entries.Entry.TheVariants.{Get}
use Rattle.store.specs.declared.refusals.Refusal.{Refusal}
use Rattle.store.specs.declared.refusals.Refusal.TheVariants.{UnknownKey}
use Rattle.store.specs.Calls.{get_answer}
use Rattle.store.specs.Moments.{moment}
use Rattle.store.specs.Calls.{Does}
use Rattle.store.proofs.Law.{follows_ledger}
use Rattle.store.proofs.Tying.{keeps_tied}
use Rattle.store.proofs.Looking.{looks_cold, looks_warm}
use Rattle.store.proofs.stores.Store.get.Goals as goal

pub returns-in_err-judge : goal.returns-in_err-judge
returns-in_err-judge g c =
    let m = moment g.F.Flash c.args.self.now in
    let m' = moment g.F.Flash c.judge.new.self in
    let f : List Pair → ℕ → Result (Option ℤ) Refusal = λ ps number. get_answer ps c.args.key in
    let why = c.in_err-judge.field-0.0 in
    let is : c.from_residual.result ≡ Err why = search rules in
    let e : Entry = Get c.args.key c.from_residual.result in
    let d : Does m e m' = looks_cold m m' f why (c.from_residual.result) is c.in_err-judge.ensures.judged in
    record { does = d; tied = keeps_tied m e m' d; ledger = follows_ledger m e m' d; flash = c.judge.ensures.flash }

pub returns-then-is_key : goal.returns-then-is_key
returns-then-is_key g c =
    let m = moment g.F.Flash c.args.self.now in
    let m' = moment g.F.Flash c.judge.new.self in
    let st = c.judge.new.self in
    let f : List Pair → ℕ → Result (Option ℤ) Refusal = λ ps number. get_answer ps c.args.key in
    let r : Result (Option ℤ) Refusal = Ok c.value.result in
    let q : r ≡ get_answer (pairs_of st.standing.pairs) c.args.key = search rules in
    let e : Entry = Get c.args.key r in
    let d : Does m e m' = looks_warm m m' st.phase st.standing st.change refl f _ c.in_ok-judge.ensures.judged r q in
    record { does = d; tied = keeps_tied m e m' d; ledger = follows_ledger m e m' d; flash = c.judge.ensures.flash }

pub returns-else-is_key : goal.returns-else-is_key
returns-else-is_key g c =
    let m = moment g.F.Flash c.args.self.now in
    let m' = moment g.F.Flash c.judge.new.self in
    let st = c.judge.new.self in
    let f : List Pair → ℕ → Result (Option ℤ) Refusal = λ ps number. get_answer ps c.args.key in
    let r : Result (Option ℤ) Refusal = Err UnknownKey in
    let q : r ≡ get_answer (pairs_of st.standing.pairs) c.args.key = search rules in
    let e : Entry = Get c.args.key r in
    let d : Does m e m' = looks_warm m m' st.phase st.standing st.change refl f _ c.in_ok-judge.ensures.judged r q in
    record { does = d; tied = keeps_tied m e m' d; ledger = follows_ledger m e m' d; flash = c.judge.ensures.flash }
