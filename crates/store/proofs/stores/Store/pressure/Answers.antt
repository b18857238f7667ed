use Rattle.std.proofs.Common.{◌≡◌, ℕ, List, Err, Result, refl, w16, w32, SFits, rules}
use Rattle.std.proofs.lemmas.Int.{to_z-of_z}
use Rattle.layout.specs.declared.meanings.Pair.{Pair}
use Rattle.layout.specs.Held.{pairs_of}
use Rattle.store.specs.declared.entries.Entry.{Entry}
use Rattle.store.specs.declared.entries.Entry.TheVariants.{Pressure}
use Rattle.store.specs.declared.refusals.Refusal.{Refusal}
use Rattle.store.specs.declared.steps.Line.{Line}
use Rattle.store.specs.Readings.{pressure_answer}
use Rattle.store.specs.Moments.{moment}
use Rattle.store.specs.Calls.{Does}
use Rattle.store.proofs.Law.{follows_ledger}
use Rattle.store.proofs.Tying.{keeps_tied}
use Rattle.store.proofs.Looking.{looks_cold, looks_warm}
use Rattle.store.proofs.stores.Store.pressure.Goals as goal

pub returns-in_err-judge : goal.returns-in_err-judge
returns-in_err-judge g c =
    let m = moment g.F.Flash c.args.self.now in
    let m' = moment g.F.Flash c.judge.new.self in
    let st = c.args.step.numbers in
    let up = c.args.up in
    let f : List Pair → ℕ → Result Line Refusal = λ ps number. pressure_answer ps number st up in
    let why = c.in_err-judge.field-0.0 in
    let is : c.from_residual.result ≡ Err why = search rules in
    let e : Entry = Pressure st up c.from_residual.result in
    let d : Does m e m' = looks_cold m m' f why (c.from_residual.result) is c.in_err-judge.ensures.judged in
    record { does = d; tied = keeps_tied m e m' d; ledger = follows_ledger m e m' d; flash = c.judge.ensures.flash }

pub returns : goal.returns
returns g c =
    let m = moment g.F.Flash c.args.self.now in
    let m' = moment g.F.Flash c.judge.new.self in
    let s = c.judge.new.self in
    let st = c.args.step.numbers in
    let up = c.args.up in
    let f : List Pair → ℕ → Result Line Refusal = λ ps number. pressure_answer ps number st up in
    let fb : SFits w16 st.b5 = search rules in
    let ft : SFits w16 st.t = search rules in
    let fu : SFits w32 up = search rules in
    let q : c.line.result ≡ pressure_answer (pairs_of s.standing.pairs) s.standing.number st up = simp to_z-of_z at c.line.ensures in
    let e : Entry = Pressure st up c.line.result in
    let d : Does m e m' = looks_warm m m' s.phase s.standing s.change refl f _ c.in_ok-judge.ensures.judged c.line.result q in
    record { does = d; tied = keeps_tied m e m' d; ledger = follows_ledger m e m' d; flash = c.judge.ensures.flash }
