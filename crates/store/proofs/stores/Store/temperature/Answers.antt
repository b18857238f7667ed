use Rattle.std.proofs.Common.{◌≡◌, ℕ, List, Ok, Err, Result, sym, refl, ap, subst, w32, SFits, rules}
use Rattle.std.proofs.lemmas.Int.{to_z-of_z}
use Rattle.layout.specs.declared.meanings.Pair.{Pair}
use Rattle.layout.specs.Held.{pairs_of}
use Rattle.store.specs.declared.entries.Entry.{Entry}
use Rattle.store.specs.declared.entries.Entry.TheVariants.{Temperature}
use Rattle.store.specs.declared.refusals.Refusal.{Refusal}
use Rattle.store.specs.declared.steps.StepNumbers.{StepNumbers}
use Rattle.store.specs.Calls.{step_numbers}
use Rattle.store.specs.Readings.{temperature_answer}
use Rattle.store.specs.Moments.{moment}
use Rattle.store.specs.Calls.{Does}
use Rattle.store.proofs.Law.{follows_ledger}
use Rattle.store.proofs.Tying.{keeps_tied}
use Rattle.store.proofs.Looking.{looks_cold, looks_warm}
use Rattle.store.proofs.stores.Store.temperature.Goals as goal

pub returns-in_err-judge : goal.returns-in_err-judge
returns-in_err-judge g c =
    let m = moment g.F.Flash c.args.self.now in
    let m' = moment g.F.Flash c.judge.new.self in
    let f : List Pair → ℕ → Result StepNumbers Refusal = λ ps number. temperature_answer ps number c.args.ut in
    let why = c.in_err-judge.field-0.0 in
    let is : c.from_residual.result ≡ Err why = search rules in
    let same : step_numbers c.from_residual.result ≡ Err why = ap step_numbers is in
    let e : Entry = Temperature c.args.ut (step_numbers c.from_residual.result) in
    let d : Does m e m' = looks_cold m m' f why (step_numbers c.from_residual.result) same c.in_err-judge.ensures.judged in
    record { does = d; tied = keeps_tied m e m' d; ledger = follows_ledger m e m' d; flash = c.judge.ensures.flash }

pub returns-in_err-numbers : goal.returns-in_err-numbers
returns-in_err-numbers g c =
    let m = moment g.F.Flash c.args.self.now in
    let m' = moment g.F.Flash c.judge.new.self in
    let s = c.judge.new.self in
    let ut = c.args.ut in
    let f : List Pair → ℕ → Result StepNumbers Refusal = λ ps number. temperature_answer ps number ut in
    let fu : SFits w32 ut = search rules in
    let why = c.in_err-numbers.field-0.0 in
    let is : c.from_residual-in_err-numbers.result ≡ Err why = search rules in
    let same : step_numbers c.from_residual-in_err-numbers.result ≡ Err why = ap step_numbers is in
    let r : Result StepNumbers Refusal = Err why in
    let q : r ≡ temperature_answer (pairs_of s.standing.pairs) s.standing.number ut = simp to_z-of_z at c.in_err-numbers.ensures in
    let e : Entry = Temperature ut (step_numbers c.from_residual-in_err-numbers.result) in
    let d : Does m e m' =
    subst (λ (x : Result StepNumbers Refusal). Does m (Temperature ut x) m') (sym same)
    (looks_warm m m' s.phase s.standing s.change refl f _ c.in_ok-judge.ensures.judged r q) in
    record { does = d; tied = keeps_tied m e m' d; ledger = follows_ledger m e m' d; flash = c.judge.ensures.flash }

pub returns : goal.returns
returns g c =
    let m = moment g.F.Flash c.args.self.now in
    let m' = moment g.F.Flash c.judge.new.self in
    let s = c.judge.new.self in
    let ut = c.args.ut in
    let f : List Pair → ℕ → Result StepNumbers Refusal = λ ps number. temperature_answer ps number ut in
    let fu : SFits w32 ut = search rules in
    let r : Result StepNumbers Refusal = Ok c.in_ok-numbers.numbers in
    let q : r ≡ temperature_answer (pairs_of s.standing.pairs) s.standing.number ut = simp to_z-of_z at c.in_ok-numbers.ensures in
    let e : Entry = Temperature ut r in
    let d : Does m e m' = looks_warm m m' s.phase s.standing s.change refl f _ c.in_ok-judge.ensures.judged r q in
    record { does = d; tied = keeps_tied m e m' d; ledger = follows_ledger m e m' d; flash = c.judge.ensures.flash }
