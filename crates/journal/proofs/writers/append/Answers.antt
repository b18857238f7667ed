use Rattle.std.proofs.Common.{◌≡◌, ℕ, [], ◌∷◌, Err, Result, sym, refl, ap, ◌∙◌, subst, rules}
use Rattle.flash.specs.Seen.{seen}
use Rattle.layout.specs.Codec.{commit_value}
use Rattle.layout.specs.Held.{pairs_of}
use Rattle.journal.specs.Commit.{records, appending}
use Rattle.journal.specs.Writes.{Performed, WroteThrough, program}
use Rattle.journal.proofs.Performing.{appending_is, program_performed, performed_append, performed_short}
use Rattle.journal.proofs.Chaining.{program_alone, chain_append, chain_short}
use Rattle.journal.proofs.writers.append.Goals as goal

pub returns-in_err-at-clause-writes : goal.returns-in_err-at-clause-writes
returns-in_err-at-clause-writes g c =
    let ps = pairs_of c.args.change.now in
    let t = g.F.Fault.FlashFault in
    let s = seen g.F.Flash c.args.flash.now in
    let s' = seen g.F.Flash c.program_records.new.flash in
    let e = c.in_err-at.field-0.0 in
    let is : c.from_residual.result ≡ Err e = search rules in
    subst (λ (r : Result (Unit {0}) g.row.F-Fault.Denot). Performed t (appending c.args.standing.now.bank c.args.standing.now.end ps c.args.number) s s' r) (sym is)
    (subst (λ ws. Performed {A = Unit {0}} t ws s s' (Err e)) (appending_is c.args.standing.now.bank c.args.standing.now.end _ _ ps c.args.number refl refl)
    (performed_short t ℕ (Unit {0}) (records c.args.standing.now.bank c.args.standing.now.end ps) _ s s' e c.in_err-at.ensures.writes))

pub returns-clause-writes : goal.returns-clause-writes
returns-clause-writes g c =
    let ps = pairs_of c.args.change.now in
    let t = g.F.Fault.FlashFault in
    let s = seen g.F.Flash c.args.flash.now in
    let m = seen g.F.Flash c.program_records.new.flash in
    let s' = seen g.F.Flash c.program.new.self in
    let v = c.encode_commit.result in
    let e = appending_is c.args.standing.now.bank c.args.standing.now.end c.in_ok-at.at v ps c.args.number c.in_ok-at.ensures.next
    (c.encode_commit.ensures.value ∙ ap (λ k. commit_value k c.args.number) c.len.ensures.len) in
    subst (λ ws. Performed t ws s s' c.program.result) e
    (performed_append t (records c.args.standing.now.bank c.args.standing.now.end ps) (program c.args.standing.now.bank c.in_ok-at.at v ∷ []) s m s' c.in_ok-at.at c.program.result
    c.in_ok-at.ensures.writes (program_performed t m c.args.standing.now.bank c.in_ok-at.at v s' c.program.result c.program.ensures.programs))

pub returns-in_err-at-clause-itself : goal.returns-in_err-at-clause-itself
returns-in_err-at-clause-itself g c =
    let b = c.args.standing.now.bank in
    let ps = pairs_of c.args.change.now in
    subst (λ ws. WroteThrough g.F.Flash ws c.args.flash.now c.program_records.new.flash) (appending_is b c.args.standing.now.end _ _ ps c.args.number refl refl)
    (chain_short g.F.Flash g.F.Fault.FlashFault ℕ (records b c.args.standing.now.end ps) _ c.args.flash.now c.program_records.new.flash c.in_err-at.field-0.0
    c.in_err-at.ensures.writes c.in_err-at.ensures.itself)

pub returns-clause-itself : goal.returns-clause-itself
returns-clause-itself g c =
    let b = c.args.standing.now.bank in
    let ps = pairs_of c.args.change.now in
    let t = g.F.Fault.FlashFault in
    let at = c.in_ok-at.at in
    let v = c.encode_commit.result in
    let e = appending_is b c.args.standing.now.end at v ps c.args.number c.in_ok-at.ensures.next
    (c.encode_commit.ensures.value ∙ ap (λ k. commit_value k c.args.number) c.len.ensures.len) in
    subst (λ ws. WroteThrough g.F.Flash ws c.args.flash.now c.program.new.self) e
    (chain_append g.F.Flash t (records b c.args.standing.now.end ps) (program b at v ∷ []) c.args.flash.now c.program_records.new.flash c.program.new.self at
    c.in_ok-at.ensures.writes c.in_ok-at.ensures.itself
    (program_alone g.F.Flash t b at v c.program_records.new.flash c.program.new.self c.program.result c.program.ensures.programs c.program.ensures.programmed c.program.ensures.untouched))
