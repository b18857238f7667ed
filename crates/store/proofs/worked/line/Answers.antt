use Rattle.std.proofs.Common.{◌≡◌, Ok, Err, w16, w32, SFits, ◌∙◌, rules}
use Rattle.std.proofs.lemmas.Int.{to_z-of_z}
use Rattle.layout.specs.Held.{pairs_of}
use Rattle.store.specs.Readings.{refusal_of}
use Rattle.store.proofs.Looking.{line_old, line_is}
use Rattle.store.proofs.worked.line.Goals as goal

pub returns-then-step-standing : goal.returns-then-step-standing
returns-then-step-standing c = line_old (pairs_of c.args.standing.now.pairs) c.args.standing.now.number c.args.step c.args.up c.in_ok-calibration.ensures.0 (search rules)

pub returns-in_err-worked : goal.returns-in_err-worked
returns-in_err-worked c =
    let fb : SFits w16 c.args.step.b5 = search rules in
    let fu : SFits w32 c.args.up = search rules in
    let why = c.in_err-worked.field-0.0 in
    let e = simp to_z-of_z at c.in_err-worked.ensures in
    let is : c.from_residual-in_err-worked.result ≡ Err (refusal_of why) = search rules in
    is ∙ line_is (pairs_of c.args.standing.now.pairs) c.args.standing.now.number c.args.step c.args.up c.in_ok-calibration.ensures.0 c.in_ok-calibration.calibration.values (Err why)
    c.in_ok-calibration.ensures.1 c.if-step-standing.false e

pub returns : goal.returns
returns c =
    let ft : SFits w16 c.args.step.t = search rules in
    let fb : SFits w16 c.args.step.b5 = search rules in
    let fp : SFits w32 c.in_ok-worked.worked.pa = search rules in
    let fu : SFits w32 c.args.up = search rules in
    let e = simp to_z-of_z at c.in_ok-worked.ensures in
    simp to_z-of_z
    (line_is (pairs_of c.args.standing.now.pairs) c.args.standing.now.number c.args.step c.args.up c.in_ok-calibration.ensures.0 c.in_ok-calibration.calibration.values (Ok c.in_ok-worked.worked)
    c.in_ok-calibration.ensures.1 c.if-step-standing.false e)
