use Rattle.std.proofs.Common.{◌==◌, [], length, sym, ap, ◌∙◌, append-nil, subst, eqb-true}
use Rattle.std.proofs.lemmas.Result.{err_from_is_err_and}
use Rattle.std.proofs.KnownBytes.{Consumes-trans}
use Rattle.std.specs.Io.KnownBytes.{Consumes}
use Rattle.lines.specs.Inputs.{kept_of}
use Rattle.lines.proofs.Takes.{step_on, none_left}
use Rattle.lines.proofs.inputs.read_line.Goals as goal

pub returns-in_err-take_part : goal.returns-in_err-take_part
returns-in_err-take_part g c =
    let so_far = c.loop.invariant in
    let p = err_from_is_err_and c.from_residual.result c.from_residual.ensures.1 in
    let failed = c.in_err-take_part.ensures so_far.0 so_far.3 in
    rw p.1 (so_far.0, so_far.1, subst (Consumes _ _) (append-nil so_far.0) (Consumes-trans _ _ _ so_far.0 [] so_far.2 failed))

pub returns-in-LineEnd : goal.returns-in-LineEnd
returns-in-LineEnd g c =
    let so_far = c.loop.invariant in
    let taken = step_on _ _ _ so_far.0 _ _ _ c.in-LineEnd.is so_far.1 so_far.2 (c.in_ok-take_part.ensures so_far.0 so_far.3) in
    (taken.0, taken.1, taken.2, taken.3)

pub returns-in-InputEnd : goal.returns-in-InputEnd
returns-in-InputEnd g c =
    let so_far = c.loop.invariant in
    let taken = step_on _ _ _ so_far.0 _ _ _ c.in-InputEnd.is so_far.1 so_far.2 (c.in_ok-take_part.ensures so_far.0 so_far.3) in
    none_left _ _ taken.0 _ taken.3 (eqb-true _ _ (sym c.is_empty.ensures ∙ c.if-is_empty.true)) taken.2

pub returns-in-InputEnd-2 : goal.returns-in-InputEnd-2
returns-in-InputEnd-2 g c =
    let so_far = c.loop.invariant in
    let taken = step_on _ _ _ so_far.0 _ _ _ c.in-InputEnd.is so_far.1 so_far.2 (c.in_ok-take_part.ensures so_far.0 so_far.3) in
    (taken.0, taken.1, (taken.2, λ e. absurd (cc (ap (λ l. length l == 0) (taken.3 ∙ ap kept_of e), c.is_empty.ensures, c.if-is_empty.false))), taken.3)

pub loop-preserved : goal.loop-preserved
loop-preserved g c =
    let so_far = c.loop.invariant in
    let taken = step_on _ _ _ so_far.0 _ _ _ c.in-Within.is so_far.1 so_far.2 (c.in_ok-take_part.ensures so_far.0 so_far.3) in
    (taken.0, taken.1, taken.2, taken.3)
