use Rattle.std.proofs.Common.{[], ◌++◌, take, refl, sym, ap, subst, ◌∙◌, append-nil, arith, eqb-true}
use Rattle.std.proofs.KnownBytes.{Consumes-nil, Consumes-kept}
use Rattle.std.specs.Io.BufRead.{FillKeeps}
use Rattle.lines.specs.Inputs.{kept_of}
use Rattle.lines.proofs.Takes.{IsExtent, taken_part}
use Rattle.lines.proofs.inputs.take_part.Goals.{in-Some, in-None, in-None-2}
use Rattle.lines.proofs.inputs.take_part.Goals as goal

pub returns-then-eq : goal.returns-then-eq
returns-then-eq g c line e =
    ([], λ k d h. absurd (omega arith), Consumes-kept _ _ _ [] (Consumes-nil _) c.fill_buf.follows.holds-at-none.0, e ∙ ap kept_of (sym (append-nil line)))

pub returns : goal.returns
returns g c line e =
    let rested = c.fill_buf.follows.lender-at-none in
    let filled = subst (FillKeeps _ (g.R.Read.remaining rested) (g.R.BufRead.consumable_len rested)) c.in-Ok.is c.fill_buf.follows.holds-at-none in
    let shown = c.in-Ok.ready.now in
    let at = sym c.line_end.ensures in
    let extent : IsExtent shown c.match-line_end.len = elim c.match-line_end.branch [
      | in-Some w ↦ subst (IsExtent shown) (sym w.len-is) (at ∙ w.in-Some.is, refl)
      | in-None w ↦ subst (IsExtent shown) (sym w.len-is) (at ∙ w.in-None.is, eqb-true _ _ (sym w.is_empty.ensures ∙ w.if-is_empty.true), refl, refl)
      | in-None-2 w ↦ subst (IsExtent shown) (sym w.len-is) (at ∙ w.in-None.is, refl, refl)
    ] in
    taken_part _ _ _ _ shown line _ c.match-line_end.len extent c.in-Ok.ensures.front c.in-Ok.ensures.end filled.0 filled.1 c.consume.ensures.bytes
    (c.keep.ensures ∙ ap (λ l. kept_of (l ++ take c.match-line_end.len.0 shown)) e)
