use Rattle.std.proofs.Common.{sym, refl, ap, ◌∙◌, eqb-true, arith}
use Rattle.std.proofs.lemmas.List.{take_all, length-drop}
use Rattle.std.proofs.KnownBytes.{Keeps-refl}
use Rattle.lines.proofs.Written.{failed_after, flushed, fronts_more, fronts_kept}
use Rattle.lines.proofs.outputs.write_through.Goals.{in-Ok, in-Err+else-ne}
use Rattle.lines.proofs.outputs.write_through.Goals as goal

pub returns-then-is_empty : goal.returns-then-is_empty
returns-then-is_empty g c =
    flushed _ _ _ c.args.bytes.now c.loop.rest.now c.flush.result (eqb-true _ _ (sym c.is_empty.ensures ∙ c.if-is_empty.true)) c.loop.invariant c.flush.ensures.bytes

pub returns-in-Ok-eq0 : goal.returns-in-Ok-eq0
returns-in-Ok-eq0 g c =
    failed_after _ _ _ c.args.bytes.now _ (fronts_more _ _ _ c.args.bytes.now c.loop.rest.now _ _ c.loop.invariant c.in-Ok-eq0.ensures.bytes refl)
    (Keeps-refl (g.W.Write.contents c.write.new.self))

pub returns-then-ne : goal.returns-then-ne
returns-then-ne g c = failed_after _ _ _ c.args.bytes.now c.loop.rest.now c.loop.invariant c.in-Err.ensures.bytes

pub loop-preserved : goal.loop-preserved
loop-preserved g c =
    elim c.match-write.branch [
      | in-Ok w ↦ fronts_more _ _ _ c.args.bytes.now c.loop.rest.now _ _ c.loop.invariant w.in-Ok.ensures.bytes (
          ap (λ r. r.now) w.rest-is ∙ take_all _ _ (omega (arith, length-drop w.in-Ok.n c.loop.rest.now))
          )
      | in-Err+else-ne w ↦ fronts_kept _ _ _ c.args.bytes.now c.loop.rest.now _ c.loop.invariant w.in-Err.ensures.bytes (ap (λ r. r.now) w.rest-is)
    ]

pub returns : goal.returns
returns g c = failed_after _ _ _ c.args.bytes.now c.loop.rest.now c.loop.invariant (Keeps-refl (g.W.Write.contents c.loop.output))
