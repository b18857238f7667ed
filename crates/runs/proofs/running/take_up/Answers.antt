use Rattle.std.proofs.Common.{◌≡◌, ℕ, suc, ◌+◌, ◌-◌, length, get_or, take, vec_items, ◌∙◌, subst, arith}
use Rattle.std.proofs.lemmas.List.{take_more}
use Rattle.runs.specs.States.{store_state}
use Rattle.runs.specs.declared.requests.Request.TheVariants.{Recover}
use Rattle.runs.specs.Hands.{held_by, Spare}
use Rattle.runs.proofs.Links.{made_more}
use Rattle.runs.proofs.running.take_up.Goals as goal

pub loop-request-preserved : goal.loop-request-preserved
loop-request-preserved g c =
    let qs = c.args.requests.now in
    let i = c.loop-request.request-index in
    let inv = c.loop-request.invariant in
    let left : length qs - i ≡ suc (length qs - (i + 1)) = omega (arith, c.loop-request-test.true) in
    let room = c.turn-outcome.ensures.room.0 (length qs - (i + 1)) (subst (λ (n : ℕ). Spare n c.loop-request.hand) left inv.1) in (
      made_more g.F.Flash (get_or qs i Recover) c.turn-outcome.result (store_state g.F.Flash c.turn-outcome.new.store) (held_by c.turn-outcome.new.hand) (take (i + 1) qs)
          (vec_items c.push_reserved.new.self) inv.0 c.turn-outcome.ensures.turn (take_more qs i Recover c.loop-request-test.true) c.push_reserved.ensures.items,
      room,
      omega (arith, c.push_reserved.ensures.len, inv.2),
      c.push_reserved.ensures.capacity ∙ inv.3,
      omega (arith, c.turn-outcome.ensures.room.1, inv.4),
    )
