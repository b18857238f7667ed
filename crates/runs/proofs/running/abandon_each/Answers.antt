use Rattle.std.proofs.Common.{◌≡◌, ℕ, List, [], ◌∷◌, ◌++◌, map, Some, vec_items, deque_items, sym, ap, ◌∙◌, subst, arith}
use mathlib.Core.List.{map-append}
use Rattle.std.proofs.lemmas.List.{append_assoc}
use Rattle.store.specs.declared.entries.Entry.TheVariants.{Abandon as abandoned}
use Rattle.runs.specs.States.{store_state, Effect}
use Rattle.runs.specs.declared.requests.Request.TheVariants.{Abandon}
use Rattle.runs.specs.Held.{held, ticket_numbers, step_numbers}
use Rattle.runs.specs.Runs.{abandoning}
use Rattle.runs.proofs.Links.{made_more, abandon_turn}
use Rattle.runs.proofs.running.abandon_each.Goals as goal

pub loop-ticket-preserved : goal.loop-ticket-preserved
loop-ticket-preserved g c =
    let n = store_state g.F.Flash c.loop-ticket.store in
    let m' = store_state g.F.Flash c.abandon-answer.new.self in
    let inv = c.loop-ticket.invariant in
    let gone = inv.0 in
    let ts = ticket_numbers (deque_items c.loop-ticket.hand.tickets) in
    let us = ticket_numbers (deque_items c.pop_front.new.self) in
    let ss = step_numbers (vec_items c.loop-ticket.hand.steps) in
    let j = c.number-number.result in
    let out : ts ≡ j ∷ us = ap ticket_numbers c.in-Some.ensures.items ∙ ap (λ (x : ℕ). x ∷ us) (sym c.number-number.ensures) in
    let does : Effect g.F.Flash n (Some (abandoned j c.abandon-answer.result)) m' =
    subst (λ (x : ℕ). Effect g.F.Flash n (Some (abandoned x c.abandon-answer.result)) m') (sym c.number-number.ensures) (c.abandon-answer.ensures.does, c.abandon-answer.ensures.flash) in (
      gone ++ j ∷ [],
      made_more g.F.Flash (Abandon j) (Some (abandoned j c.abandon-answer.result)) m' (held us ss) (map abandoning (gone ++ j ∷ [])) (vec_items c.push_reserved.new.self) inv.1
          (abandon_turn g.F.Flash n m' ts us ss j c.abandon-answer.result out does) (map-append abandoning gone (j ∷ [])) c.push_reserved.ensures.items,
      inv.2 ∙ ap (λ (x : List ℕ). gone ++ x) out ∙ sym (append_assoc gone (j ∷ []) us),
      inv.3,
      omega (arith, inv.4, c.push_reserved.ensures.len, c.push_reserved.ensures.capacity, c.in-Some.ensures.len),
    )
