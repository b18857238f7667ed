use Rattle.std.proofs.Common.{Some, None, Option, deque_items, sym, subst, rules, tests}
use Rattle.std.proofs.lemmas.Iterator.{IsFirst-from_position}
use Rattle.std.proofs.lemmas.Iterator.Consumers.{YieldsList-from_deque}
use Rattle.store.specs.declared.tickets.Ticket.{Ticket}
use Rattle.runs.specs.Held.{Taken, ticket_numbers}
use Rattle.runs.proofs.Tickets.{Is, IsNot, not_taken, taken}
use Rattle.runs.proofs.hands.Hand.take.Goals as goal

pub returns-in_err-place-clause-taken : goal.returns-in_err-place-clause-taken
returns-in_err-place-clause-taken c =
    let ts = deque_items c.args.self.now.tickets in
    let j = c.args.number in
    subst (λ (o : Option Ticket). Taken (ticket_numbers ts) j o (ticket_numbers ts)) (sym c.from_residual.ensures)
    (not_taken j ts
    (IsFirst-from_position _ _ None (Is j) (IsNot j) c.in_err-place.ensures.ran (YieldsList-from_deque ts cc) (λ x q k. search (rules, tests)) (λ x q k. search (rules, tests))))

pub returns-clause-taken : goal.returns-clause-taken
returns-clause-taken c =
    let ts = deque_items c.args.self.now.tickets in
    let j = c.args.number in
    let i = c.in_ok-place.place in
    let found =
    IsFirst-from_position _ _ (Some i) (Is j) (IsNot j) c.in_ok-place.ensures.ran (YieldsList-from_deque ts cc) (λ x q k. search (rules, tests)) (λ x q k. search (rules, tests)) in
    taken j ts (deque_items c.remove.new.self) i c.remove.result found (λ d. search rules) c.remove.ensures.items
