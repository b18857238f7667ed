use Rattle.std.proofs.Common.{deque_items, rules, tests}
use Rattle.std.proofs.lemmas.Iterator.{first_from_find}
use Rattle.std.proofs.lemmas.Iterator.Consumers.{YieldsList-from_deque}
use Rattle.runs.proofs.Tickets.{Is, IsNot, seen}
use Rattle.runs.proofs.hands.Hand.look.Goals as goal

pub returns : goal.returns
returns c =
    let ts = deque_items c.args.self.now.tickets in
    let j = c.args.number in
    seen j ts c.find.result
    (first_from_find c.find.new.self _ c.find.result (Is j) (IsNot j) c.find.ensures.ran (YieldsList-from_deque ts cc) (λ x q k. search (rules, tests)) (λ x q k. search (rules, tests)))
