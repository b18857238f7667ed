use Rattle.std.proofs.Common.{◌≡◌, ◌<◌, length, get_or, None, vec_items, rules}
use Rattle.runs.proofs.Steps.{taken_at}
use Rattle.runs.proofs.hands.Hand.take_step.Goals as goal

pub returns-clause-taken : goal.returns-clause-taken
returns-clause-taken c =
    let ss = vec_items c.args.self.now.steps in
    let h : c.args.place < length ss = search rules in
    let e : c.take.result ≡ get_or ss c.args.place None = search rules in
    taken_at ss c.args.place c.take.result None c.take.new.self h e c.take.ensures.after
