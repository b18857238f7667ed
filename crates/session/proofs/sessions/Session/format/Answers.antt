use Rattle.session.specs.Held.{simulated_store}
use Rattle.session.proofs.Powering.{formatted, formatted_from}
use Rattle.session.proofs.sessions.Session.format.Goals as goal

pub returns : goal.returns
returns c =
    let f = c.let_go.new.self.store.flash in
    let f' = c.format.new.self.flash in (
      simulated_store c.let_go.new.self.store,
      c.let_go.ensures.abandoned,
      c.format.result,
      c.format.ensures.does,
      formatted_from f f' c.format.result c.format.ensures.flash,
      formatted f f' c.format.result c.format.ensures.flash,
      c.number_answer.ensures,
      (c.let_go.ensures.held, c.let_go.ensures.step),
    )
