use Rattle.session.specs.Held.{simulated_store}
use Rattle.session.proofs.Powering.{recovered}
use Rattle.session.proofs.sessions.Session.recover.Goals as goal

pub returns : goal.returns
returns c = (
  simulated_store c.let_go.new.self.store,
  c.let_go.ensures.abandoned,
  c.recover.result,
  c.recover.ensures.does,
  recovered c.let_go.new.self.store.flash c.recover.new.self.flash c.recover.ensures.flash,
  c.number_answer.ensures,
  (c.let_go.ensures.held, c.let_go.ensures.step),
)
