use Rattle.std.proofs.Common.{◌∙◌, ap, subst, sym, refl, Ok, Err, Option}
use Rattle.std.specs.Option.{option_map}
use Rattle.lines.specs.declared.answers.Answer.TheVariants.{Number}
use Rattle.simulator.specs.SimulatorStates.{state_of}
use Rattle.store.specs.declared.tickets.Ticket.{Ticket}
use Rattle.session.specs.Held.{simulated_store}
use Rattle.session.specs.Sessions.{LetGo}
use Rattle.session.proofs.sessions.Session.begin.Goals as goal

pub returns-in-Some : goal.returns-in-Some
returns-in-Some c = (
  Ok c.in-Ok.ticket.number,
  simulated_store c.begin.new.self,
  (c.in-Ok.ensures.does, ap state_of c.in-Ok.ensures.flash),
  subst (λ (o : Option Ticket). LetGo (option_map (λ (t : Ticket). t.number) o) (simulated_store c.begin.new.self) (simulated_store c.abandon.new.self))
      (sym c.in-Some.is ∙ c.replace.ensures.value) (c.abandon.result, (c.abandon.ensures.does, ap state_of c.abandon.ensures.flash)),
  ap Number c.number-number.ensures,
  (ap (option_map (λ (t : Ticket). t.number)) c.replace.ensures.after, refl),
)

pub returns-in_default : goal.returns-in_default
returns-in_default c = (
  Ok c.in-Ok.ticket.number,
  simulated_store c.begin.new.self,
  (c.in-Ok.ensures.does, ap state_of c.in-Ok.ensures.flash),
  subst (λ (o : Option Ticket). LetGo (option_map (λ (t : Ticket). t.number) o) (simulated_store c.begin.new.self) (simulated_store c.begin.new.self))
      (sym c.in_default.is ∙ c.replace.ensures.value) refl,
  ap Number c.number-number.ensures,
  (ap (option_map (λ (t : Ticket). t.number)) c.replace.ensures.after, refl),
)

pub returns-in-Err : goal.returns-in-Err
returns-in-Err c = (
  Err c.in-Err.why,
  simulated_store c.begin.new.self,
  (c.in-Err.ensures.does, ap state_of c.in-Err.ensures.flash),
  refl,
  c.refused.ensures,
  (refl, refl),
)
