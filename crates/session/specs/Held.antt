-- A session as its record shows it.
use Rattle.std.specs.Prelude.{ℕ, List, Option}
use Rattle.std.specs.Option.{option_map}
use Rattle.simulator.specs.SimulatorStates.{state_of}
use Rattle.simulator.specs.declared.simulators.Simulator.{Simulator}
use Rattle.store.specs.Memories.{memory_of}
use Rattle.store.specs.declared.steps.Step.{Step}
use Rattle.store.specs.declared.stores.Store.{Store}
use Rattle.store.specs.declared.tickets.Ticket.{Ticket}
use Rattle.session.specs.declared.sessions.Session.{Session as Held}
use Rattle.session.specs.Simulated.{SimulatedStore}
use Rattle.session.specs.Sessions.{Session}
use Rattle.session.specs.Exchanges.{Exchange}

-- a store on a simulator
abbrev pub simulated_store : Store Simulator → SimulatedStore
simulated_store s = record {
  simulator = state_of s.flash;
  memory = memory_of s.phase s.standing s.change;
  next = s.next;
}

abbrev pub session : Held → Session
session s = record {
  store = simulated_store s.store;
  ticket = option_map (λ (t : Ticket). t.number) s.ticket;
  step = option_map (λ (st : Step). st.numbers) s.step;
}

-- a session, what its reader has left and what its writer holds
abbrev pub exchange : Held → Option (List ℕ) → Option (List ℕ) → Exchange
exchange s left held = record { session = session s; left = left; held = held }
