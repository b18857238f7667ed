-- A session at one moment, and what each command makes of it.
use Rattle.std.specs.Prelude.{◌≡◌, ℕ, ℤ, Some, None, Ok, Err, Option, Result}
use Rattle.std.specs.Option.{option_map_or}
use Rattle.flash.specs.declared.plans.PlanEntry.{PlanEntry}
use Rattle.flash.specs.Plans.{Added}
use Rattle.simulator.specs.SimulatorStates.{new_simulator, with_plan}
use Rattle.store.specs.declared.entries.Entry.{Entry}
use Rattle.store.specs.declared.entries.Entry.TheVariants.{Recover as recovered, Begin as begun, Put as did_put, Commit as committed, Abandon as abandoned, Get as got, Temperature as took_temperature, Pressure as took_pressure}
use Rattle.store.specs.declared.refusals.Refusal.{Refusal}
use Rattle.store.specs.declared.refusals.Refusal.TheVariants.{WriteStopped as stopped}
use Rattle.store.specs.declared.steps.Line.{Line as Reading}
use Rattle.store.specs.declared.steps.StepNumbers.{StepNumbers}
use Rattle.store.specs.Calls.{Does, Formats}
use Rattle.store.specs.Memories.{cold}
use Rattle.store.specs.Refusals.{refusal_number}
use Rattle.lines.specs.declared.answers.Answer.{Answer}
use Rattle.lines.specs.declared.answers.Answer.TheVariants.{Done, Number, Value, Temperature as Degrees, Line, Refused, WriteStopped}
use Rattle.lines.specs.declared.commands.Command.{Command}
use Rattle.lines.specs.declared.commands.Command.TheVariants.{Plan, Format, Recover, Begin, Put, Commit, Abandon, Get, Temperature, Pressure}
use Rattle.session.specs.Simulated.{SimulatedStore, moment_of, after_recover, after_format, after_commit, FormatsFrom}

-- the store on its simulator, and what is held: the ticket of a change by its number, a step by its
-- numbers
pub record Session : Type 0 where
  pub store : SimulatedStore
  pub ticket : Option ℕ
  pub step : Option StepNumbers

-- a session on a blank simulator of 2 banks of 64 units: the store is cold, its first ticket is 1,
-- and nothing is held
abbrev pub blank_session : Session
blank_session = record {
  store = record { simulator = new_simulator 2 64; memory = cold; next = 1 };
  ticket = None;
  step = None;
}

-- ---- answers

abbrev pub unknown : Answer
unknown = Refused 17

abbrev pub refused : Refusal → Answer
refused (stopped place) = WriteStopped place
refused why = Refused (refusal_number why)

abbrev pub answer_of : {A : Type 0} → (A → Answer) → Result A Refusal → Answer
answer_of f (Ok x) = f x
answer_of f (Err why) = refused why

abbrev pub line_answer : Reading → Answer
line_answer l = Line l.t l.p

abbrev pub degrees_answer : StepNumbers → Answer
degrees_answer st = Degrees st.t

-- ---- commands

-- a call of the store that leaves the simulator the very same
abbrev pub Calls : SimulatedStore → Entry → SimulatedStore → Type 0
Calls m call m' = Does (moment_of m) call (moment_of m') × (m'.simulator ≡ m.simulator)

-- a held ticket is abandoned, whatever the store answers to that; where none is held nothing happens
abbrev pub LetGo : Option ℕ → SimulatedStore → SimulatedStore → Type 0
LetGo None m m' = m' ≡ m
LetGo (Some t) m m' = (r : Result (Unit {0}) Refusal) × Calls m (abandoned t r) m'

-- the ticket held after a begin, and the step held after a temperature: an accepted one gives another, a refused one leaves it
abbrev pub held_after : {A : Type 0} → Result A Refusal → Option A → Option A
held_after (Ok x) held = Some x
held_after (Err why) held = held

-- what becomes of the ticket that was held before an accepted begin
abbrev pub Replaced : Result ℕ Refusal → Option ℕ → SimulatedStore → SimulatedStore → Type 0
Replaced (Ok t) held m m' = LetGo held m m'
Replaced (Err why) held m m' = m' ≡ m

abbrev pub Same : Session → Answer → Session → Type 0
Same s a s' = (a ≡ unknown) × (s' ≡ s)

-- with the ticket that is held; none is held: unknown
abbrev pub WithTicket : Option ℕ → (ℕ → Type 0) → Type 0 → Type 0
WithTicket None P Q = Q
WithTicket (Some t) P Q = P t

-- what is held afterwards
abbrev pub Holds : Session → Option ℕ → Option StepNumbers → Type 0
Holds s' ticket step = (s'.ticket ≡ ticket) × (s'.step ≡ step)

-- the step that is held is used up, refused or not
abbrev pub PressedWith : Option StepNumbers → Session → ℤ → Answer → Session → Type 0
PressedWith None s up a s' = Same s a s'
PressedWith (Some st) s up a s' =
    (r : Result Reading Refusal) × Calls s.store (took_pressure st up r) s'.store
    × (a ≡ answer_of line_answer r) × Holds s' s.ticket None

-- what a command does: it makes the store's call that it stands for, and answers what that answers
abbrev pub Carried : Session → Command → Answer → Session → Type 0
Carried s (Plan charge residue pattern) a s' =
    let entry : PlanEntry = record { charge = charge; residue = residue; pattern = pattern } in
    (n : Option ℕ) × Added 16 s.store.simulator.plan entry n s'.store.simulator.plan
    × (s'.store.simulator ≡ with_plan s.store.simulator s'.store.simulator.plan)
    × (moment_of s'.store ≡ moment_of s.store)
    × (a ≡ option_map_or Number n unknown) × Holds s' s.ticket s.step
Carried s Format a s' =
    (m : SimulatedStore) × LetGo s.ticket s.store m × (r : Result ℕ Refusal)
    × Formats (moment_of m) r (moment_of s'.store)
    × FormatsFrom m.simulator r s'.store.simulator
    × (s'.store.simulator ≡ after_format m.simulator)
    × (a ≡ answer_of Number r) × Holds s' None s.step
Carried s Recover a s' =
    (m : SimulatedStore) × LetGo s.ticket s.store m × (r : Result ℕ Refusal)
    × Does (moment_of m) (recovered r) (moment_of s'.store)
    × (s'.store.simulator ≡ after_recover m.simulator)
    × (a ≡ answer_of Number r) × Holds s' None s.step
Carried s Begin a s' =
    (r : Result ℕ Refusal) × (m : SimulatedStore) × Calls s.store (begun r) m
    × Replaced r s.ticket m s'.store
    × (a ≡ answer_of Number r) × Holds s' (held_after r s.ticket) s.step
Carried s (Put key value) a s' =
    WithTicket s.ticket
    (λ t. (r : Result ℕ Refusal) × Calls s.store (did_put t key value r) s'.store
    × (a ≡ answer_of Number r) × Holds s' s.ticket s.step)
    (Same s a s')
Carried s Commit a s' =
    WithTicket s.ticket
    (λ t. (r : Result ℕ Refusal) × Does (moment_of s.store) (committed t r) (moment_of s'.store)
    × (s'.store.simulator ≡ after_commit s.store.simulator s.store.memory t)
    × (a ≡ answer_of Number r) × Holds s' None s.step)
    (Same s a s')
Carried s Abandon a s' =
    WithTicket s.ticket
    (λ t. (r : Result (Unit {0}) Refusal) × Calls s.store (abandoned t r) s'.store
    × (a ≡ answer_of (λ done. Done) r) × Holds s' None s.step)
    (Same s a s')
Carried s (Get key) a s' =
    (r : Result (Option ℤ) Refusal) × Calls s.store (got key r) s'.store
    × (a ≡ answer_of Value r) × Holds s' s.ticket s.step
Carried s (Temperature ut) a s' =
    (r : Result StepNumbers Refusal) × Calls s.store (took_temperature ut r) s'.store
    × (a ≡ answer_of degrees_answer r) × Holds s' s.ticket (held_after r s.step)
Carried s (Pressure up) a s' = PressedWith s.step s up a s'

-- what a line does: what its command does; a line that is no command is unknown
abbrev pub Answered : Option Command → Session → Answer → Session → Type 0
Answered None s a s' = Same s a s'
Answered (Some command) s a s' = Carried s command a s'
