-- What each call does to a store, judged by what the store knows and the call together: m is the store before it, m' after it.
use Rattle.std.specs.Prelude.{◌≡◌, ℕ, ◌+◌, Bool, true, false, cond, List, [], ℤ, Some, None, Ok, Err, Option, Result, ◌==◌}
use Rattle.flash.specs.Calls.{PoweredUp}
use Rattle.layout.specs.declared.meanings.Pair.{Pair}
use Rattle.layout.specs.Catalogue.{is_key, pair_of}
use Rattle.layout.specs.PairLists.{value_of}
use Rattle.journal.specs.Reading.{Reading, reads}
use Rattle.journal.specs.Commit.{committed, formatted}
use Rattle.store.specs.declared.phases.Event.{Event}
use Rattle.store.specs.declared.phases.Event.TheVariants.{Format, Recover, Begin, Put, Commit, Abandon, Look}
use Rattle.store.specs.declared.entries.Entry.{Entry}
use Rattle.store.specs.declared.entries.Entry.TheVariants.{Recover as recover, Begin as begin, Put as put, Commit as commit, Abandon as abandon, Get as get, Temperature as temperature, Pressure as pressure}
use Rattle.store.specs.declared.refusals.Refusal.{Refusal}
use Rattle.store.specs.declared.refusals.Refusal.TheVariants.{Cold, SmallFlash, NoHeader, ChangeOpen, NoTickets, WrongTicket, UnknownKey, LastNumber}
use Rattle.store.specs.declared.steps.Step.{Step}
use Rattle.store.specs.declared.steps.StepNumbers.{StepNumbers}
use Rattle.store.specs.declared.tickets.Ticket.{Ticket}
use Rattle.store.specs.Memories.{Memory, cold, ready, changing}
use Rattle.store.specs.Moments.{Moment}
use Rattle.store.specs.Changes.{put_answer, put_change}
use Rattle.store.specs.Stops.{is_roomy, FormatRun, CommitRun}
use Rattle.store.specs.Readings.{temperature_answer, pressure_answer}

-- the last number of 32 bits: no ticket has it, and where the store has it nothing can be committed any more
abbrev pub last_number : ℕ
last_number = 4294967295

abbrev pub If : Bool → Type 0 → Type 0 → Type 0
If true a b = a
If false a b = b

-- the answer, what the store knows afterwards and its next ticket; units, power and charge as they were
abbrev pub Plain : {A : Type 0} → Moment → Result A Refusal → Result A Refusal → Memory → ℕ → Moment → Type 0
Plain m r answer memory next m' = (r ≡ answer) × (m'.memory ≡ memory) × (m'.next ≡ next) × (m'.flash ≡ m.flash)

-- a refusal that changes nothing
abbrev pub Refused : {A : Type 0} → Moment → Result A Refusal → Refusal → Moment → Type 0
Refused m r why m' = Plain m r (Err why) m.memory m.next m'

-- ---- recover and format, which no phase refuses

abbrev pub recover_answer : Option Reading → Result ℕ Refusal
recover_answer None = Err NoHeader
recover_answer (Some r) = Ok r.number

abbrev pub recover_memory : Option Reading → Memory
recover_memory None = cold
recover_memory (Some r) = ready r

-- recover on a flash that is large enough: a power-up, whose charge the flash chooses, and then what the units read as
pub record Recovered (m : Moment) (r : Result ℕ Refusal) (m' : Moment) : Type 0 where
  pub power_up : PoweredUp m.flash m'.flash
  pub answer : r ≡ recover_answer (reads m.flash.units)
  pub memory : m'.memory ≡ recover_memory (reads m.flash.units)
  pub next : m'.next ≡ m.next

-- on a smaller flash it is refused before the power-up; the store is then cold
abbrev pub Recovers : Moment → Result ℕ Refusal → Moment → Type 0
Recovers m r m' = If (is_roomy m.flash) (Recovered m r m') (Plain m r (Err SmallFlash) cold m.next m')

-- the number answered where all writes completed, and 11 where one did not
abbrev pub written : {A : Type 0} → ℕ → Result A Refusal → Result ℕ Refusal
written number (Ok x) = Ok number
written number (Err e) = Err e

-- a write that did not complete leaves the store cold
abbrev pub written_memory : {A : Type 0} → Reading → Result A Refusal → Memory
written_memory r (Ok x) = ready r
written_memory r (Err e) = cold

pub record Formatted (m : Moment) (r : Result ℕ Refusal) (m' : Moment) : Type 0 where
  pub made : Result (Unit {0}) Refusal
  pub run : FormatRun m.flash made m'.flash
  pub answer : r ≡ written 0 made
  pub memory : m'.memory ≡ written_memory formatted made
  pub next : m'.next ≡ m.next

-- on a smaller flash it is refused before the power-up and changes nothing
abbrev pub Formats : Moment → Result ℕ Refusal → Moment → Type 0
Formats m r m' = If (is_roomy m.flash) (Formatted m r m') (Refused m r SmallFlash m')

-- ---- begin, put, commit, abandon

abbrev pub Opens : Moment → Reading → Result ℕ Refusal → Moment → Type 0
Opens m s r m' =
    If (m.next == last_number) (Plain m r (Err NoTickets) m.memory m.next m')
    (Plain m r (Ok m.next) (changing s m.next []) (m.next + 1) m')

abbrev pub Begins : Memory → Moment → Result ℕ Refusal → Moment → Type 0
Begins cold m r m' = Refused m r Cold m'
Begins (ready s) m r m' = Opens m s r m'
Begins (changing s ticket change) m r m' = Refused m r ChangeOpen m'

abbrev pub PutsOpen : Moment → Reading → ℕ → List Pair → Pair → Result ℕ Refusal → Moment → Type 0
PutsOpen m s ticket change p r m' = Plain m r (put_answer change p) (changing s ticket (put_change change p)) m.next m'

abbrev pub Puts : Memory → Moment → ℕ → Pair → Result ℕ Refusal → Moment → Type 0
Puts cold m shown p r m' = Refused m r Cold m'
Puts (ready s) m shown p r m' = Refused m r WrongTicket m'
Puts (changing s ticket change) m shown p r m' =
    If (shown == ticket) (PutsOpen m s ticket change p r m') (Refused m r WrongTicket m')

pub record Committed (m : Moment) (s : Reading) (change : List Pair) (r : Result ℕ Refusal) (m' : Moment) : Type 0 where
  pub made : Result (Unit {0}) Refusal
  pub run : CommitRun m.flash s change made m'.flash
  pub answer : r ≡ written (s.number + 1) made
  pub memory : m'.memory ≡ written_memory (committed m.flash.width s change (s.number + 1)) made
  pub next : m'.next ≡ m.next

-- 10 drops the change
abbrev pub CommitsOpen : Moment → Reading → List Pair → Result ℕ Refusal → Moment → Type 0
CommitsOpen m s change r m' =
    If (s.number == last_number) (Plain m r (Err LastNumber) (ready s) m.next m')
    (Committed m s change r m')

abbrev pub Commits : Memory → Moment → ℕ → Result ℕ Refusal → Moment → Type 0
Commits cold m shown r m' = Refused m r Cold m'
Commits (ready s) m shown r m' = Refused m r WrongTicket m'
Commits (changing s ticket change) m shown r m' = If (shown == ticket) (CommitsOpen m s change r m') (Refused m r WrongTicket m')

-- an accepted abandon gives x
abbrev pub Abandons : {A : Type 0} → A → Memory → Moment → ℕ → Result A Refusal → Moment → Type 0
Abandons x cold m shown r m' = Refused m r Cold m'
Abandons x (ready s) m shown r m' = Refused m r WrongTicket m'
Abandons x (changing s ticket change) m shown r m' = If (shown == ticket) (Plain m r (Ok x) (ready s) m.next m') (Refused m r WrongTicket m')

-- ---- calls that only look at what stands: an answer by the standing pairs and the number

abbrev pub looked : {A : Type 0} → Memory → (List Pair → ℕ → Result A Refusal) → Result A Refusal
looked cold answer = Err Cold
looked (ready s) answer = answer s.pairs s.number
looked (changing s ticket change) answer = answer s.pairs s.number

abbrev pub Looks : {A : Type 0} → Moment → (List Pair → ℕ → Result A Refusal) → Result A Refusal → Moment → Type 0
Looks m answer r m' = Plain m r (looked m.memory answer) m.memory m.next m'

abbrev pub get_answer : List Pair → ℕ → Result (Option ℤ) Refusal
get_answer ps key = cond (is_key key) (Ok (value_of ps key)) (Err UnknownKey)

-- ---- all calls

-- by the event that the store judges; the private match on phase and event alone has this in its contract, no call
abbrev pub Judged : Moment → Event → Result ℕ Refusal → Moment → Type 0
Judged m Format r m' = Formats m r m'
Judged m Recover r m' = Recovers m r m'
Judged m Begin r m' = Begins m.memory m r m'
Judged m (Put shown p) r m' = Puts m.memory m shown p r m'
Judged m (Commit shown) r m' = Commits m.memory m shown r m'
Judged m (Abandon shown) r m' = Abandons 0 m.memory m shown r m'
Judged m Look r m' = Looks m (λ ps number. Ok number) r m'

-- by the call with its answer
abbrev pub Does : Moment → Entry → Moment → Type 0
Does m (recover r) m' = Recovers m r m'
Does m (begin r) m' = Begins m.memory m r m'
Does m (put shown key value r) m' = Puts m.memory m shown (pair_of key value) r m'
Does m (commit shown r) m' = Commits m.memory m shown r m'
Does m (abandon shown r) m' = Abandons tt m.memory m shown r m'
Does m (get key r) m' = Looks m (λ ps number. get_answer ps key) r m'
Does m (temperature ut r) m' = Looks m (λ ps number. temperature_answer ps number ut) r m'
Does m (pressure step up r) m' = Looks m (λ ps number. pressure_answer ps number step up) r m'

-- what begin and temperature answer, by the numbers of what they give
abbrev pub ticket_number : Result Ticket Refusal → Result ℕ Refusal
ticket_number (Ok ticket) = Ok ticket.number
ticket_number (Err why) = Err why

abbrev pub step_numbers : Result Step Refusal → Result StepNumbers Refusal
step_numbers (Ok step) = Ok step.numbers
step_numbers (Err why) = Err why
