-- The law over runs: after an accepted format, whatever calls are made, every answer is the one that the ledger of the calls before
-- it calls for, and the store agrees with that ledger at every moment.
use Rattle.std.specs.Prelude.{◌≡◌, ℕ, ◌+◌, ◌<◌, ◌≤◌, Bool, true, false, cond, ◌⊎◌, List, [], ◌∷◌, ◌++◌, length, take, ℤ, is_some, IfOk, Some, None, Ok, Err, Option, Result, ◌==◌, slice_index_or}
use Rattle.flash.specs.FlashState.{FlashState}
use Rattle.layout.specs.declared.meanings.Pair.{Pair}
use Rattle.layout.specs.Catalogue.{pair_of}
use Rattle.layout.specs.PairLists.{merged}
use Rattle.journal.specs.Reading.{Reading, reads}
use Rattle.journal.specs.Writes.{Write, erase, write_bank, write_unit}
use Rattle.journal.specs.Commit.{commit_writes, writes_needed, Change, Holds}
use Rattle.compensation.specs.Formulas.{temperature_at, pressure_of}
use Rattle.compensation.specs.declared.readings.WorkedTemperature.{WorkedTemperature}
use Rattle.compensation.specs.declared.readings.ReadingRefusal.{ReadingRefusal}
use Rattle.readings.specs.Gathered.{lowest_absent, coefficients_of}
use Rattle.store.specs.declared.entries.Entry.{Entry}
use Rattle.store.specs.declared.entries.Entry.TheVariants.{Recover, Begin, Put, Commit, Abandon, Get, Temperature, Pressure}
use Rattle.store.specs.declared.refusals.Refusal.{Refusal}
use Rattle.store.specs.declared.refusals.Refusal.TheVariants.{Cold, ChangeOpen, NoTickets, WrongTicket, LastNumber, WriteStopped, OldStep}
use Rattle.store.specs.declared.steps.StepNumbers.{StepNumbers}
use Rattle.store.specs.declared.steps.Line.{Line}
use Rattle.store.specs.Changes.{put_answer}
use Rattle.store.specs.Stops.{is_roomy}
use Rattle.store.specs.Readings.{refusal_of, unless_absent, line_of, temperature_answer, pressure_answer}
use Rattle.store.specs.Memories.{Memory, cold, ready, changing, Known}
use Rattle.store.specs.Moments.{Moment}
use Rattle.store.specs.Calls.{last_number, If, get_answer}
use Rattle.store.specs.Ledger.{OpenChange, Ledger, laid, pairs_by, number_by, ledger_of, begins, cut_since_recover}

-- ---- which answer the ledger calls for

-- while a change is in doubt the store is cold
abbrev pub unless_doubt : {A : Type 0} → Option (List Pair) → Result A Refusal → Result A Refusal
unless_doubt None answer = answer
unless_doubt (Some change) answer = Err Cold

-- begin: 4 while a change is open, then 5 at the last ticket number, else the next ticket's number
abbrev pub begin_answer : Option OpenChange → ℕ → Result ℕ Refusal
begin_answer None next = cond (next == last_number) (Err NoTickets) (Ok next)
begin_answer (Some o) next = Err ChangeOpen

-- put and abandon: 6 unless the ticket's number is that of the open change, else by that change
abbrev pub with_ticket : {A : Type 0} → Option OpenChange → ℕ → (List Pair → Result A Refusal) → Result A Refusal
with_ticket None shown answer = Err WrongTicket
with_ticket (Some o) shown answer = cond (shown == o.ticket) (answer o.pairs) (Err WrongTicket)

-- A recover is accepted. It answers the ledger's number, or, only if a change is in doubt, one more.
pub record RecoverRight (l : Ledger) (r : Result ℕ Refusal) : Type 0 where
  pub number : ℕ
  pub accepted : r ≡ Ok number
  pub which : (number ≡ number_by l) ⊎ ((number ≡ number_by l + 1) × (is_some l.doubt ≡ true))

-- the place of the first write that a charge does not complete
abbrev pub write_place : Write → ℕ × Option ℕ
write_place w = (write_bank w, write_unit w)

abbrev pub place_cut : List Write → ℕ → ℕ × Option ℕ
place_cut writes charge = write_place (slice_index_or writes charge (erase 0))

-- A commit that nothing stops before its writes: it is cut, with 11 and the place of the write that the charge does not reach,
-- if and only if the charge before it is below the writes that its change needs on the units before it.
pub record CutExactlyBelow (s : FlashState) (pairs : List Pair) (number : ℕ) (change : List Pair) (r : Result ℕ Refusal) : Type 0 where
  -- what the units before it read as: the ledger's pairs and number
  pub found : Reading
  pub read : reads s.units ≡ Some found
  pub same_pairs : found.pairs ≡ pairs
  pub same_number : found.number ≡ number
  -- n + 1 writes, or m + 2 for m merged pairs
  pub as_many : length (commit_writes s.width found change (number + 1)) ≡ writes_needed s.width found change
  pub cut : s.charge < writes_needed s.width found change → r ≡ Err (WriteStopped (place_cut (commit_writes s.width found change (number + 1)) s.charge))
  pub whole : writes_needed s.width found change ≤ s.charge → r ≡ Ok (number + 1)

-- a commit while nothing is in doubt
abbrev pub SettledCommitRight :
    FlashState → Ledger → Option OpenChange → ℕ → Result ℕ Refusal → Type 0
SettledCommitRight s l None shown r = r ≡ Err WrongTicket
SettledCommitRight s l (Some o) shown r =
    If (shown == o.ticket)
    (If (number_by l == last_number) (r ≡ Err LastNumber)
    (CutExactlyBelow s (pairs_by l) (number_by l) o.pairs r))
    (r ≡ Err WrongTicket)

abbrev pub CommitRight : FlashState → Ledger → Option (List Pair) → ℕ → Result ℕ Refusal → Type 0
CommitRight s l None shown r = SettledCommitRight s l l.opened shown r
CommitRight s l (Some change) shown r = r ≡ Err Cold

-- a temperature of the past took UT and gave this step
abbrev pub Given : List Entry → ℤ → StepNumbers → Type 0
Given [] ut step = ⊥
Given (e ∷ past) ut step = (e ≡ Temperature ut (Ok step)) ⊎ Given past ut step

-- the line from UT and UP, all of it by these pairs
abbrev pub line_with : List Pair → ℤ → Result WorkedTemperature ReadingRefusal → Result Line Refusal
line_with ps up (Ok w) = line_of w.t (pressure_of (coefficients_of ps) w.b5 up)
line_with ps up (Err e) = Err (refusal_of e)

abbrev pub line_answer : List Pair → ℕ → ℤ → StepNumbers → ℤ → Result Line Refusal
line_answer ps number ut step up =
    unless_absent (lowest_absent ps)
    (cond (step.number == number) (line_with ps up (temperature_at (coefficients_of ps) ut)) (Err OldStep))

-- a pressure goes by the step's numbers, whatever step it is; and for a step that the past gave, its line is the arithmetic on the
-- ledger's pairs, the temperature from the UT of the call that gave the step included
pub record PressureRight (past : List Entry) (l : Ledger) (step : StepNumbers) (up : ℤ) (r : Result Line Refusal) : Type 0 where
  pub by_step : r ≡ unless_doubt l.doubt (pressure_answer (pairs_by l) (number_by l) step up)
  pub by_ut : (ut : ℤ) → Given past ut step → r ≡ unless_doubt l.doubt (line_answer (pairs_by l) (number_by l) ut step up)

-- The call with its answer is right after this past, on this flash: `first` is the next ticket of the formatted store.
abbrev pub RightBy : ℕ → List Entry → Ledger → FlashState → Entry → Type 0
RightBy first past l s (Recover r) = RecoverRight l r
RightBy first past l s (Begin r) = r ≡ unless_doubt l.doubt (begin_answer l.opened (first + begins past))
RightBy first past l s (Put shown key value r) =
    r ≡ unless_doubt l.doubt (with_ticket l.opened shown (λ change. put_answer change (pair_of key value)))
RightBy first past l s (Commit shown r) = CommitRight s l l.doubt shown r
RightBy first past l s (Abandon shown r) = r ≡ unless_doubt l.doubt (with_ticket l.opened shown (λ change. Ok tt))
RightBy first past l s (Get key r) = r ≡ unless_doubt l.doubt (get_answer (pairs_by l) key)
RightBy first past l s (Temperature ut r) = r ≡ unless_doubt l.doubt (temperature_answer (pairs_by l) (number_by l) ut)
RightBy first past l s (Pressure step up r) = PressureRight past l step up r

abbrev pub Right : ℕ → List Entry → FlashState → Entry → Type 0
Right first past s e = RightBy first past (ledger_of past) s e

-- ---- when a store agrees with a past

-- not cold: on, the units read as the ledger's pairs and number, the open change is the ledger's, and nothing is in doubt
pub record Settled (s : FlashState) (l : Ledger) (r : Reading) (change : Option OpenChange) : Type 0 where
  pub known : Known s r
  pub same_pairs : r.pairs ≡ pairs_by l
  pub same_number : r.number ≡ number_by l
  pub same_open : l.opened ≡ change
  pub no_doubt : l.doubt ≡ None

-- cold: a change is in doubt, and the units read as the ledger's pairs and number, or as these with that change, whole
pub record InDoubt (s : FlashState) (l : Ledger) : Type 0 where
  pub change : List Pair
  pub in_doubt : l.doubt ≡ Some change
  pub none_open : l.opened ≡ None
  pub roomy : is_roomy s ≡ true
  pub units : Holds s.units (pairs_by l) (number_by l) ⊎ Holds s.units (merged (pairs_by l) change) (number_by l + 1)

abbrev pub AgreesIn : Memory → FlashState → Ledger → Type 0
AgreesIn cold s l = InDoubt s l
AgreesIn (ready r) s l = Settled s l r None
AgreesIn (changing r ticket change) s l = Settled s l r (Some (record { ticket = ticket; pairs = change })) × Change change

abbrev pub is_cold : Memory → Bool
is_cold cold = true
is_cold (ready r) = false
is_cold (changing r ticket change) = false

-- a step from UT: its number is that of some moment since the format, and its B5 and T are the arithmetic on the pairs that stood then
pub record StepStands (l : Ledger) (ut : ℤ) (step : StepNumbers) : Type 0 where
  pub stood : step.number ≤ number_by l
  pub worked : temperature_answer (laid [] (take step.number l.standing)) step.number ut ≡ Ok step

pub record Agrees (first : ℕ) (past : List Entry) (m : Moment) : Type 0 where
  pub memory : AgreesIn m.memory m.flash (ledger_of past)
  -- cold exactly from an 11 to the next recover
  pub cold_since : is_cold m.memory ≡ cut_since_recover past
  -- the next ticket is the formatted store's plus the accepted begins
  pub next : m.next ≡ first + begins past
  -- each step given remembers its UT
  pub steps : (ut : ℤ) (step : StepNumbers) → Given past ut step → StepStands (ledger_of past) ut step

-- ---- the law

-- an accepted recover or commit answers the ledger's number after the call
abbrev pub AnswersNumber : Entry → Ledger → Type 0
AnswersNumber (Recover (Ok n)) after = n ≡ number_by after
AnswersNumber (Recover (Err why)) after = Unit {0}
AnswersNumber (Begin r) after = Unit {0}
AnswersNumber (Put shown key value r) after = Unit {0}
AnswersNumber (Commit shown (Ok n)) after = n ≡ number_by after
AnswersNumber (Commit shown (Err why)) after = Unit {0}
AnswersNumber (Abandon shown r) after = Unit {0}
AnswersNumber (Get key r) after = Unit {0}
AnswersNumber (Temperature ut r) after = Unit {0}
AnswersNumber (Pressure step up r) after = Unit {0}

-- the standing changes only ever grow at their end
pub record Grows (before after : Ledger) : Type 0 where
  pub more : List (List Pair)
  pub grown : after.standing ≡ before.standing ++ more

-- one call after a past with which the store agrees
pub record CallFollowsLedger (first : ℕ) (past : List Entry) (m : Moment) (e : Entry) (m' : Moment) : Type 0 where
  pub right : Right first past m.flash e
  pub agrees : Agrees first (e ∷ past) m'
  pub number_after : AnswersNumber e (ledger_of (e ∷ past))
  pub grows : Grows (ledger_of past) (ledger_of (e ∷ past))

-- After every past with which the store agrees, the call's answer is the one that the ledger calls for, and the store agrees with
-- the past and this call.
abbrev pub FollowsLedger : Moment → Entry → Moment → Type 0
FollowsLedger m e m' = (first : ℕ) (past : List Entry) → Agrees first past m → CallFollowsLedger first past m e m'

-- An accepted format begins a past.
abbrev pub BeginsPast : Result ℕ Refusal → Moment → Type 0
BeginsPast r m' = IfOk r (λ n. (n ≡ 0) × Agrees m'.next [] m')
