-- A whole run: a format, and then a list of calls. What holds of every such run, over every flash,
-- for every list of calls, whatever charge a power-up brings and whatever a cut leaves.
use Rattle.std.specs.Prelude.{◌≡◌, ℕ, ◌+◌, ◌⊎◌, List, [], ◌∷◌, ◌++◌, map, ℤ, Some, None, Ok, Err, Option, Result}
use Rattle.flash.specs.FlashState.{FlashState}
use Rattle.flash.specs.declared.interface.Flash.{Ghosts}
use Rattle.layout.specs.declared.meanings.Pair.{Pair}
use Rattle.layout.specs.PairLists.{merged}
use Rattle.journal.specs.Reading.{Reading, reads}
use Rattle.journal.specs.Commit.{Holds}
use Rattle.store.specs.declared.entries.Entry.{Entry}
use Rattle.store.specs.declared.entries.Entry.TheVariants.{Recover, Begin, Put, Commit, Abandon, Get, Temperature, Pressure}
use Rattle.store.specs.declared.refusals.Refusal.{Refusal}
use Rattle.store.specs.declared.refusals.Refusal.TheVariants.{WriteStopped}
use Rattle.store.specs.declared.steps.Line.{Line}
use Rattle.store.specs.declared.steps.StepNumbers.{StepNumbers}
use Rattle.store.specs.Moments.{Moment}
use Rattle.store.specs.Calls.{Formats}
use Rattle.store.specs.Flashes.{FormatsFlash}
use Rattle.store.specs.Ledger.{OpenChange, Ledger, laid, pairs_by, number_by, ledger_of, cut_since_recover}
use Rattle.store.specs.Law.{Given, Right, AgreesIn, Agrees, AnswersNumber, CutExactlyBelow, is_cold, unless_doubt, line_answer}
use Rattle.runs.specs.Held.{Held, held, nothing_held}
use Rattle.runs.specs.States.{StoreState, moment_of}
use Rattle.runs.specs.Runs.{Link, request_in, outcome_in, Linked, abandoning, past_with, past_after}
use Rattle.runs.specs.declared.requests.Request.{Request}

-- ---- what is promised of each call: of the calls since the format before it (`past`), the store
-- ---- before it (m), the call with its answer (e), and the store after it (m')

-- its answer is the one that the ledger of the calls before it calls for: it is refused exactly
-- where the ledger says so, with that number, and no recover is refused
abbrev pub RightAnswer : ℕ → List Entry → Moment → Entry → Moment → Type 0
RightAnswer first past m e m' = Right first past m.flash e

-- afterwards the store is cold exactly if a commit was refused with 11 and no recover came since
abbrev pub ColdSinceCut : List Entry → Moment → Entry → Moment → Type 0
ColdSinceCut past m e m' = is_cold m'.memory ≡ cut_since_recover (e ∷ past)

-- afterwards it holds what the ledger says, in memory and in the units; a cold one has units that
-- read as the ledger's pairs and number, or as these with the change in doubt, whole
abbrev pub HoldsLedger : List Entry → Moment → Entry → Moment → Type 0
HoldsLedger past m e m' = AgreesIn m'.memory m'.flash (ledger_of (e ∷ past))

-- the number that an accepted recover or commit answers is how many changes stand
abbrev pub RightNumber : List Entry → Moment → Entry → Moment → Type 0
RightNumber past m e m' = AnswersNumber e (ledger_of (e ∷ past))

-- A change that stands goes on standing: the ledger has the changes that stood before, in their
-- order, with others at most behind them; and the units read as the pairs that stood, with whole
-- changes at most laid over them.
pub record StandsOn (before after : Ledger) (s : FlashState) : Type 0 where
  pub more : List (List Pair)
  pub grown : after.standing ≡ before.standing ++ more
  pub found : Reading
  pub read : reads s.units ≡ Some found
  pub over : List (List Pair)
  pub same_pairs : found.pairs ≡ laid (pairs_by before) over

abbrev pub ForGood : List Entry → Moment → Entry → Moment → Type 0
ForGood past m e m' = StandsOn (ledger_of past) (ledger_of (e ∷ past)) m'.flash

-- A change whose commit was cut stands wholly or not at all, and the number of the next recover
-- says which: the ledger's number, and the pairs are as they were, or one more, and the whole change
-- is laid over them. The units read so afterwards.
abbrev pub Whole : Ledger → Option (List Pair) → ℕ → Ledger → Type 0
Whole l None n l' = (n ≡ number_by l) × (pairs_by l' ≡ pairs_by l)
Whole l (Some change) n l' =
    ((n ≡ number_by l) × (pairs_by l' ≡ pairs_by l))
    ⊎ ((n ≡ number_by l + 1) × (pairs_by l' ≡ merged (pairs_by l) change))

abbrev pub WholeOrNotAtAll : List Entry → Moment → Entry → Moment → Type 0
WholeOrNotAtAll past m (Recover (Ok n)) m' =
    Whole (ledger_of past) (ledger_of past).doubt n (ledger_of (Recover (Ok n) ∷ past))
    × Holds m'.flash.units (pairs_by (ledger_of (Recover (Ok n) ∷ past))) n
WholeOrNotAtAll past m (Recover (Err why)) m' = ⊥
WholeOrNotAtAll past m (Begin r) m' = Unit {0}
WholeOrNotAtAll past m (Put t k v r) m' = Unit {0}
WholeOrNotAtAll past m (Commit t r) m' = Unit {0}
WholeOrNotAtAll past m (Abandon t r) m' = Unit {0}
WholeOrNotAtAll past m (Get k r) m' = Unit {0}
WholeOrNotAtAll past m (Temperature ut r) m' = Unit {0}
WholeOrNotAtAll past m (Pressure st up r) m' = Unit {0}

-- A commit that was accepted or refused with 11 had an open change, the ledger's: it is cut if and
-- only if the charge is below the writes that this change needs on the units before it, and then at
-- the place of the first write that the charge does not reach.
pub record ReachedWrites (l : Ledger) (s : FlashState) (r : Result ℕ Refusal) : Type 0 where
  pub change : OpenChange
  pub opened : l.opened ≡ Some change
  pub exactly : CutExactlyBelow s (pairs_by l) (number_by l) change.pairs r

abbrev pub CutOnlyShort : List Entry → Moment → Entry → Moment → Type 0
CutOnlyShort past m (Recover r) m' = Unit {0}
CutOnlyShort past m (Begin r) m' = Unit {0}
CutOnlyShort past m (Put t k v r) m' = Unit {0}
CutOnlyShort past m (Commit t (Ok n)) m' = ReachedWrites (ledger_of past) m.flash (Ok n)
CutOnlyShort past m (Commit t (Err (WriteStopped place))) m' =
    ReachedWrites (ledger_of past) m.flash (Err (WriteStopped place))
CutOnlyShort past m (Commit t (Err why)) m' = Unit {0}
CutOnlyShort past m (Abandon t r) m' = Unit {0}
CutOnlyShort past m (Get k r) m' = Unit {0}
CutOnlyShort past m (Temperature ut r) m' = Unit {0}
CutOnlyShort past m (Pressure st up r) m' = Unit {0}

-- A pressure goes by a step that a temperature of this run gave, and its line is the arithmetic on
-- the ledger's pairs, with that temperature's UT: P and T are worked from one set of coefficients.
pub record LineOf (past : List Entry) (l : Ledger) (step : StepNumbers) (up : ℤ)
    (r : Result Line Refusal) : Type 0 where
  pub ut : ℤ
  pub given : Given past ut step
  pub line : r ≡ unless_doubt l.doubt (line_answer (pairs_by l) (number_by l) ut step up)

abbrev pub LineByLedger : List Entry → Moment → Entry → Moment → Type 0
LineByLedger past m (Recover r) m' = Unit {0}
LineByLedger past m (Begin r) m' = Unit {0}
LineByLedger past m (Put t k v r) m' = Unit {0}
LineByLedger past m (Commit t r) m' = Unit {0}
LineByLedger past m (Abandon t r) m' = Unit {0}
LineByLedger past m (Get k r) m' = Unit {0}
LineByLedger past m (Temperature ut r) m' = Unit {0}
LineByLedger past m (Pressure st up r) m' = LineOf past (ledger_of past) st up r

-- ---- the law of a whole run

abbrev pub OnCall : (List Entry → Moment → Entry → Moment → Type 0) →
    List Entry → Moment → Option Entry → Moment → Type 0
OnCall P past m None m' = Unit {0}
OnCall P past m (Some e) m' = P past m e m'

-- a promise kept by every call of a run, from the store s and this past on
abbrev pub EachCall : {X Y : Type 0} → Ghosts X Y →
    (List Entry → Moment → Entry → Moment → Type 0) →
    List Entry → StoreState X → List (Link X) → Type 0
EachCall g P past s [] = Unit {0}
EachCall g P past s (k ∷ ks) =
    OnCall P past (moment_of g s) k.outcome (moment_of g k.after)
    × EachCall g P (past_with k.outcome past) k.after ks

-- Every call of a run since the format keeps each of these promises; s is the formatted store.
pub record Lawful {X Y : Type 0} (g : Ghosts X Y) (s : StoreState X)
    (links : List (Link X)) : Type 0 where
  pub answers : EachCall g (RightAnswer s.next) [] s links
  pub cold : EachCall g ColdSinceCut [] s links
  pub holds : EachCall g HoldsLedger [] s links
  pub numbers : EachCall g RightNumber [] s links
  pub whole : EachCall g WholeOrNotAtAll [] s links
  pub good : EachCall g ForGood [] s links
  pub cuts : EachCall g CutOnlyShort [] s links
  pub lines : EachCall g LineByLedger [] s links

-- An accepted format, and then the calls that were asked for, as ONE chain of stores with their
-- flashes themselves, from s to s': nothing happens to the flash between two calls, and the law
-- speaks of these very stores.
pub record WholeRun {X Y : Type 0} (g : Ghosts X Y) (s : StoreState X) (requests : List Request)
    (log : List (Option Entry)) (s' : StoreState X) : Type 0 where
  -- the format answered 0, and left the store `formatted`, which holds no pairs and has the
  -- number 0
  pub formatted : StoreState X
  pub does : Formats (moment_of g s) (Ok 0) (moment_of g formatted)
  pub itself : FormatsFlash g s.flash (Ok 0) formatted.flash
  pub begins : Agrees formatted.next [] (moment_of g formatted)
  -- the requests in their order, nothing held at first; then the tickets still held are abandoned
  pub calls : List (Link X)
  pub asked : map request_in calls ≡ requests
  pub between : StoreState X
  pub left : Held
  pub made : Linked g formatted nothing_held calls between left
  pub closing : List (Link X)
  pub closed : map request_in closing ≡ map abandoning left.tickets
  pub abandons : Linked g between left closing s' (held [] left.steps)
  -- what came of each is the answer
  pub logged : log ≡ map outcome_in (calls ++ closing)
  -- and the law holds of each
  pub law : Lawful g formatted (calls ++ closing)
  -- so more calls can go on from here
  pub ends : Agrees formatted.next (past_after log []) (moment_of g s')

-- where the format was refused, nothing else was called
pub record FormatRefused {X Y : Type 0} (g : Ghosts X Y) (s : StoreState X) (why : Refusal)
    (s' : StoreState X) : Type 0 where
  pub does : Formats (moment_of g s) (Err why) (moment_of g s')
  pub itself : FormatsFlash g s.flash (Err why) s'.flash
