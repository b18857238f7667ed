-- A run: calls made one after the other on a store, with what they give held between them.
use Rattle.std.specs.Prelude.{◌≡◌, ℕ, cond, List, [], ◌∷◌, ◌++◌, map, ℤ, Some, None, Ok, Err, Option, slice_index_or, slice_set}
use Rattle.std.specs.Option.{option_map}
use Rattle.store.specs.declared.entries.Entry.{Entry}
use Rattle.store.specs.declared.entries.Entry.TheVariants.{Recover as recovered, Begin as begun, Put as did_put, Commit as committed, Abandon as abandoned, Get as got, Temperature as took_temperature, Pressure as took_pressure}
use Rattle.store.specs.declared.steps.StepNumbers.{StepNumbers}
use Rattle.flash.specs.declared.interface.Flash.{Ghosts}
use Rattle.store.specs.Moments.{Moment}
use Rattle.store.specs.Law.{Given, Agrees, CallFollowsLedger}
use Rattle.runs.specs.States.{StoreState, moment_of, Effect}
use Rattle.runs.specs.Held.{Held, held, nothing_held, has, without}
use Rattle.runs.specs.declared.requests.Request.{Request}
use Rattle.runs.specs.declared.requests.Request.TheVariants.{Recover, Begin, Put, Commit, Abandon, Get, Temperature, Pressure}

-- a call without its answer
pub data Call : Type 0 where
  recover : Call
  begin : Call
  put : ℕ → ℕ → ℤ → Call
  commit : ℕ → Call
  abandon : ℕ → Call
  get : ℕ → Call
  temperature : ℤ → Call
  pressure : StepNumbers → ℤ → Call

-- the call of an entry
abbrev pub call_in : Entry → Call
call_in (recovered r) = recover
call_in (begun r) = begin
call_in (did_put t k v r) = put t k v
call_in (committed t r) = commit t
call_in (abandoned t r) = abandon t
call_in (got k r) = get k
call_in (took_temperature ut r) = temperature ut
call_in (took_pressure st up r) = pressure st up

-- the call that a request asks for: none where it names a ticket that is not held, or a step that was not given or is used
abbrev pub with_step : Option StepNumbers → ℤ → Option Call
with_step None up = None
with_step (Some st) up = Some (pressure st up)

abbrev pub call_for : Held → Request → Option Call
call_for h Recover = Some recover
call_for h Begin = Some begin
call_for h (Put t k v) = cond (has t h.tickets) (Some (put t k v)) None
call_for h (Commit t) = cond (has t h.tickets) (Some (commit t)) None
call_for h (Abandon t) = cond (has t h.tickets) (Some (abandon t)) None
call_for h (Get k) = Some (get k)
call_for h (Temperature ut) = Some (temperature ut)
call_for h (Pressure place up) = with_step (slice_index_or h.steps place None) up

-- the place of the step that a request uses
abbrev pub step_place : Request → ℕ
step_place Recover = 0
step_place Begin = 0
step_place (Put t k v) = 0
step_place (Commit t) = 0
step_place (Abandon t) = 0
step_place (Get k) = 0
step_place (Temperature ut) = 0
step_place (Pressure place up) = place

-- what is held after a call: an accepted begin gives a ticket, commit and abandon take theirs; an accepted temperature gives a step,
-- a pressure uses the one at its place up
abbrev pub held_with : Held → ℕ → Entry → Held
held_with h place (recovered r) = h
held_with h place (begun (Ok t)) = held (h.tickets ++ t ∷ []) h.steps
held_with h place (begun (Err why)) = h
held_with h place (did_put t k v r) = h
held_with h place (committed t r) = held (without t h.tickets) h.steps
held_with h place (abandoned t r) = held (without t h.tickets) h.steps
held_with h place (got k r) = h
held_with h place (took_temperature ut (Ok st)) = held h.tickets (h.steps ++ Some st ∷ [])
held_with h place (took_temperature ut (Err why)) = h
held_with h place (took_pressure st up r) = held h.tickets (slice_set h.steps place None)

abbrev pub held_after : Held → Request → Option Entry → Held
held_after h q None = h
held_after h q (Some e) = held_with h (step_place q) e

-- What comes of one request: the call that it asks for is made, with this answer, or none; s is the
-- store before it, s' after it.
abbrev pub Turn : {X Y : Type 0} → Ghosts X Y →
    StoreState X → Held → Request → Option Entry → StoreState X → Held → Type 0
Turn g s h q o s' h' =
    (option_map call_in o ≡ call_for h q) × Effect g s o s' × (h' ≡ held_after h q o)

-- one request of a run with what came of it: the entry if a call was made, and the store, its flash
-- itself included, and what is held after it
pub record Link (X : Type 0) : Type 0 where
  pub request : Request
  pub outcome : Option Entry
  pub after : StoreState X
  pub holds : Held

abbrev pub request_in : {X : Type 0} → Link X → Request
request_in k = k.request

abbrev pub outcome_in : {X : Type 0} → Link X → Option Entry
outcome_in k = k.outcome

-- Each request is taken up on what the one before left: the links are one chain of stores with
-- their flashes, from s to s'.
abbrev pub Linked : {X Y : Type 0} → Ghosts X Y →
    StoreState X → Held → List (Link X) → StoreState X → Held → Type 0
Linked g s h [] s' h' = (s' ≡ s) × (h' ≡ h)
Linked g s h (k ∷ ks) s' h' =
    Turn g s h k.request k.outcome k.after k.holds × Linked g k.after k.holds ks s' h'

-- the past after a request
abbrev pub past_with : Option Entry → List Entry → List Entry
past_with None past = past
past_with (Some e) past = e ∷ past

-- and after all that came of some requests
abbrev pub past_after : List (Option Entry) → List Entry → List Entry
past_after [] past = past
past_after (o ∷ os) past = past_after os (past_with o past)

abbrev pub Follows : ℕ → List Entry → Moment → Option Entry → Moment → Type 0
Follows first past m None m' = m' ≡ m
Follows first past m (Some e) m' = CallFollowsLedger first past m e m'

-- the step of a pressure was given by a temperature of the past, from this UT
pub record StepGiven (past : List Entry) (st : StepNumbers) : Type 0 where
  pub ut : ℤ
  pub given : Given past ut st

abbrev pub PressureGiven : List Entry → Option Entry → Type 0
PressureGiven past None = Unit {0}
PressureGiven past (Some (recovered r)) = Unit {0}
PressureGiven past (Some (begun r)) = Unit {0}
PressureGiven past (Some (did_put t k v r)) = Unit {0}
PressureGiven past (Some (committed t r)) = Unit {0}
PressureGiven past (Some (abandoned t r)) = Unit {0}
PressureGiven past (Some (got k r)) = Unit {0}
PressureGiven past (Some (took_temperature ut r)) = Unit {0}
PressureGiven past (Some (took_pressure st up r)) = StepGiven past st

-- at every moment of the run the store agrees with the past so far, every answer is the one that
-- the ledger calls for, and every pressure goes by a step that the past gave
abbrev pub FollowsThroughout : {X Y : Type 0} → Ghosts X Y →
    ℕ → List Entry → StoreState X → List (Link X) → Type 0
FollowsThroughout g first past s [] = Agrees first past (moment_of g s)
FollowsThroughout g first past s (k ∷ ks) =
    Agrees first past (moment_of g s)
    × Follows first past (moment_of g s) k.outcome (moment_of g k.after)
    × PressureGiven past k.outcome
    × FollowsThroughout g first (past_with k.outcome past) k.after ks

abbrev pub abandoning : ℕ → Request
abandoning t = Abandon t

-- What a list of requests led to, from s to s': all of them were taken up in their order, with
-- nothing held at first; then each ticket that was still held was abandoned, in the order in which
-- they were given; the log has what came of each. The stores between the calls are those at which
-- the law holds, for every past that the store agreed with at first.
pub record RunMade {X Y : Type 0} (g : Ghosts X Y) (s : StoreState X) (requests : List Request)
    (log : List (Option Entry)) (s' : StoreState X) : Type 0 where
  pub calls : List (Link X)
  pub asked : map request_in calls ≡ requests
  pub between : StoreState X
  pub left : Held
  pub made : Linked g s nothing_held calls between left
  pub closing : List (Link X)
  pub closed : map request_in closing ≡ map abandoning left.tickets
  pub abandons : Linked g between left closing s' (held [] left.steps)
  pub logged : log ≡ map outcome_in (calls ++ closing)
  pub follows : (first : ℕ) (past : List Entry) → Agrees first past (moment_of g s) →
      FollowsThroughout g first past s (calls ++ closing)
  -- so a further run begins where this one ended
  pub ends : (first : ℕ) (past : List Entry) → Agrees first past (moment_of g s) →
      Agrees first (past_after log past) (moment_of g s')

-- what some requests added to a log, for contracts of private functions alone
pub record Made {X Y : Type 0} (g : Ghosts X Y) (s : StoreState X) (h : Held)
    (requests : List Request) (before after : List (Option Entry))
    (s' : StoreState X) (h' : Held) : Type 0 where
  pub links : List (Link X)
  pub asked : map request_in links ≡ requests
  pub logged : after ≡ before ++ map outcome_in links
  pub linked : Linked g s h links s' h'
