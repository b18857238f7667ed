-- The steps that a run holds were given by temperatures of its past.
use Rattle.std.proofs.Common.{◌≡◌, ℕ, zero, suc, Bool, true, false, cond, List, [], ◌∷◌, ◌++◌, get_or, set, ℤ, Some, None, Ok, Err, Option, sym, refl, ap, subst, inl, inr, arith}
use Rattle.std.specs.Option.{option_map}
use Rattle.store.specs.declared.entries.Entry.{Entry}
use Rattle.store.specs.declared.entries.Entry.TheVariants.{Recover as recovered, Begin as begun, Put as did_put, Commit as committed, Abandon as abandoned, Get as got, Temperature as took_temperature, Pressure as took_pressure}
use Rattle.store.specs.declared.steps.StepNumbers.{StepNumbers}
use Rattle.runs.specs.Held.{Held, has}
use Rattle.runs.specs.declared.requests.Request.{Request}
use Rattle.runs.specs.declared.requests.Request.TheVariants.{Recover, Begin, Put, Commit, Abandon, Get, Temperature, Pressure}
use Rattle.runs.specs.Runs.{Call, recover, begin, put, commit, abandon, get, temperature, pressure, call_in, with_step, call_for, step_place, held_with, held_after, past_with, StepGiven, PressureGiven}

abbrev pub AllGiven : List Entry → List (Option StepNumbers) → Type 0
AllGiven past [] = Unit {0}
AllGiven past (None ∷ ss) = AllGiven past ss
AllGiven past (Some st ∷ ss) = StepGiven past st × AllGiven past ss

-- one call more
given_more : (past : List Entry) (e : Entry) (ss : List (Option StepNumbers)) → AllGiven past ss → AllGiven (e ∷ past) ss
given_more past e [] a = tt
given_more past e (None ∷ ss) a = given_more past e ss a
given_more past e (Some st ∷ ss) a = (record { ut = a.0.ut; given = inr a.0.given }, given_more past e ss a.1)

-- one step more
given_with : (past : List Entry) (st : StepNumbers) (ss : List (Option StepNumbers)) → AllGiven past ss → StepGiven past st → AllGiven past (ss ++ Some st ∷ [])
given_with past st [] a g = (g, tt)
given_with past st (None ∷ ss) a g = given_with past st ss a g
given_with past st (Some x ∷ ss) a g = (a.0, given_with past st ss a.1 g)

-- one step used up
given_less : (past : List Entry) (ss : List (Option StepNumbers)) (i : ℕ) → AllGiven past ss → AllGiven past (set ss i None)
given_less past [] i a = tt
given_less past (None ∷ ss) zero a = a
given_less past (Some x ∷ ss) zero a = a.1
given_less past (None ∷ ss) (suc i) a = given_less past ss i a
given_less past (Some x ∷ ss) (suc i) a = (a.0, given_less past ss i a.1)

given_at : (past : List Entry) (ss : List (Option StepNumbers)) (i : ℕ) (st : StepNumbers) → AllGiven past ss → get_or ss i None ≡ Some st → StepGiven past st
given_at past [] i st a e = let z : ◌≡◌ {A = ℕ} 0 1 = cc in absurd (omega arith)
given_at past (None ∷ ss) zero st a e = let z : ◌≡◌ {A = ℕ} 0 1 = cc in absurd (omega arith)
given_at past (Some x ∷ ss) zero st a e = let q : x ≡ st = cc in subst (StepGiven past) q a.0
given_at past (None ∷ ss) (suc i) st a e = given_at past ss i st a e
given_at past (Some x ∷ ss) (suc i) st a e = given_at past ss i st a.1 e

-- what is held after a call was given by the past with it
held_given : (past : List Entry) (h : Held) (place : ℕ) (e : Entry) → AllGiven past h.steps → AllGiven (e ∷ past) (held_with h place e).steps
held_given past h place (recovered r) a = given_more past (recovered r) h.steps a
held_given past h place (begun (Ok t)) a = given_more past (begun (Ok t)) h.steps a
held_given past h place (begun (Err why)) a = given_more past (begun (Err why)) h.steps a
held_given past h place (did_put t k v r) a = given_more past (did_put t k v r) h.steps a
held_given past h place (committed t r) a = given_more past (committed t r) h.steps a
held_given past h place (abandoned t r) a = given_more past (abandoned t r) h.steps a
held_given past h place (got k r) a = given_more past (got k r) h.steps a
held_given past h place (took_temperature ut (Ok st)) a =
    given_with (took_temperature ut (Ok st) ∷ past) st h.steps (given_more past (took_temperature ut (Ok st)) h.steps a) (record { ut = ut; given = inl refl })
held_given past h place (took_temperature ut (Err why)) a = given_more past (took_temperature ut (Err why)) h.steps a
held_given past h place (took_pressure st up r) a = given_less (took_pressure st up r ∷ past) h.steps place (given_more past (took_pressure st up r) h.steps a)

pub given_after : (past : List Entry) (h : Held) (q : Request) (o : Option Entry) → AllGiven past h.steps → AllGiven (past_with o past) (held_after h q o).steps
given_after past h q None a = a
given_after past h q (Some e) a = held_given past h (step_place q) e a

-- ---- a pressure's step is one that is held

abbrev step_in : Option Call → Option StepNumbers
step_in None = None
step_in (Some recover) = None
step_in (Some begin) = None
step_in (Some (put t k v)) = None
step_in (Some (commit t)) = None
step_in (Some (abandon t)) = None
step_in (Some (get k)) = None
step_in (Some (temperature ut)) = None
step_in (Some (pressure st up)) = Some st

none_in : (b : Bool) (x : Call) → step_in (Some x) ≡ None → step_in (cond b (Some x) None) ≡ None
none_in true x e = e
none_in false x e = refl

no_step : (st : StepNumbers) (o : Option StepNumbers) → o ≡ None → Some st ≡ o → ⊥
no_step st o e f = let z : ◌≡◌ {A = ℕ} 0 1 = cc in absurd (omega arith)

with_step_in : (o : Option StepNumbers) (up : ℤ) (st : StepNumbers) → Some st ≡ step_in (with_step o up) → o ≡ Some st
with_step_in None up st e = let z : ◌≡◌ {A = ℕ} 0 1 = cc in absurd (omega arith)
with_step_in (Some x) up st e = sym e

from_held : (past : List Entry) (h : Held) (q : Request) (st : StepNumbers) → AllGiven past h.steps → Some st ≡ step_in (call_for h q) → StepGiven past st
from_held past h Recover st a e = absurd (no_step st None refl e)
from_held past h Begin st a e = absurd (no_step st None refl e)
from_held past h (Put t k v) st a e = absurd (no_step st _ (none_in (has t h.tickets) (put t k v) refl) e)
from_held past h (Commit t) st a e = absurd (no_step st _ (none_in (has t h.tickets) (commit t) refl) e)
from_held past h (Abandon t) st a e = absurd (no_step st _ (none_in (has t h.tickets) (abandon t) refl) e)
from_held past h (Get k) st a e = absurd (no_step st None refl e)
from_held past h (Temperature ut) st a e = absurd (no_step st None refl e)
from_held past h (Pressure place up) st a e = given_at past h.steps place st a (with_step_in (get_or h.steps place None) up st e)

pub pressure_given : (past : List Entry) (h : Held) (q : Request) (o : Option Entry) → AllGiven past h.steps → option_map call_in o ≡ call_for h q → PressureGiven past o
pressure_given past h q None a e = tt
pressure_given past h q (Some (recovered r)) a e = tt
pressure_given past h q (Some (begun r)) a e = tt
pressure_given past h q (Some (did_put t k v r)) a e = tt
pressure_given past h q (Some (committed t r)) a e = tt
pressure_given past h q (Some (abandoned t r)) a e = tt
pressure_given past h q (Some (got k r)) a e = tt
pressure_given past h q (Some (took_temperature ut r)) a e = tt
pressure_given past h q (Some (took_pressure st up r)) a e = from_held past h q st a (ap step_in e)
