-- The calls that leave the flash as it was follow the ledger.
use Rattle.std.proofs.Common.{◌≡◌, ℕ, ◌+◌, Bool, true, false, cond, eqb, List, [], ◌∷◌, take, ℤ, pos, Some, None, Ok, Err, Option, Result, sym, refl, ap, ◌∙◌, subst, arith}
use Rattle.std.proofs.lemmas.List.{take_all}
use Rattle.std.proofs.lemmas.Bool.{cond-true, cond-false, eqb-true}
use Rattle.flash.specs.FlashState.{FlashState}
use Rattle.layout.specs.declared.meanings.Pair.{Pair}
use Rattle.layout.specs.Catalogue.{pair_of}
use Rattle.layout.specs.PairLists.{with_pair}
use Rattle.compensation.specs.Ranges.{within}
use Rattle.compensation.specs.Formulas.{temperature_at, pressure_of}
use Rattle.compensation.specs.declared.readings.WorkedTemperature.{WorkedTemperature}
use Rattle.compensation.specs.declared.readings.ReadingRefusal.{ReadingRefusal}
use Rattle.readings.specs.Gathered.{lowest_absent, coefficients_of}
use Rattle.journal.specs.Reading.{Reading}
use Rattle.journal.specs.Commit.{Change}
use Rattle.store.specs.declared.entries.Entry.{Entry}
use Rattle.store.specs.declared.entries.Entry.TheVariants.{Recover, Begin, Put, Commit, Abandon, Get, Temperature, Pressure}
use Rattle.store.specs.declared.refusals.Refusal.{Refusal}
use Rattle.store.specs.declared.refusals.Refusal.TheVariants.{Cold, ChangeOpen, NoTickets, WrongTicket, RawValue, OldStep}
use Rattle.store.specs.declared.steps.StepNumbers.{StepNumbers}
use Rattle.store.specs.declared.steps.Line.{Line}
use Rattle.store.specs.Changes.{put_answer, put_change}
use Rattle.store.specs.Readings.{refusal_of, unless_absent, step_of, line_of, temperature_answer, pressure_answer}
use Rattle.store.specs.Memories.{Memory, cold, ready, changing}
use Rattle.store.specs.Moments.{Moment}
use Rattle.store.specs.Calls.{last_number, Begins, Puts, Abandons, looked, Looks, get_answer}
use Rattle.store.specs.Ledger.{OpenChange, Ledger, laid, pairs_by, number_by, with_put, ledger_of, begins}
use Rattle.store.specs.Law.{unless_doubt, begin_answer, with_ticket, line_with, line_answer, AgreesIn, StepStands, Agrees, CallFollowsLedger}
use Rattle.store.proofs.Following.{moment_at, if_both, no_step, on_agrees, follows, plainly}
use Rattle.store.proofs.Changing.{put_cases}

pub none_change : Change []
none_change = record { formed = refl; few = omega arith }

-- ---- what a step says of its UT

err_ok : {A : Type 0} (why : Refusal) (x : A) → ◌≡◌ {A = Result A Refusal} (Err why) (Ok x) → ⊥
err_ok why x e = let z : ◌≡◌ {A = ℕ} 0 1 = cc in absurd (omega arith)

line_worked : (ps : List Pair) (n : ℕ) (up : ℤ) (st : StepNumbers) (w : Result WorkedTemperature ReadingRefusal) → step_of n w ≡ Ok st →
    line_of st.t (pressure_of (coefficients_of ps) st.b5 up) ≡ line_with ps up w
line_worked ps n up st (Ok w) e =
    let q : st ≡ record { b5 = w.b5; t = w.t; number = n } = cc in
    λ i. line_of (q i).t (pressure_of (coefficients_of ps) (q i).b5 up)
line_worked ps n up st (Err why) e = absurd (err_ok (refusal_of why) st e)

-- with all keys there
line_there : (ps : List Pair) (n : ℕ) (ut up : ℤ) (st : StepNumbers) (o : Option ℕ) → unless_absent o (step_of n (temperature_at (coefficients_of ps) ut)) ≡ Ok st →
    line_of st.t (pressure_of (coefficients_of ps) st.b5 up) ≡ line_with ps up (temperature_at (coefficients_of ps) ut)
line_there ps n ut up st None e = line_worked ps n up st (temperature_at (coefficients_of ps) ut) e
line_there ps n ut up st (Some k) e = absurd (err_ok _ st e)

line_raw : (b : Bool) (ps : List Pair) (n : ℕ) (ut up : ℤ) (st : StepNumbers) →
    cond b (unless_absent (lowest_absent ps) (step_of n (temperature_at (coefficients_of ps) ut))) (Err RawValue) ≡ Ok st →
    line_of st.t (pressure_of (coefficients_of ps) st.b5 up) ≡ line_with ps up (temperature_at (coefficients_of ps) ut)
line_raw true ps n ut up st e = line_there ps n ut up st (lowest_absent ps) e
line_raw false ps n ut up st e = absurd (err_ok RawValue st e)

cond_like : (b : Bool) (x y z : Result Line Refusal) → (b ≡ true → x ≡ y) → cond b x z ≡ cond b y z
cond_like true x y z h = h refl
cond_like false x y z h = refl

-- the line of a step that was given from UT is the line from UT
step_line : (l : Ledger) (ut up : ℤ) (st : StepNumbers) → StepStands l ut st →
    pressure_answer (pairs_by l) (number_by l) st up ≡ line_answer (pairs_by l) (number_by l) ut st up
step_line l ut up st h =
    ap (unless_absent (lowest_absent (pairs_by l)))
    (cond_like (eqb st.number (number_by l)) _ _ (Err OldStep)
    (λ e.
    let n : st.number ≡ number_by l = eqb-true st.number (number_by l) e in
    let all : take st.number l.standing ≡ l.standing = take_all st.number l.standing (omega arith) in
    line_raw (within (pos 0) (pos 65535) ut) (pairs_by l) st.number ut up st
    (ap (λ (cs : List (List Pair)). temperature_answer (laid [] cs) st.number ut) (sym all) ∙ h.worked)))

-- a step has the number of the store that gave it
number_worked : (n : ℕ) (st : StepNumbers) (w : Result WorkedTemperature ReadingRefusal) → step_of n w ≡ Ok st → st.number ≡ n
number_worked n st (Ok w) e = let q : st ≡ record { b5 = w.b5; t = w.t; number = n } = cc in ap (λ (x : StepNumbers). x.number) q
number_worked n st (Err why) e = absurd (err_ok (refusal_of why) st e)

number_there : (n : ℕ) (st : StepNumbers) (w : Result WorkedTemperature ReadingRefusal) (o : Option ℕ) → unless_absent o (step_of n w) ≡ Ok st → st.number ≡ n
number_there n st w None e = number_worked n st w e
number_there n st w (Some k) e = absurd (err_ok _ st e)

step_number : (b : Bool) (ps : List Pair) (n : ℕ) (ut : ℤ) (st : StepNumbers) →
    cond b (unless_absent (lowest_absent ps) (step_of n (temperature_at (coefficients_of ps) ut))) (Err RawValue) ≡ Ok st → st.number ≡ n
step_number true ps n ut st e = number_there n st (temperature_at (coefficients_of ps) ut) (lowest_absent ps) e
step_number false ps n ut st e = absurd (err_ok RawValue st e)

-- the parts of a temperature's entry
abbrev ut_of : Entry → ℤ
ut_of (Recover r) = pos 0
ut_of (Begin r) = pos 0
ut_of (Put t k v r) = pos 0
ut_of (Commit t r) = pos 0
ut_of (Abandon t r) = pos 0
ut_of (Get k r) = pos 0
ut_of (Temperature ut r) = ut
ut_of (Pressure st up r) = pos 0

abbrev answer_of : Entry → Result StepNumbers Refusal
answer_of (Recover r) = Err Cold
answer_of (Begin r) = Err Cold
answer_of (Put t k v r) = Err Cold
answer_of (Commit t r) = Err Cold
answer_of (Abandon t r) = Err Cold
answer_of (Get k r) = Err Cold
answer_of (Temperature ut r) = r
answer_of (Pressure st up r) = Err Cold

module _ (first : ℕ) (past : List Entry) (s : FlashState) (n : ℕ) where
  abbrev l : Ledger
  l = ledger_of past

  abbrev at : Memory → Moment
  at mem = moment_at s mem n

  abbrev Step : Memory → Entry → Moment → Type 0
  Step mem e m' = CallFollowsLedger first past (at mem) e m'

  by_doubt : {A : Type 0} {d : Option (List Pair)} (answer x : Result A Refusal) → l.doubt ≡ d → answer ≡ unless_doubt d x → answer ≡ unless_doubt l.doubt x
  by_doubt answer x e h = h ∙ sym (ap (λ d. unless_doubt d x) e)

  -- ---- begin

  begin_by : {o : Option OpenChange} → l.doubt ≡ None → l.opened ≡ o → n ≡ first + begins past → (r : Result ℕ Refusal) → r ≡ begin_answer o n →
      r ≡ unless_doubt l.doubt (begin_answer l.opened (first + begins past))
  begin_by d o e r h = by_doubt r _ d (h ∙ (λ i. begin_answer (sym o i) (e i)))

  pub begin_follows : (mem : Memory) → Agrees first past (at mem) → (r : Result ℕ Refusal) (m' : Moment) → Begins mem (at mem) r m' → Step mem (Begin r) m'
  begin_follows cold a r m' d =
      plainly first past Begin (at cold) m' r (Err Cold) cold n d
      (follows first past (at cold) (Begin (Err Cold)) (at cold) a (no_step l (Begin (Err Cold)) refl) (by_doubt _ _ a.memory.in_doubt refl) a.memory a.cold_since a.next tt)
  begin_follows (ready rd) a r m' d =
      if_both (Step (ready rd) (Begin r) m') (eqb n last_number) d
      (λ e x. plainly first past Begin (at (ready rd)) m' r (Err NoTickets) (ready rd) n x
      (follows first past (at (ready rd)) (Begin (Err NoTickets)) (at (ready rd)) a (no_step l (Begin (Err NoTickets)) refl)
      (begin_by a.memory.no_doubt a.memory.same_open a.next (Err NoTickets) (sym (cond-true (eqb n last_number) (Err NoTickets) (Ok n) e)))
      a.memory a.cold_since a.next tt))
      (λ e x. plainly first past Begin (at (ready rd)) m' r (Ok n) (changing rd n []) (n + 1) x
      (follows first past (at (ready rd)) (Begin (Ok n)) (moment_at s (changing rd n []) (n + 1)) a (no_step l (Begin (Ok n)) refl)
      (begin_by a.memory.no_doubt a.memory.same_open a.next (Ok n) (sym (cond-false (eqb n last_number) (Err NoTickets) (Ok n) e))) (
        record {
          known = a.memory.known;
          same_pairs = a.memory.same_pairs;
          same_number = a.memory.same_number;
          same_open = refl;
          no_doubt = a.memory.no_doubt;
        },
        none_change,
      )
      a.cold_since (omega (arith, a.next)) tt))
  begin_follows (changing rd t ch) a r m' d =
      plainly first past Begin (at (changing rd t ch)) m' r (Err ChangeOpen) (changing rd t ch) n d
      (follows first past (at (changing rd t ch)) (Begin (Err ChangeOpen)) (at (changing rd t ch)) a (no_step l (Begin (Err ChangeOpen)) refl)
      (begin_by a.memory.0.no_doubt a.memory.0.same_open a.next (Err ChangeOpen) refl) a.memory a.cold_since a.next tt)

  -- ---- put and abandon

  ticket_by : {A : Type 0} {o : Option OpenChange} (shown : ℕ) (f : List Pair → Result A Refusal) → l.doubt ≡ None → l.opened ≡ o → (r : Result A Refusal) →
      r ≡ with_ticket o shown f → r ≡ unless_doubt l.doubt (with_ticket l.opened shown f)
  ticket_by shown f d o r h = by_doubt r _ d (h ∙ sym (ap (λ x. with_ticket x shown f) o))

  put_refused : (shown k : ℕ) (v : ℤ) (mem : Memory) (why : Refusal) → Agrees first past (at mem) → Agrees first (Put shown k v (Err why) ∷ past) (at mem)
  put_refused shown k v mem why a = on_agrees first past (Put shown k v (Err why)) (at mem) a (no_step l (Put shown k v (Err why)) refl) a.memory a.cold_since a.next

  put_accepted : (shown k : ℕ) (v : ℤ) (rd : Reading) (t : ℕ) (ch : List Pair) (count : ℕ) → Agrees first past (at (changing rd t ch)) → Change (with_pair (pair_of k v) ch) →
      Agrees first (Put shown k v (Ok count) ∷ past) (at (changing rd t (with_pair (pair_of k v) ch)))
  put_accepted shown k v rd t ch count a c =
      on_agrees first past (Put shown k v (Ok count)) (at (changing rd t (with_pair (pair_of k v) ch))) a (no_step l (Put shown k v (Ok count)) refl) (
        record {
          known = a.memory.0.known;
          same_pairs = a.memory.0.same_pairs;
          same_number = a.memory.0.same_number;
          same_open = ap (λ o. with_put o (pair_of k v)) a.memory.0.same_open;
          no_doubt = a.memory.0.no_doubt;
        },
        c,
      )
      a.cold_since a.next

  pub put_follows : (shown k : ℕ) (v : ℤ) (mem : Memory) → Agrees first past (at mem) → (r : Result ℕ Refusal) (m' : Moment) → Puts mem (at mem) shown (pair_of k v) r m' →
      Step mem (Put shown k v r) m'
  put_follows shown k v cold a r m' d =
      plainly first past (Put shown k v) (at cold) m' r (Err Cold) cold n d
      (follows first past (at cold) (Put shown k v (Err Cold)) (at cold) a (no_step l (Put shown k v (Err Cold)) refl) (by_doubt _ _ a.memory.in_doubt refl) a.memory a.cold_since a.next tt)
  put_follows shown k v (ready rd) a r m' d =
      plainly first past (Put shown k v) (at (ready rd)) m' r (Err WrongTicket) (ready rd) n d
      (follows first past (at (ready rd)) (Put shown k v (Err WrongTicket)) (at (ready rd)) a (no_step l (Put shown k v (Err WrongTicket)) refl)
      (ticket_by shown _ a.memory.no_doubt a.memory.same_open (Err WrongTicket) refl) a.memory a.cold_since a.next tt)
  put_follows shown k v (changing rd t ch) a r m' d =
      let here : Memory = changing rd t ch in
      let f : List Pair → Result ℕ Refusal = λ change. put_answer change (pair_of k v) in
      if_both (Step here (Put shown k v r) m') (eqb shown t) d
      (λ e x. plainly first past (Put shown k v) (at here) m' r (put_answer ch (pair_of k v)) (changing rd t (put_change ch (pair_of k v))) n x
      (let b : Agrees first (Put shown k v (put_answer ch (pair_of k v)) ∷ past) (at (changing rd t (put_change ch (pair_of k v)))) =
      put_cases ch (pair_of k v) (λ q ch'. Agrees first (Put shown k v q ∷ past) (at (changing rd t ch'))) a.memory.1
      (λ why. put_refused shown k v here why a) (λ c. put_accepted shown k v rd t ch _ a c) in
      follows first past (at here) (Put shown k v (put_answer ch (pair_of k v))) (at (changing rd t (put_change ch (pair_of k v)))) a
      (no_step l (Put shown k v (put_answer ch (pair_of k v))) refl)
      (ticket_by shown f a.memory.0.no_doubt a.memory.0.same_open _ (sym (cond-true (eqb shown t) (f ch) (Err WrongTicket) e)))
      b.memory b.cold_since b.next tt))
      (λ e x. plainly first past (Put shown k v) (at here) m' r (Err WrongTicket) here n x
      (follows first past (at here) (Put shown k v (Err WrongTicket)) (at here) a (no_step l (Put shown k v (Err WrongTicket)) refl)
      (ticket_by shown f a.memory.0.no_doubt a.memory.0.same_open (Err WrongTicket) (sym (cond-false (eqb shown t) (f ch) (Err WrongTicket) e)))
      a.memory a.cold_since a.next tt))

  pub abandon_follows : (shown : ℕ) (mem : Memory) → Agrees first past (at mem) → (r : Result (Unit {0}) Refusal) (m' : Moment) → Abandons tt mem (at mem) shown r m' →
      Step mem (Abandon shown r) m'
  abandon_follows shown cold a r m' d =
      plainly first past (Abandon shown) (at cold) m' r (Err Cold) cold n d
      (follows first past (at cold) (Abandon shown (Err Cold)) (at cold) a (no_step l (Abandon shown (Err Cold)) refl) (by_doubt _ _ a.memory.in_doubt refl) a.memory a.cold_since a.next tt)
  abandon_follows shown (ready rd) a r m' d =
      plainly first past (Abandon shown) (at (ready rd)) m' r (Err WrongTicket) (ready rd) n d
      (follows first past (at (ready rd)) (Abandon shown (Err WrongTicket)) (at (ready rd)) a (no_step l (Abandon shown (Err WrongTicket)) refl)
      (ticket_by shown _ a.memory.no_doubt a.memory.same_open (Err WrongTicket) refl) a.memory a.cold_since a.next tt)
  abandon_follows shown (changing rd t ch) a r m' d =
      let here : Memory = changing rd t ch in
      let f : List Pair → Result (Unit {0}) Refusal = λ change. Ok tt in
      if_both (Step here (Abandon shown r) m') (eqb shown t) d
      (λ e x. plainly first past (Abandon shown) (at here) m' r (Ok tt) (ready rd) n x
      (follows first past (at here) (Abandon shown (Ok tt)) (at (ready rd)) a (no_step l (Abandon shown (Ok tt)) refl)
      (ticket_by shown f a.memory.0.no_doubt a.memory.0.same_open (Ok tt) (sym (cond-true (eqb shown t) (f ch) (Err WrongTicket) e)))
      (record {
        known = a.memory.0.known;
        same_pairs = a.memory.0.same_pairs;
        same_number = a.memory.0.same_number;
        same_open = refl;
        no_doubt = a.memory.0.no_doubt;
      })
      a.cold_since a.next tt))
      (λ e x. plainly first past (Abandon shown) (at here) m' r (Err WrongTicket) here n x
      (follows first past (at here) (Abandon shown (Err WrongTicket)) (at here) a (no_step l (Abandon shown (Err WrongTicket)) refl)
      (ticket_by shown f a.memory.0.no_doubt a.memory.0.same_open (Err WrongTicket) (sym (cond-false (eqb shown t) (f ch) (Err WrongTicket) e)))
      a.memory a.cold_since a.next tt))

  -- ---- get, temperature and pressure

  looked_by : {A : Type 0} (answer : List Pair → ℕ → Result A Refusal) (mem : Memory) → AgreesIn mem s l → looked mem answer ≡ unless_doubt l.doubt (answer (pairs_by l) (number_by l))
  looked_by answer cold a = by_doubt _ _ a.in_doubt refl
  looked_by answer (ready rd) a = by_doubt _ _ a.no_doubt (λ i. answer (a.same_pairs i) (a.same_number i))
  looked_by answer (changing rd t ch) a = by_doubt _ _ a.0.no_doubt (λ i. answer (a.0.same_pairs i) (a.0.same_number i))

  pub get_follows : (k : ℕ) (mem : Memory) → Agrees first past (at mem) → (r : Result (Option ℤ) Refusal) (m' : Moment) → Looks (at mem) (λ ps number. get_answer ps k) r m' →
      Step mem (Get k r) m'
  get_follows k mem a r m' d =
      let want = looked mem (λ ps number. get_answer ps k) in
      plainly first past (Get k) (at mem) m' r want mem n d
      (follows first past (at mem) (Get k want) (at mem) a (no_step l (Get k want) refl) (looked_by (λ ps number. get_answer ps k) mem a.memory) a.memory a.cold_since a.next tt)

  -- a step that is given now
  stepped : (ut : ℤ) (st : StepNumbers) → temperature_answer (pairs_by l) (number_by l) ut ≡ Ok st → StepStands l ut st
  stepped ut st e =
      let number : st.number ≡ number_by l = step_number (within (pos 0) (pos 65535) ut) (pairs_by l) (number_by l) ut st e in
      let all : take st.number l.standing ≡ l.standing = take_all st.number l.standing (omega arith) in
      record { stood = omega arith; worked = (λ i. temperature_answer (laid [] (all i)) (number i) ut) ∙ e }

  unless_ok : {A : Type 0} (x : A) (o : Option (List Pair)) (answer : Result A Refusal) → unless_doubt o answer ≡ Ok x → answer ≡ Ok x
  unless_ok x None answer e = e
  unless_ok x (Some ch) answer e = absurd (err_ok Cold x e)

  pub temperature_follows : (ut : ℤ) (mem : Memory) → Agrees first past (at mem) → (r : Result StepNumbers Refusal) (m' : Moment) →
      Looks (at mem) (λ ps number. temperature_answer ps number ut) r m' → Step mem (Temperature ut r) m'
  temperature_follows ut mem a r m' d =
      let want = looked mem (λ ps number. temperature_answer ps number ut) in
      let by = looked_by (λ ps number. temperature_answer ps number ut) mem a.memory in
      plainly first past (Temperature ut) (at mem) m' r want mem n d
      (follows first past (at mem) (Temperature ut want) (at mem) a
      (λ u st e.
      let same : u ≡ ut = sym (ap ut_of e) in
      let given : want ≡ Ok st = ap answer_of e in
      subst (λ (x : ℤ). StepStands l x st) (sym same) (stepped ut st (unless_ok st l.doubt _ (sym by ∙ given))))
      by a.memory a.cold_since a.next tt)

  pub pressure_follows : (st : StepNumbers) (up : ℤ) (mem : Memory) → Agrees first past (at mem) → (r : Result Line Refusal) (m' : Moment) →
      Looks (at mem) (λ ps number. pressure_answer ps number st up) r m' → Step mem (Pressure st up r) m'
  pressure_follows st up mem a r m' d =
      let want = looked mem (λ ps number. pressure_answer ps number st up) in
      let by = looked_by (λ ps number. pressure_answer ps number st up) mem a.memory in
      plainly first past (Pressure st up) (at mem) m' r want mem n d
      (follows first past (at mem) (Pressure st up want) (at mem) a (no_step l (Pressure st up want) refl)
      (record { by_step = by; by_ut = λ ut g. by ∙ ap (unless_doubt l.doubt) (step_line l ut up st (a.steps ut st g)) })
      a.memory a.cold_since a.next tt)
