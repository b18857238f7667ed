-- One call more after a past: what carries over, and what has to be shown for the call.
use Rattle.std.proofs.Common.{◌≡◌, ℕ, ◌+◌, Bool, true, false, cond, eqb, List, [], ◌∷◌, ◌++◌, length, take, ℤ, None, Ok, Err, Option, Result, sym, refl, ap, ◌∙◌, subst, inl, inr, arith}
use Rattle.std.proofs.lemmas.List.{append-nil, length-append, take-append-le}
use Rattle.std.proofs.lemmas.Bool.{both_ways}
use Rattle.flash.specs.FlashState.{FlashState}
use Rattle.layout.specs.declared.meanings.Pair.{Pair}
use Rattle.layout.specs.PairLists.{merged}
use Rattle.store.specs.declared.entries.Entry.{Entry}
use Rattle.store.specs.declared.entries.Entry.TheVariants.{Recover, Begin, Put, Commit, Abandon, Get, Temperature, Pressure}
use Rattle.store.specs.declared.refusals.Refusal.{Refusal}
use Rattle.store.specs.declared.steps.StepNumbers.{StepNumbers}
use Rattle.store.specs.Refusals.{refusal_number}
use Rattle.store.specs.Readings.{temperature_answer}
use Rattle.store.specs.Memories.{Memory}
use Rattle.store.specs.Moments.{Moment}
use Rattle.store.specs.Calls.{If, Plain}
use Rattle.store.specs.Ledger.{OpenChange, Ledger, ledger, laid, number_by, one_more, change_in, drops, doubts, fed, ledger_of, begins, cut_since_recover}
use Rattle.store.specs.Law.{Right, StepStands, Given, AgreesIn, Agrees, is_cold, AnswersNumber, Grows, CallFollowsLedger}

abbrev pub moment_at : FlashState → Memory → ℕ → Moment
moment_at s mem n = record { flash = s; memory = mem; next = n }

pub if_both : {A B : Type 0} (C : Type 0) (b : Bool) → If b A B → (b ≡ true → A → C) → (b ≡ false → B → C) → C
if_both C true x f g = f refl x
if_both C false x f g = g refl x

pub if_true : {b : Bool} (A B : Type 0) → b ≡ true → A → If b A B
if_true A B e x = subst (λ b. If b A B) (sym e) x

pub if_false : {b : Bool} (A B : Type 0) → b ≡ false → B → If b A B
if_false A B e x = subst (λ b. If b A B) (sym e) x

-- ---- the standing changes grow at their end

pub laid_last : (base : List Pair) (cs : List (List Pair)) (c : List Pair) → laid base (cs ++ c ∷ []) ≡ merged (laid base cs) c
laid_last base [] c = refl
laid_last base (d ∷ cs) c = laid_last (merged base d) cs c

grows_same : (l l' : Ledger) → l'.standing ≡ l.standing → Grows l l'
grows_same l l' e = record { more = []; grown = e ∙ sym (append-nil l.standing) }

grows_cond : (b : Bool) (l x y : Ledger) → Grows l x → Grows l y → Grows l (cond b x y)
grows_cond true l x y p q = p
grows_cond false l x y p q = q

grows_more : (b : Bool) (l : Ledger) (more : List (List Pair)) (o : Option OpenChange) (d : Option (List Pair)) →
    Grows l (ledger (cond b (l.standing ++ more) l.standing) o d)
grows_more true l more o d = record { more = more; grown = refl }
grows_more false l more o d = grows_same l (ledger l.standing o d) refl

grows : (l : Ledger) (e : Entry) → Grows l (fed l e)
grows l (Recover (Ok n)) = grows_more (eqb n (number_by l + 1)) l (one_more l.doubt) None None
grows l (Recover (Err why)) = grows_same l l refl
grows l (Begin (Ok t)) = grows_same l (fed l (Begin (Ok t))) refl
grows l (Begin (Err why)) = grows_same l l refl
grows l (Put t k v (Ok n)) = grows_same l (fed l (Put t k v (Ok n))) refl
grows l (Put t k v (Err why)) = grows_same l l refl
grows l (Commit t (Ok n)) = record { more = one_more (change_in l.opened); grown = refl }
grows l (Commit t (Err why)) =
    grows_cond (eqb (refusal_number why) 11) l (doubts l) (cond (eqb (refusal_number why) 10) (drops l) l) (grows_same l (doubts l) refl)
    (grows_cond (eqb (refusal_number why) 10) l (drops l) l (grows_same l (drops l) refl) (grows_same l l refl))
grows l (Abandon t (Ok x)) = grows_same l (drops l) refl
grows l (Abandon t (Err why)) = grows_same l l refl
grows l (Get k r) = grows_same l l refl
grows l (Temperature ut r) = grows_same l l refl
grows l (Pressure st up r) = grows_same l l refl

-- ---- steps given

later : (l l' : Ledger) (ut : ℤ) (st : StepNumbers) → Grows l l' → StepStands l ut st → StepStands l' ut st
later l l' ut st g h =
    let longer : number_by l' ≡ number_by l + length g.more = ap length g.grown ∙ length-append l.standing g.more in
    let same : take st.number l'.standing ≡ take st.number l.standing =
    ap (take st.number) g.grown ∙ take-append-le st.number l.standing g.more h.stood in
    record {
      stood = omega (arith, h.stood, longer);
      worked = ap (λ (cs : List (List Pair)). temperature_answer (laid [] cs) st.number ut) same ∙ h.worked;
    }

abbrev pub is_temperature : Entry → Bool
is_temperature (Recover r) = false
is_temperature (Begin r) = false
is_temperature (Put t k v r) = false
is_temperature (Commit t r) = false
is_temperature (Abandon t r) = false
is_temperature (Get k r) = false
is_temperature (Temperature ut r) = true
is_temperature (Pressure st up r) = false

pub no_step : (l : Ledger) (e : Entry) → is_temperature e ≡ false → (ut : ℤ) (st : StepNumbers) → e ≡ Temperature ut (Ok st) → StepStands l ut st
no_step l e h ut st q = absurd (both_ways (is_temperature e) h (ap is_temperature q))

module _ (first : ℕ) (past : List Entry) where
  steps_on : (e : Entry) → ((ut : ℤ) (st : StepNumbers) → Given past ut st → StepStands (ledger_of past) ut st) →
      ((ut : ℤ) (st : StepNumbers) → e ≡ Temperature ut (Ok st) → StepStands (ledger_of past) ut st) →
      (ut : ℤ) (st : StepNumbers) → Given (e ∷ past) ut st → StepStands (ledger_of (e ∷ past)) ut st
  steps_on e old new ut st (inl q) = later (ledger_of past) (ledger_of (e ∷ past)) ut st (grows (ledger_of past) e) (new ut st q)
  steps_on e old new ut st (inr q) = later (ledger_of past) (ledger_of (e ∷ past)) ut st (grows (ledger_of past) e) (old ut st q)

  -- what has to be shown for the agreement after a call
  pub on_agrees : {m : Moment} (e : Entry) (m' : Moment) → Agrees first past m →
      ((ut : ℤ) (st : StepNumbers) → e ≡ Temperature ut (Ok st) → StepStands (ledger_of past) ut st) →
      AgreesIn m'.memory m'.flash (ledger_of (e ∷ past)) →
      is_cold m'.memory ≡ cut_since_recover (e ∷ past) →
      m'.next ≡ first + begins (e ∷ past) →
      Agrees first (e ∷ past) m'
  on_agrees e m' a new memory since next = record { memory = memory; cold_since = since; next = next; steps = steps_on e a.steps new }

  -- and for the call
  pub follows : (m : Moment) (e : Entry) (m' : Moment) → Agrees first past m →
      ((ut : ℤ) (st : StepNumbers) → e ≡ Temperature ut (Ok st) → StepStands (ledger_of past) ut st) →
      Right first past m.flash e →
      AgreesIn m'.memory m'.flash (ledger_of (e ∷ past)) →
      is_cold m'.memory ≡ cut_since_recover (e ∷ past) →
      m'.next ≡ first + begins (e ∷ past) →
      AnswersNumber e (ledger_of (e ∷ past)) →
      CallFollowsLedger first past m e m'
  follows m e m' a new right memory since next number =
      record { right = right; agrees = on_agrees e m' a new memory since next; number_after = number; grows = grows (ledger_of past) e }

  -- a call that leaves the flash as it was
  pub plainly : {A : Type 0} (entry : Result A Refusal → Entry) (m m' : Moment) (r want : Result A Refusal) (mem : Memory) (n : ℕ) → Plain m r want mem n m' →
      CallFollowsLedger first past m (entry want) (moment_at m.flash mem n) → CallFollowsLedger first past m (entry r) m'
  plainly {A} entry m m' r want mem n d x =
      let here : m' ≡ moment_at m.flash mem n = λ i. moment_at (d.3 i) (d.1 i) (d.2 i) in
      subst (λ (q : Moment). CallFollowsLedger first past m (entry r) q) (sym here)
      (subst (λ (q : Result A Refusal). CallFollowsLedger first past m (entry q) (moment_at m.flash mem n)) (sym d.0) x)
