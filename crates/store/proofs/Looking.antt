-- Calls that only look at what stands, and readings from it.
use Rattle.std.proofs.Common.{◌≡◌, ℕ, Bool, true, false, cond, eqb, List, ℤ, pos, negsuc, None, Ok, Err, Result, sym, refl, ap, ◌∙◌, arith}
use Rattle.std.proofs.lemmas.Bool.{cond-true, cond-false, eq-eqb, ne_eqb}
use Rattle.layout.specs.declared.meanings.Pair.{Pair}
use Rattle.layout.specs.declared.pairs.Pairs.{Pairs}
use Rattle.layout.specs.Held.{pairs_of}
use Rattle.journal.specs.declared.standing.Standing.{Standing}
use Rattle.compensation.specs.Ranges.{within}
use Rattle.compensation.specs.Formulas.{checked_ut_of, temperature_at, pressure_of}
use Rattle.compensation.specs.declared.coefficients.Coefficients.{Coefficients}
use Rattle.compensation.specs.declared.readings.WorkedTemperature.{WorkedTemperature}
use Rattle.compensation.specs.declared.readings.WorkedPressure.{WorkedPressure}
use Rattle.compensation.specs.declared.readings.ReadingRefusal.{ReadingRefusal}
use Rattle.compensation.specs.declared.readings.ReadingRefusal.TheVariants.{RawValue as raw_value}
use Rattle.readings.specs.Gathered.{lowest_absent, coefficients_of}
use Rattle.store.specs.declared.phases.Phase.{Phase}
use Rattle.store.specs.declared.phases.Phase.TheVariants.{Cold as in_cold, Ready as in_ready, Changing as in_change}
use Rattle.store.specs.declared.refusals.Refusal.{Refusal}
use Rattle.store.specs.declared.refusals.Refusal.TheVariants.{Cold, WrongTicket, RawValue, OldStep}
use Rattle.store.specs.declared.steps.StepNumbers.{StepNumbers}
use Rattle.store.specs.declared.steps.Line.{Line}
use Rattle.store.specs.Readings.{unless_absent, step_of, line_of, temperature_answer, pressure_answer}
use Rattle.store.specs.Memories.{Memory, cold, ready, changing, memory_of}
use Rattle.store.specs.Moments.{Moment}
use Rattle.store.specs.Calls.{If, Plain, Refused, Abandons, looked, Looks}

abbrev pub number_of : List Pair → ℕ → Result ℕ Refusal
number_of ps number = Ok number

-- a refusal is the same whatever would have been answered
other_err : {A B : Type 0} (why other : Refusal) → ◌≡◌ {A = Result A Refusal} (Err why) (Err other) → ◌≡◌ {A = Result B Refusal} (Err why) (Err other)
other_err {A} {B} why other e =
    let q : why ≡ other = cc in
    let f : Refusal → Result B Refusal = λ x. Err x in
    ap f q

cold_answer : {A : Type 0} (mem : Memory) (f : List Pair → ℕ → Result A Refusal) (why : Refusal) → Err why ≡ looked mem number_of → Err why ≡ looked mem f
cold_answer cold f why e = other_err why Cold e
cold_answer (ready r) f why e = let z : ◌≡◌ {A = ℕ} 0 1 = cc in absurd (omega arith)
cold_answer (changing r t ch) f why e = let z : ◌≡◌ {A = ℕ} 0 1 = cc in absurd (omega arith)

-- a store that is cold refuses every look
pub looks_cold : {A : Type 0} (m m' : Moment) (f : List Pair → ℕ → Result A Refusal) (why : Refusal) (r : Result A Refusal) → r ≡ Err why →
    Looks m number_of (Err why) m' → Looks m f r m'
looks_cold m m' f why r is d = (is ∙ cold_answer m.memory f why d.0, d.1, d.2, d.3)

warm_answer : {A : Type 0} (p : Phase) (st : Standing) (ch : Pairs) (f : List Pair → ℕ → Result A Refusal) (n : ℕ) → Ok n ≡ looked (memory_of p st ch) number_of →
    f (pairs_of st.pairs) st.number ≡ looked (memory_of p st ch) f
warm_answer in_cold st ch f n e = let z : ◌≡◌ {A = ℕ} 0 1 = cc in absurd (omega arith)
warm_answer in_ready st ch f n e = refl
warm_answer (in_change t) st ch f n e = refl

-- another answers from its standing pairs and its number
pub looks_warm : {A : Type 0} (m m' : Moment) (p : Phase) (st : Standing) (ch : Pairs) → m'.memory ≡ memory_of p st ch → (f : List Pair → ℕ → Result A Refusal) (n : ℕ) →
    Looks m number_of (Ok n) m' → (answer : Result A Refusal) → answer ≡ f (pairs_of st.pairs) st.number → Looks m f answer m'
looks_warm m m' p st ch here f n d answer e =
    let same : memory_of p st ch ≡ m.memory = sym here ∙ d.1 in
    (e ∙ warm_answer p st ch f n (d.0 ∙ ap (λ (x : Memory). looked x number_of) (sym same)) ∙ ap (λ (x : Memory). looked x f) same, d.1, d.2, d.3)

-- ---- abandon, by whatever it gives

other_plain : {A B : Type 0} (m m' : Moment) (why other : Refusal) (mem : Memory) (n : ℕ) → Plain {A = A} m (Err why) (Err other) mem n m' → Plain {A = B} m (Err why) (Err other) mem n m'
other_plain m m' why other mem n d = (other_err why other d.0, d.1, d.2, d.3)

abandons_not : {A B : Type 0} (x : A) (y : B) (mem : Memory) (m m' : Moment) (shown : ℕ) (why : Refusal) → Abandons x mem m shown (Err why) m' → Abandons y mem m shown (Err why) m'
abandons_not x y cold m m' shown why d = other_plain m m' why Cold m.memory m.next d
abandons_not x y (ready s) m m' shown why d = other_plain m m' why WrongTicket m.memory m.next d
abandons_not {A} {B} x y (changing s t ch) m m' shown why d = go (eqb shown t) d
  where
    go : (b : Bool) → If b (Plain {A = A} m (Err why) (Ok x) (ready s) m.next m') (Refused {A = A} m (Err why) WrongTicket m') →
        If b (Plain {A = B} m (Err why) (Ok y) (ready s) m.next m') (Refused {A = B} m (Err why) WrongTicket m')
    go true e = let z : ◌≡◌ {A = ℕ} 0 1 = cc in absurd (omega arith)
    go false e = other_plain m m' why WrongTicket m.memory m.next e

pub abandons_err : (mem : Memory) (m m' : Moment) (shown : ℕ) (why : Refusal) → Abandons {A = ℕ} 0 mem m shown (Err why) m' → Abandons {A = Unit {0}} tt mem m shown (Err why) m'
abandons_err mem m m' shown why d = abandons_not {A = ℕ} {B = Unit {0}} 0 tt mem m m' shown why d

-- ---- readings

within_raw : (b : Bool) (n raw : ℕ) → Ok raw ≡ cond b (Ok n) (Err raw_value) → (b ≡ true) × (raw ≡ n)
within_raw true n raw e = (refl, cc)
within_raw false n raw e = let z : ◌≡◌ {A = ℕ} 0 1 = cc in absurd (omega arith)

-- UT as the chip's 16 bits
ut_raw : (ut : ℤ) (raw : ℕ) → Ok raw ≡ checked_ut_of ut → (within (pos 0) (pos 65535) ut ≡ true) × (pos raw ≡ ut)
ut_raw (pos n) raw e = let t = within_raw (within (pos 0) (pos 65535) (pos n)) n raw e in (t.0, ap pos t.1)
ut_raw (negsuc n) raw e = let z : ◌≡◌ {A = ℕ} 0 1 = cc in absurd (omega arith)

pub step_is : (ps : List Pair) (n : ℕ) (ut : ℤ) (raw : ℕ) (k : Coefficients) (w : Result WorkedTemperature ReadingRefusal) → Ok raw ≡ checked_ut_of ut → lowest_absent ps ≡ None →
    k ≡ coefficients_of ps → w ≡ temperature_at k (pos raw) → step_of n w ≡ temperature_answer ps n ut
step_is ps n ut raw k w eu none ek ew =
    let t = ut_raw ut raw eu in
    let same : w ≡ temperature_at (coefficients_of ps) ut = ew ∙ (λ i. temperature_at (ek i) (t.1 i)) in
    ap (step_of n) same ∙ sym (ap (λ o. unless_absent o (step_of n (temperature_at (coefficients_of ps) ut))) none)
    ∙ sym (cond-true (within (pos 0) (pos 65535) ut) (unless_absent (lowest_absent ps) (step_of n (temperature_at (coefficients_of ps) ut))) (Err RawValue) t.0)

module _ (ps : List Pair) (n : ℕ) (st : StepNumbers) (up : ℤ) (none : lowest_absent ps ≡ None) where
  abbrev after : Result Line Refusal
  after = line_of st.t (pressure_of (coefficients_of ps) st.b5 up)

  there : (x : Result Line Refusal) → cond (eqb st.number n) after (Err OldStep) ≡ x → x ≡ pressure_answer ps n st up
  there x e = sym e ∙ sym (ap (λ o. unless_absent o (cond (eqb st.number n) after (Err OldStep))) none)

  pub line_old : (st.number ≡ n → ⊥) → Err OldStep ≡ pressure_answer ps n st up
  line_old h = there (Err OldStep) (cond-false (eqb st.number n) after (Err OldStep) (ne_eqb st.number n h))

  pub line_is : (k : Coefficients) (w : Result WorkedPressure ReadingRefusal) → k ≡ coefficients_of ps → st.number ≡ n → w ≡ pressure_of k st.b5 up →
      line_of st.t w ≡ pressure_answer ps n st up
  line_is k w ek en ew =
      ap (line_of st.t) (ew ∙ ap (λ x. pressure_of x st.b5 up) ek) ∙ there after (cond-true (eqb st.number n) after (Err OldStep) (eq-eqb st.number n en))
