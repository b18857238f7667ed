-- The law of a whole run, from the law at each of its moments.
use Rattle.std.proofs.Common.{◌≡◌, ℕ, ◌+◌, Bool, true, false, cond, eqb, ◌⊎◌, List, [], ◌∷◌, ◌++◌, is_some, is_ok, Some, None, Ok, Err, Option, Result, sym, refl, ap, ◌∙◌, subst, inl, inr, arith}
use Rattle.std.proofs.lemmas.Bool.{eq-eqb, ne_eqb, cond-true, cond-false, both_ways}
use Rattle.flash.specs.FlashState.{FlashState}
use Rattle.flash.specs.declared.interface.Flash.{Ghosts}
use Rattle.layout.specs.declared.meanings.Pair.{Pair}
use Rattle.store.specs.declared.entries.Entry.{Entry}
use Rattle.store.specs.declared.entries.Entry.TheVariants.{Recover, Begin, Put, Commit, Abandon, Get, Temperature, Pressure}
use Rattle.store.specs.declared.refusals.Refusal.{Refusal}
use Rattle.store.specs.declared.refusals.Refusal.TheVariants.{Cold, SmallFlash, NoHeader, ChangeOpen, NoTickets, WrongTicket, UnknownKey, NotAdmitted, ChangeFull, LastNumber, WriteStopped, RawValue, Absent, OldStep, NoTemperature, NoPressure}
use Rattle.journal.specs.Reading.{Reading}
use Rattle.journal.specs.Commit.{Holds}
use Rattle.store.specs.Memories.{Memory, cold, ready, changing}
use Rattle.layout.specs.PairLists.{merged}
use Rattle.store.specs.Moments.{Moment}
use Rattle.store.specs.Calls.{last_number, Formats}
use Rattle.store.specs.Flashes.{FormatsFlash}
use Rattle.store.specs.Ledger.{OpenChange, Ledger, ledger, laid, number_by, ledger_of, one_more, pairs_by}
use Rattle.store.specs.Law.{CallFollowsLedger, SettledCommitRight, CommitRight, BeginsPast, Settled, AgreesIn, Grows, is_cold}
use Rattle.store.proofs.Following.{laid_last, if_both}
use Rattle.runs.specs.States.{StoreState, moment_of}
use Rattle.runs.specs.Runs.{Link, Follows, PressureGiven, FollowsThroughout, RunMade, past_with}
use Rattle.runs.specs.Whole.{RightAnswer, ColdSinceCut, HoldsLedger, RightNumber, StandsOn, ForGood, Whole, WholeOrNotAtAll, ReachedWrites, CutOnlyShort, LineByLedger, OnCall, EachCall, Lawful, WholeRun}
use Rattle.runs.specs.declared.requests.Request.{Request}

-- ---- wholly or not at all

whole_by : (l : Ledger) (o : Option (List Pair)) (n : ℕ) → (n ≡ number_by l) ⊎ ((n ≡ number_by l + 1) × (is_some o ≡ true)) →
    Whole l o n (ledger (cond (eqb n (number_by l + 1)) (l.standing ++ one_more o) l.standing) None None)
whole_by l None n (inl e) =
    (e, ap (laid []) (cond-false (eqb n (number_by l + 1)) (l.standing ++ []) l.standing (ne_eqb n (number_by l + 1) (λ q. omega arith))))
whole_by l None n (inr (e, s)) = absurd (both_ways false refl s)
whole_by l (Some c) n (inl e) =
    inl (e, ap (laid []) (cond-false (eqb n (number_by l + 1)) (l.standing ++ c ∷ []) l.standing (ne_eqb n (number_by l + 1) (λ q. omega arith))))
whole_by l (Some c) n (inr (e, s)) =
    inr (e, ap (laid []) (cond-true (eqb n (number_by l + 1)) (l.standing ++ c ∷ []) l.standing (eq-eqb n (number_by l + 1) e)) ∙ laid_last [] l.standing c)

abbrev number_of : Result ℕ Refusal → ℕ → ℕ
number_of (Ok n) d = n
number_of (Err why) d = d

-- what a store that is not cold holds, its units read as
holds_settled : (l : Ledger) (s : FlashState) (mem : Memory) → is_cold mem ≡ false → AgreesIn mem s l → Holds s.units (pairs_by l) (number_by l)
holds_settled l s cold e a = absurd (both_ways true e refl)
holds_settled l s (ready r) e a = record { found = r; read = a.known.read; same_pairs = a.same_pairs; same_number = a.same_number }
holds_settled l s (changing r t c) e a = record { found = r; read = a.0.known.read; same_pairs = a.0.same_pairs; same_number = a.0.same_number }

whole_or_not : (first : ℕ) (past : List Entry) (m : Moment) (e : Entry) (m' : Moment) → CallFollowsLedger first past m e m' → WholeOrNotAtAll past m e m'
whole_or_not first past m (Recover (Ok n)) m' f =
    let same : f.right.number ≡ n = sym (ap (λ r. number_of r 0) f.right.accepted) in (
      whole_by (ledger_of past) (ledger_of past).doubt n
          (subst (λ (k : ℕ). (k ≡ number_by (ledger_of past)) ⊎ ((k ≡ number_by (ledger_of past) + 1) × (is_some (ledger_of past).doubt ≡ true))) same f.right.which),
      subst (Holds m'.flash.units (pairs_by (ledger_of (Recover (Ok n) ∷ past)))) (sym f.number_after)
          (holds_settled (ledger_of (Recover (Ok n) ∷ past)) m'.flash m'.memory f.agrees.cold_since f.agrees.memory),
    )
whole_or_not first past m (Recover (Err why)) m' f = absurd (both_ways false refl (ap is_ok f.right.accepted))
whole_or_not first past m (Begin r) m' f = tt
whole_or_not first past m (Put t k v r) m' f = tt
whole_or_not first past m (Commit t r) m' f = tt
whole_or_not first past m (Abandon t r) m' f = tt
whole_or_not first past m (Get k r) m' f = tt
whole_or_not first past m (Temperature ut r) m' f = tt
whole_or_not first past m (Pressure st up r) m' f = tt

-- ---- for good

laid_both : (base : List Pair) (cs ds : List (List Pair)) → laid base (cs ++ ds) ≡ laid (laid base cs) ds
laid_both base [] ds = refl
laid_both base (c ∷ cs) ds = laid_both (merged base c) cs ds

module _ (l l' : Ledger) (s : FlashState) (g : Grows l l') where
  over_before : pairs_by l' ≡ laid (pairs_by l) g.more
  over_before = ap (laid []) g.grown ∙ laid_both [] l.standing g.more

  settled_on : (r : Reading) (o : Option OpenChange) → Settled s l' r o → StandsOn l l' s
  settled_on r o a = record { more = g.more; grown = g.grown; found = r; read = a.known.read; over = g.more; same_pairs = a.same_pairs ∙ over_before }

  doubtful_on : (change : List Pair) → Holds s.units (pairs_by l') (number_by l') ⊎ Holds s.units (merged (pairs_by l') change) (number_by l' + 1) → StandsOn l l' s
  doubtful_on change (inl h) = record { more = g.more; grown = g.grown; found = h.found; read = h.read; over = g.more; same_pairs = h.same_pairs ∙ over_before }
  doubtful_on change (inr h) =
      record {
        more = g.more;
        grown = g.grown;
        found = h.found;
        read = h.read;
        over = g.more ++ change ∷ [];
        same_pairs = h.same_pairs ∙ ap (λ (ps : List Pair). merged ps change) over_before ∙ sym (laid_last (pairs_by l) g.more change);
      }

  stands_on : (mem : Memory) → AgreesIn mem s l' → StandsOn l l' s
  stands_on cold a = doubtful_on a.change a.units
  stands_on (ready r) a = settled_on r None a
  stands_on (changing r t c) a = settled_on r _ a.0

-- ---- cut exactly below

abbrev stops_before : Refusal → Bool
stops_before Cold = true
stops_before SmallFlash = true
stops_before NoHeader = true
stops_before ChangeOpen = true
stops_before NoTickets = true
stops_before WrongTicket = true
stops_before UnknownKey = true
stops_before NotAdmitted = true
stops_before ChangeFull = true
stops_before LastNumber = true
stops_before (WriteStopped place) = false
stops_before RawValue = true
stops_before (Absent key) = true
stops_before OldStep = true
stops_before NoTemperature = true
stops_before NoPressure = true

-- whether a commit with this answer was stopped before its writes
abbrev unwritten : Result ℕ Refusal → Bool
unwritten (Ok n) = false
unwritten (Err why) = stops_before why

module _ (l : Ledger) (s : FlashState) (shown : ℕ) (r : Result ℕ Refusal) (w : unwritten r ≡ false) where
  not_this : {A : Type 0} (why : Refusal) → stops_before why ≡ true → r ≡ Err why → A
  not_this why h e = absurd (both_ways (unwritten r) w (ap unwritten e ∙ h))

  written_open : (o : Option OpenChange) → l.opened ≡ o → SettledCommitRight s l o shown r → ReachedWrites l s r
  written_open None e x = not_this WrongTicket refl x
  written_open (Some o) e x =
      if_both (ReachedWrites l s r) (eqb shown o.ticket) x
      (λ same y. if_both (ReachedWrites l s r) (eqb (number_by l) last_number) y (λ last z. not_this LastNumber refl z) (λ more z. record { change = o; opened = e; exactly = z }))
      (λ other y. not_this WrongTicket refl y)

  written : (d : Option (List Pair)) → CommitRight s l d shown r → ReachedWrites l s r
  written None x = written_open l.opened refl x
  written (Some c) x = not_this Cold refl x

cut_only_short : (first : ℕ) (past : List Entry) (m : Moment) (e : Entry) (m' : Moment) → CallFollowsLedger first past m e m' → CutOnlyShort past m e m'
cut_only_short first past m (Recover r) m' f = tt
cut_only_short first past m (Begin r) m' f = tt
cut_only_short first past m (Put t k v r) m' f = tt
cut_only_short first past m (Commit t (Ok n)) m' f = written (ledger_of past) m.flash t (Ok n) refl (ledger_of past).doubt f.right
cut_only_short first past m (Commit t (Err Cold)) m' f = tt
cut_only_short first past m (Commit t (Err SmallFlash)) m' f = tt
cut_only_short first past m (Commit t (Err NoHeader)) m' f = tt
cut_only_short first past m (Commit t (Err ChangeOpen)) m' f = tt
cut_only_short first past m (Commit t (Err NoTickets)) m' f = tt
cut_only_short first past m (Commit t (Err WrongTicket)) m' f = tt
cut_only_short first past m (Commit t (Err UnknownKey)) m' f = tt
cut_only_short first past m (Commit t (Err NotAdmitted)) m' f = tt
cut_only_short first past m (Commit t (Err ChangeFull)) m' f = tt
cut_only_short first past m (Commit t (Err LastNumber)) m' f = tt
cut_only_short first past m (Commit t (Err (WriteStopped place))) m' f = written (ledger_of past) m.flash t (Err (WriteStopped place)) refl (ledger_of past).doubt f.right
cut_only_short first past m (Commit t (Err RawValue)) m' f = tt
cut_only_short first past m (Commit t (Err (Absent key))) m' f = tt
cut_only_short first past m (Commit t (Err OldStep)) m' f = tt
cut_only_short first past m (Commit t (Err NoTemperature)) m' f = tt
cut_only_short first past m (Commit t (Err NoPressure)) m' f = tt
cut_only_short first past m (Abandon t r) m' f = tt
cut_only_short first past m (Get k r) m' f = tt
cut_only_short first past m (Temperature ut r) m' f = tt
cut_only_short first past m (Pressure st up r) m' f = tt

-- ---- lines

line_by_ledger : (first : ℕ) (past : List Entry) (m : Moment) (e : Entry) (m' : Moment) → CallFollowsLedger first past m e m' → PressureGiven past (Some e) → LineByLedger past m e m'
line_by_ledger first past m (Recover r) m' f p = tt
line_by_ledger first past m (Begin r) m' f p = tt
line_by_ledger first past m (Put t k v r) m' f p = tt
line_by_ledger first past m (Commit t r) m' f p = tt
line_by_ledger first past m (Abandon t r) m' f p = tt
line_by_ledger first past m (Get k r) m' f p = tt
line_by_ledger first past m (Temperature ut r) m' f p = tt
line_by_ledger first past m (Pressure st up r) m' f p = record { ut = p.ut; given = p.given; line = f.right.by_ut p.ut p.given }

-- ---- the whole

module _ {X Y : Type 0} (g : Ghosts X Y) (first : ℕ) where
  each_call : (P : List Entry → Moment → Entry → Moment → Type 0) →
      ((past : List Entry) (m : Moment) (e : Entry) (m' : Moment) → CallFollowsLedger first past m e m' → PressureGiven past (Some e) → P past m e m') →
      (past : List Entry) (s : StoreState X) (ks : List (Link X)) → FollowsThroughout g first past s ks → EachCall g P past s ks
  each_call P h past s [] f = tt
  each_call P h past s (k ∷ ks) f = (on_call k.outcome f.1 f.2, each_call P h (past_with k.outcome past) k.after ks f.3)
    where
      on_call : (o : Option Entry) → Follows first past (moment_of g s) o (moment_of g k.after) → PressureGiven past o → OnCall P past (moment_of g s) o (moment_of g k.after)
      on_call None x p = tt
      on_call (Some e) x p = h past (moment_of g s) e (moment_of g k.after) x p

pub lawful : {X Y : Type 0} (g : Ghosts X Y) (s : StoreState X) (ks : List (Link X)) → FollowsThroughout g s.next [] s ks → Lawful g s ks
lawful g s ks f =
    let each = each_call g s.next in
    record {
      answers = each (RightAnswer s.next) (λ past m e m' x p. x.right) [] s ks f;
      cold = each ColdSinceCut (λ past m e m' x p. x.agrees.cold_since) [] s ks f;
      holds = each HoldsLedger (λ past m e m' x p. x.agrees.memory) [] s ks f;
      numbers = each RightNumber (λ past m e m' x p. x.number_after) [] s ks f;
      whole = each WholeOrNotAtAll (λ past m e m' x p. whole_or_not s.next past m e m' x) [] s ks f;
      good = each ForGood (λ past m e m' x p. stands_on (ledger_of past) (ledger_of (e ∷ past)) m'.flash x.grows m'.memory x.agrees.memory) [] s ks f;
      cuts = each CutOnlyShort (λ past m e m' x p. cut_only_short s.next past m e m' x) [] s ks f;
      lines = each LineByLedger (λ past m e m' x p. line_by_ledger s.next past m e m' x p) [] s ks f;
    }

-- an accepted format, and the calls after it
pub whole_run : {X Y : Type 0} (g : Ghosts X Y) (s b : StoreState X) (requests : List Request) (log : List (Option Entry)) (s' : StoreState X) (r : Result ℕ Refusal) (n : ℕ) → r ≡ Ok n →
    Formats (moment_of g s) r (moment_of g b) → FormatsFlash g s.flash r b.flash → BeginsPast r (moment_of g b) → RunMade g b requests log s' → WholeRun g s requests log s'
whole_run g s b requests log s' r n e d f p x =
    let begun = subst (λ (q : Result ℕ Refusal). BeginsPast q (moment_of g b)) e p in
    let zero : r ≡ Ok 0 = e ∙ ap Ok begun.0 in
    record {
      formatted = b;
      does = subst (λ (q : Result ℕ Refusal). Formats (moment_of g s) q (moment_of g b)) zero d;
      itself = subst (λ (q : Result ℕ Refusal). FormatsFlash g s.flash q b.flash) zero f;
      begins = begun.1;
      calls = x.calls;
      asked = x.asked;
      between = x.between;
      left = x.left;
      made = x.made;
      closing = x.closing;
      closed = x.closed;
      abandons = x.abandons;
      logged = x.logged;
      law = lawful g b (x.calls ++ x.closing) (x.follows b.next [] begun.1);
      ends = x.ends b.next [] begun.1;
    }
