-- What the flash answered, told by what its fault gives.
use Rattle.std.proofs.Common.{◌≡◌, ℕ, ◌+◌, List, [], ◌∷◌, Ok, Err, Option, Result, refl, ap, inl, inr, MatchResult}
use Rattle.std.specs.Result.{IsErrAnd}
use Rattle.flash.specs.FlashState.{FlashState}
use Rattle.flash.specs.Calls.{Refused}
use Rattle.flash.specs.declared.faults.FlashFault.{Ghosts as FaultGhosts}
use Rattle.layout.specs.declared.meanings.Pair.{Pair}
use Rattle.journal.specs.Reading.{Reading}
use Rattle.journal.specs.Writes.{Write, completed, StoppedAt, Performed, write_refusal, write_bank, write_unit}
use Rattle.journal.specs.Commit.{commit_writes, formatting}
use Rattle.journal.specs.Outcomes.{CutShort, WholeOrAbsentAfter, EmptyAfter}
use Rattle.store.specs.declared.refusals.Refusal.{Refusal}
use Rattle.store.specs.declared.refusals.Refusal.TheVariants.{WriteStopped}
use Rattle.store.specs.Stops.{Stop, stops, refused_at, FormatWrites, CommitRun}

-- a result of the flash by what its fault gives
abbrev pub as_stop : {A F : Type 0} → FaultGhosts F → Result A F → Result A Stop
as_stop t (Ok x) = Ok x
as_stop t (Err e) = Err (t.number e, t.place e)

module _ {F : Type 0} (t : FaultGhosts F) where
  abbrev given : F → Stop
  given e = (t.number e, t.place e)

  as_stop_refused : (e : F) (n b : ℕ) (u : Option ℕ) → Refused t e n b u → Refused stops (given e) n b u
  as_stop_refused e n b u x = record { number = x.number; refused = x.refused; place = x.place }

  as_stop_stopped : (s : FlashState) (w : Write) (s' : FlashState) (e : F) → StoppedAt t s w s' e → StoppedAt stops s w s' (given e)
  as_stop_stopped s w s' e x =
      record {
        why = as_stop_refused e (write_refusal s w) (write_bank w) (write_unit w) x.why;
        unchanged = x.unchanged;
        cut = x.cut;
      }

  pub as_stop_performed : {A : Type 0} (ws : List Write) (s s' : FlashState) (r : Result A F) → Performed t ws s s' r → Performed stops ws s s' (as_stop t r)
  as_stop_performed [] s s' (Ok x) p = p
  as_stop_performed [] s s' (Err e) p = p
  as_stop_performed (w ∷ ws) s s' r (inl p) = inl (p.0, as_stop_performed ws (completed s w) s' r p.1)
  as_stop_performed (w ∷ ws) s s' (Ok x) (inr p) = absurd p
  as_stop_performed (w ∷ ws) s s' (Err e) (inr p) = inr (as_stop_stopped s w s' e p)

  as_stop_cut : (s : FlashState) (ws : List Write) (n : ℕ) (s' : FlashState) (e : F) → CutShort t s ws n s' e → CutShort stops s ws n s' (given e)
  as_stop_cut s ws n s' e x = record { short = x.short; number = x.number; place = x.place; is = x.is; banks = x.banks }

  as_stop_empty : {A : Type 0} (s s' : FlashState) (r : Result A F) → EmptyAfter t s s' r → EmptyAfter stops s s' (as_stop t r)
  as_stop_empty s s' (Ok x) h u = h u
  as_stop_empty s s' (Err e) h u = as_stop_cut s formatting 3 s' e (h u)

  as_stop_whole : {A : Type 0} (s : FlashState) (r : Reading) (change : List Pair) (n : ℕ) (s' : FlashState) (a : Result A F) →
      WholeOrAbsentAfter t s r change n s' a → WholeOrAbsentAfter stops s r change n s' (as_stop t a)
  as_stop_whole s r change n s' (Ok x) h c = h c
  as_stop_whole s r change n s' (Err e) h c =
      let x = h c in
      record { cut = as_stop_cut s _ _ s' e x.cut; after = x.after }

  pub format_writes : (p s' : FlashState) (r : Result (Unit {0}) F) → Performed t formatting p s' r → EmptyAfter t p s' r → FormatWrites p (refused_at (as_stop t r)) s'
  format_writes p s' r w e = record { result = as_stop t r; writes = as_stop_performed formatting p s' r w; empty = as_stop_empty p s' r e; answer = refl }

  pub commit_run : (s : FlashState) (r : Reading) (change : List Pair) (s' : FlashState) (a : Result (Unit {0}) F) →
      Performed t (commit_writes s.width r change (r.number + 1)) s s' a → WholeOrAbsentAfter t s r change (r.number + 1) s' a →
      CommitRun s r change (refused_at (as_stop t a)) s'
  commit_run s r change s' a w h =
      record {
        result = as_stop t a;
        writes = as_stop_performed (commit_writes s.width r change (r.number + 1)) s s' a w;
        whole_or_absent = as_stop_whole s r change (r.number + 1) s' a h;
        answer = refl;
      }

  -- what `map_err` makes of a result of the flash, by what the closure gives
  pub stopped_is : {A : Type 0} (P : F → Refusal → Type 0) → ((e : F) (why : Refusal) → P e why → why ≡ WriteStopped (t.place e)) →
      (a : Result A F) (r : Result A Refusal) → MatchResult a (λ x. r ≡ Ok x) (λ e. IsErrAnd r (P e)) → r ≡ refused_at (as_stop t a)
  stopped_is P gives (Ok x) r e = e
  stopped_is P gives (Err e) (Ok x) p = absurd p
  stopped_is P gives (Err e) (Err why) p = ap Err (gives e why p)
