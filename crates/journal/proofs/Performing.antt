-- The steps of code that makes writes one by one.
use Rattle.std.proofs.Common.{◌≡◌, ℕ, suc, ◌+◌, List, [], ◌∷◌, ◌++◌, map, length, Ok, Err, Result, sym, refl, ap, ◌∙◌, subst, inl, inr, add-one, arith}
use Rattle.std.proofs.lemmas.List.{length-map}
use Rattle.flash.specs.declared.faults.FlashFault.{Ghosts as FaultGhosts}
use Rattle.flash.specs.FlashState.{FlashState}
use Rattle.flash.specs.Calls.{ProgramDone, ProgramRefused, EraseDone}
use Rattle.journal.specs.Writes.{Write, program, erase, completed, StoppedAt, Performed, write_refusal}
use Rattle.journal.specs.Commit.{programs, records, appending}
use Rattle.flash.specs.Calls.{Program}
use Rattle.layout.specs.declared.meanings.Pair.{Pair}
use Rattle.layout.specs.Codec.{record_value, commit_value}

-- the records of pairs, of which p is the next one
pub records_next : (b u : ℕ) (left : List Pair) (p : Pair) (ps : List Pair) → left ≡ p ∷ ps → (v : ℕ) → v ≡ record_value p →
    records b u left ≡ program b u v ∷ records b (u + 1) ps
records_next b u left p ps next v value =
    ap (records b u) next ∙ (λ i. program b u (sym value i) ∷ records b (sym (add-one u) i) ps)

module _ {F : Type 0} (t : FaultGhosts F) where
  -- what the flash's calls promise, as writes
  pub program_stopped : (s : FlashState) (b u v : ℕ) (s' : FlashState) (e : F) → ProgramRefused t s b u v s' e → StoppedAt t s (program b u v) s' e
  program_stopped s b u v s' e r = record {
    why = r.why;
    unchanged = r.unchanged;
    cut = λ h. let x = r.cut h in record { units = _; allowed = record { residue = x.residue; allowed = x.allowed; is = refl }; is = x.is };
  }

  -- The writes ws from s have come to m, and the writes vs remain: whatever these do from m, all do from s.
  pub record Onward (A : Type 0) (ws : List Write) (s : FlashState) (vs : List Write) (m : FlashState) : Type 0 where
    onward : (s' : FlashState) (r : Result A F) → Performed t vs m s' r → Performed t ws s s' r

  pub onward_none : (A : Type 0) (ws : List Write) (s : FlashState) → Onward A ws s ws s
  onward_none A ws s = record { onward = λ s' r p. p }

  pub onward_done : {A : Type 0} (ws : List Write) (s : FlashState) (w : Write) (vs : List Write) (m n : FlashState) →
      Onward A ws s (w ∷ vs) m → write_refusal m w ≡ 0 → n ≡ completed m w → Onward A ws s vs n
  onward_done ws s w vs m n o z e = record { onward = λ s' r p. o.onward s' r (inl (z, subst (λ x. Performed t vs x s' r) e p)) }

  pub onward_end : {A : Type 0} (ws : List Write) (s m : FlashState) (a : A) → Onward A ws s [] m → Performed t ws s m (Ok a)
  onward_end ws s m a o = o.onward m (Ok a) refl

  pub onward_stopped : {A : Type 0} (ws : List Write) (s : FlashState) (w : Write) (vs : List Write) (m n : FlashState) (e : F) →
      Onward A ws s (w ∷ vs) m → StoppedAt t m w n e → Performed {A = A} t ws s n (Err e)
  onward_stopped ws s w vs m n e o x = o.onward n (Err e) (inr x)

  -- the same for the records of pairs, of which p is the next one
  module _ (A : Type 0) (ws : List Write) (s : FlashState) (b u : ℕ) (left : List Pair) (p : Pair) (ps : List Pair) (m n : FlashState)
      (next : left ≡ p ∷ ps) (v : ℕ) (value : v ≡ record_value p) (o : Onward A ws s (records b u left) m) where
    here : Onward A ws s (program b u v ∷ records b (u + 1) ps) m
    here = subst (λ l. Onward A ws s l m) (records_next b u left p ps next v value) o

    pub record_done : ProgramDone m b u v n → Onward A ws s (records b (u + 1) ps) n
    record_done d = onward_done ws s (program b u v) (records b (u + 1) ps) m n here d.accepted d.is

    pub record_stopped : (e : F) → ProgramRefused t m b u v n e → Performed {A = A} t ws s n (Err e)
    record_stopped e r = onward_stopped ws s (program b u v) (records b (u + 1) ps) m n e here (program_stopped m b u v n e r)

  pub records_end : (A : Type 0) (ws : List Write) (s : FlashState) (b u : ℕ) (left : List Pair) (m : FlashState) (a : A) → left ≡ [] → Onward A ws s (records b u left) m →
      Performed t ws s m (Ok a)
  records_end A ws s b u left m a e o = onward_end ws s m a (subst (λ l. Onward A ws s (records b u l) m) e o)

  -- writes after writes
  pub performed_append : {A B : Type 0} (ws vs : List Write) (s m s' : FlashState) (a : A) (r : Result B F) →
      Performed t ws s m (Ok a) → Performed t vs m s' r → Performed t (ws ++ vs) s s' r
  performed_append [] vs s m s' a r e q = subst (λ x. Performed t vs x s' r) e q
  performed_append (w ∷ ws) vs s m s' a r (inl (z, p)) q = inl (z, performed_append ws vs (completed s w) m s' a r p q)
  performed_append (w ∷ ws) vs s m s' a r (inr x) q = absurd x

  pub performed_short : (A B : Type 0) (ws vs : List Write) (s s' : FlashState) (e : F) →
      Performed {A = A} t ws s s' (Err e) → Performed {A = B} t (ws ++ vs) s s' (Err e)
  performed_short A B [] vs s s' e p = absurd p
  performed_short A B (w ∷ ws) vs s s' e (inl (z, p)) = inl (z, performed_short A B ws vs (completed s w) s' e p)
  performed_short A B (w ∷ ws) vs s s' e (inr x) = inr x

-- the writes of a change and of a move, as the code makes them
programs_append : (b u : ℕ) (xs ys : List ℕ) → programs b u (xs ++ ys) ≡ programs b u xs ++ programs b (u + length xs) ys
programs_append b u [] ys = let e : u ≡ u + 0 = omega arith in ap (λ k. programs b k ys) e
programs_append b u (x ∷ xs) ys =
    let e : suc u + length xs ≡ u + suc (length xs) = omega arith in
    ap (λ l. program b u x ∷ l) (programs_append b (suc u) xs ys ∙ ap (λ k. programs b (suc u) xs ++ programs b k ys) e)

pub appending_is : (b end at v : ℕ) (ps : List Pair) (n : ℕ) → at ≡ end + length ps → v ≡ commit_value (length ps) n →
    records b end ps ++ program b at v ∷ [] ≡ appending b end ps n
appending_is b end at v ps n e q =
    (λ i. records b end ps ++ program b (e i) (q i) ∷ [])
    ∙ ap (λ k. records b end ps ++ program b (end + k) (commit_value (length ps) n) ∷ []) (sym (length-map ps record_value))
    ∙ sym (programs_append b end (map record_value ps) (commit_value (length ps) n ∷ []))

pub program_performed : {F : Type 0} (t : FaultGhosts F) (s : FlashState) (b u v : ℕ) (s' : FlashState) (r : Result (Unit {0}) F) →
    Program t s b u v s' r → Performed t (program b u v ∷ []) s s' r
program_performed t s b u v s' (Ok a) d = inl (d.accepted, d.is)
program_performed t s b u v s' (Err e) d = inr (program_stopped t s b u v s' e d)

pub erase_then : {A F : Type 0} (t : FaultGhosts F) (s : FlashState) (b : ℕ) (m : FlashState) (ws : List Write) (s' : FlashState) (r : Result A F) →
    EraseDone s b m → Performed t ws m s' r → Performed t (erase b ∷ ws) s s' r
erase_then t s b m ws s' r d p = inl (d.accepted, subst (λ x. Performed t ws x s' r) d.is p)
