-- The steps of code that makes writes one by one, as a chain of flashes.
use Rattle.std.proofs.Common.{◌≡◌, ℕ, ◌+◌, ◌<◌, List, [], ◌∷◌, ◌++◌, Ok, Err, Result, sym, refl, subst, inl, inr, arith, MatchBool}
use Rattle.std.proofs.lemmas.Bool.{MatchBool-at_true, MatchBool-at_false, eq-eqb, ne_eqb}
use Rattle.flash.specs.declared.faults.FlashFault.{Ghosts as FaultGhosts}
use Rattle.flash.specs.declared.interface.Flash.{Ghosts}
use Rattle.flash.specs.Seen.{seen}
use Rattle.flash.specs.Calls.{Program, ProgramDone, ProgramRefused, EraseDone, Untouched}
use Rattle.layout.specs.declared.meanings.Pair.{Pair}
use Rattle.layout.specs.Codec.{record_value}
use Rattle.journal.specs.Writes.{Write, program, erase, completed, write_refusal, Performed, Wrote, WroteThrough}
use Rattle.journal.specs.Commit.{records}
use Rattle.journal.proofs.Performing.{records_next}

module _ {X F : Type 0} (g : Ghosts X F) (t : FaultGhosts F) where
  -- ---- a chain by its first write

  abbrev GoesOn : Write → List Write → X → X → Type 0
  GoesOn w ws f f' = (next : X) × Wrote g f w next × (seen g next ≡ completed (seen g f) w) × WroteThrough g ws next f'

  abbrev EndsHere : Write → X → X → Type 0
  EndsHere w f f' = Wrote g f w f' × (write_refusal (seen g f) w < 24 → f' ≡ f)

  from_completed : (w : Write) (ws : List Write) (f f' : X) → write_refusal (seen g f) w ≡ 0 → GoesOn w ws f f' → WroteThrough g (w ∷ ws) f f'
  from_completed w ws f f' z on =
      subst (λ b. MatchBool b (GoesOn w ws f f') (EndsHere w f f')) (sym (eq-eqb (write_refusal (seen g f) w) 0 z)) on

  from_stopped : (w : Write) (ws : List Write) (f f' : X) → 0 < write_refusal (seen g f) w → EndsHere w f f' → WroteThrough g (w ∷ ws) f f'
  from_stopped w ws f f' h ends =
      subst (λ b. MatchBool b (GoesOn w ws f f') (EndsHere w f f')) (sym (ne_eqb (write_refusal (seen g f) w) 0 (λ z. omega (arith, h, z)))) ends

  at_completed : (w : Write) (ws : List Write) (f f' : X) → write_refusal (seen g f) w ≡ 0 → WroteThrough g (w ∷ ws) f f' → GoesOn w ws f f'
  at_completed w ws f f' z c = MatchBool-at_true (GoesOn w ws f f') (EndsHere w f f') (eq-eqb (write_refusal (seen g f) w) 0 z) c

  at_stopped : (w : Write) (ws : List Write) (f f' : X) → 0 < write_refusal (seen g f) w → WroteThrough g (w ∷ ws) f f' → EndsHere w f f'
  at_stopped w ws f f' h c =
      MatchBool-at_false (GoesOn w ws f f') (EndsHere w f f') (ne_eqb (write_refusal (seen g f) w) 0 (λ z. omega (arith, h, z))) c

  -- ---- what the flash's calls promise, as the first write of a chain

  pub program_goes_on : (b u v : ℕ) (ws : List Write) (f k f' : X) → ProgramDone (seen g f) b u v (seen g k) → g.programmed f b u v k → WroteThrough g ws k f' →
      WroteThrough g (program b u v ∷ ws) f f'
  program_goes_on b u v ws f k f' d made rest = from_completed (program b u v) ws f f' d.accepted (k, made, d.is, rest)

  pub program_ends : (b u v : ℕ) (ws : List Write) (f f' : X) (e : F) → ProgramRefused t (seen g f) b u v (seen g f') e → g.programmed f b u v f' →
      (t.number e < 24 → f' ≡ f) → WroteThrough g (program b u v ∷ ws) f f'
  program_ends b u v ws f f' e d made same =
      from_stopped (program b u v) ws f f' d.why.refused (made, λ h. same (subst (λ n. n < 24) (sym d.why.number) h))

  pub erase_goes_on : (b : ℕ) (ws : List Write) (f k f' : X) → EraseDone (seen g f) b (seen g k) → g.erased f b k → WroteThrough g ws k f' →
      WroteThrough g (erase b ∷ ws) f f'
  erase_goes_on b ws f k f' d made rest = from_completed (erase b) ws f f' d.accepted (k, made, d.is, rest)

  pub program_alone : (b u v : ℕ) (f f' : X) (r : Result (Unit {0}) F) → Program t (seen g f) b u v (seen g f') r → g.programmed f b u v f' →
      Untouched t f r f' → WroteThrough g (program b u v ∷ []) f f'
  program_alone b u v f f' (Ok a) d made same = program_goes_on b u v [] f f' f' d made refl
  program_alone b u v f f' (Err e) d made same = program_ends b u v [] f f' e d made same

  -- ---- writes after writes

  pub chain_append : {A : Type 0} (ws vs : List Write) (f m f' : X) (a : A) → Performed t ws (seen g f) (seen g m) (Ok a) → WroteThrough g ws f m →
      WroteThrough g vs m f' → WroteThrough g (ws ++ vs) f f'
  chain_append [] vs f m f' a p c d = subst (λ x. WroteThrough g vs x f') c d
  chain_append (w ∷ ws) vs f m f' a (inl (z, p)) c d =
      let n = at_completed w ws f m z c in
      from_completed w (ws ++ vs) f f' z
      (n.0, n.1, n.2, chain_append ws vs n.0 m f' a (subst (λ s. Performed t ws s (seen g m) (Ok a)) (sym n.2) p) n.3 d)
  chain_append (w ∷ ws) vs f m f' a (inr x) c d = absurd x

  pub chain_short : (A : Type 0) (ws vs : List Write) (f m : X) (e : F) → Performed {A = A} t ws (seen g f) (seen g m) (Err e) → WroteThrough g ws f m →
      WroteThrough g (ws ++ vs) f m
  chain_short A [] vs f m e p c = absurd p
  chain_short A (w ∷ ws) vs f m e (inl (z, p)) c =
      let n = at_completed w ws f m z c in
      from_completed w (ws ++ vs) f m z
      (n.0, n.1, n.2, chain_short A ws vs n.0 m e (subst (λ s. Performed {A = A} t ws s (seen g m) (Err e)) (sym n.2) p) n.3)
  chain_short A (w ∷ ws) vs f m e (inr x) c = from_stopped w (ws ++ vs) f m x.why.refused (at_stopped w ws f m x.why.refused c)

  -- ---- the records of pairs, one by one

  -- The writes ws from f have come to k, and the writes vs remain: what these make of k, all make of f.
  pub record OnwardItself (ws : List Write) (f : X) (vs : List Write) (k : X) : Type 0 where
    onward : (f' : X) → WroteThrough g vs k f' → WroteThrough g ws f f'

  pub itself_none : (ws : List Write) (f : X) → OnwardItself ws f ws f
  itself_none ws f = record { onward = λ f' c. c }

  pub itself_end : (ws : List Write) (f : X) (b u : ℕ) (left : List Pair) (k : X) → left ≡ [] → OnwardItself ws f (records b u left) k → WroteThrough g ws f k
  itself_end ws f b u left k e o = o.onward k (subst (λ l. WroteThrough g (records b u l) k k) (sym e) refl)

  module _ (ws : List Write) (f : X) (b u : ℕ) (left : List Pair) (p : Pair) (ps : List Pair) (k n : X)
      (next : left ≡ p ∷ ps) (v : ℕ) (value : v ≡ record_value p) (o : OnwardItself ws f (records b u left) k) (made : g.programmed k b u v n) where
    before : (f' : X) → WroteThrough g (program b u v ∷ records b (u + 1) ps) k f' → WroteThrough g ws f f'
    before f' c = o.onward f' (subst (λ l. WroteThrough g l k f') (sym (records_next b u left p ps next v value)) c)

    pub itself_done : ProgramDone (seen g k) b u v (seen g n) → OnwardItself ws f (records b (u + 1) ps) n
    itself_done d = record { onward = λ f' c. before f' (program_goes_on b u v (records b (u + 1) ps) k n f' d made c) }

    pub itself_stopped : (e : F) → ProgramRefused t (seen g k) b u v (seen g n) e → (t.number e < 24 → n ≡ k) → WroteThrough g ws f n
    itself_stopped e d same = before n (program_ends b u v (records b (u + 1) ps) k n e d made same)
