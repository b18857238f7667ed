-- Writes that are ready, on a flash that is on: all complete, or the charge ends before.
use Rattle.std.proofs.Common.{◌≡◌, ℕ, zero, suc, ◌+◌, ◌-◌, ◌^◌, ◌<◌, ◌≤◌, true, false, cond, eqb, List, [], ◌∷◌, length, get_or, set, replicate, Ok, Err, Result, sym, ap, ◌∙◌, subst, inl, inr, arith, MatchResult}
use Rattle.std.proofs.lemmas.List.{length-set}
use Rattle.flash.specs.declared.units.Unit.TheVariants.{Blank, Programmed}
use Rattle.flash.specs.declared.faults.FlashFault.{Ghosts as FaultGhosts}
use Rattle.flash.specs.FlashState.{FlashState, flash_state, WellFormed}
use Rattle.flash.proofs.Refusals.{program_refusal_open, erase_refusal_open, charge_left, charge_out, bank_length}
use Rattle.layout.specs.declared.meanings.Pair.{Pair}
use Rattle.layout.specs.PairLists.{well_formed}
use Rattle.journal.specs.Reading.{Banks, bank, Reading}
use Rattle.journal.specs.Writes.{Write, program, erase, done, Cut, write_refusal, write_bank, write_unit, completed, StoppedAt, Performed}
use Rattle.journal.specs.Commit.{commit_writes, writes_needed, committed, formatting, formatted}
use Rattle.journal.specs.Outcomes.{Usable, Finished, CutShort, CutCommit, Committable, WholeOrAbsentAfter, EmptyAfter}
use Rattle.journal.proofs.Charges.{Ready, AllReady, Leaves, Roomy, WholeOrAbsent}
use Rattle.journal.proofs.Theorem.{needed, whole_or_absent}
use Rattle.journal.proofs.Format.{format_ready, format_done}

ready_refusal : (s : FlashState) (w : Write) → s.on ≡ true → Ready s.width w s.units → write_refusal s w ≡ cond (eqb s.charge 0) 24 0
ready_refusal s (program b u v) on r = program_refusal_open s b u on r.0 r.1 r.2
ready_refusal s (erase b) on r = erase_refusal_open s b on r

done_banks : (width : ℕ) (w : Write) (bs : Banks) → length (done width w bs) ≡ length bs
done_banks width (program b u v) bs = length-set bs b (set (bank b bs) u (Programmed v))
done_banks width (erase b) bs = length-set bs b (replicate width Blank)

cut_banks : (w : Write) (bs after : Banks) → Cut w bs after → length after ≡ length bs
cut_banks (program b u v) bs after c = ap length c.is ∙ length-set bs b (set (bank b bs) u c.residue)
cut_banks (erase b) bs after c = ap length c.is ∙ length-set bs b c.residue

record AllDone (ws : List Write) (s s' : FlashState) : Type 0 where
  enough : length ws ≤ s.charge
  leaves : Leaves s.width s.charge ws s.units s'.units
  is : s' ≡ flash_state s'.units s.width true (s.charge - length ws)
  banks : length s'.units ≡ length s.units

record OneCut {F : Type 0} (t : FaultGhosts F) (ws : List Write) (s s' : FlashState) (e : F) : Type 0 where
  short : s.charge < length ws
  leaves : Leaves s.width s.charge ws s.units s'.units
  number : t.number e ≡ 24
  place : t.place e ≡ (write_bank (get_or ws s.charge (erase 0)), write_unit (get_or ws s.charge (erase 0)))
  is : s' ≡ flash_state s'.units s.width false 0
  banks : length s'.units ≡ length s.units

leaves_none : (width k : ℕ) (bs after : Banks) → after ≡ bs → Leaves width k [] bs after
leaves_none width zero bs after e = e
leaves_none width (suc k) bs after e = e

leaves_next : (width k : ℕ) (w : Write) (ws : List Write) (bs after : Banks) → 0 < k → Leaves width (k - 1) ws (done width w bs) after → Leaves width k (w ∷ ws) bs after
leaves_next width zero w ws bs after h l = absurd (omega arith)
leaves_next width (suc k) w ws bs after h l = let e : suc k - 1 ≡ k = omega arith in subst (λ j. Leaves width j ws (done width w bs) after) e l

leaves_cut : (width k : ℕ) (w : Write) (ws : List Write) (bs after : Banks) → k ≡ 0 → Cut w bs after → Leaves width k (w ∷ ws) bs after
leaves_cut width zero w ws bs after e c = c
leaves_cut width (suc k) w ws bs after e c = absurd (omega arith)

get_or_next : (k : ℕ) (w : Write) (ws : List Write) → 0 < k → get_or ws (k - 1) (erase 0) ≡ get_or (w ∷ ws) k (erase 0)
get_or_next zero w ws h = absurd (omega arith)
get_or_next (suc k) w ws h = let e : suc k - 1 ≡ k = omega arith in ap (λ j. get_or ws j (erase 0)) e

get_or_first : (k : ℕ) (w : Write) (ws : List Write) → k ≡ 0 → get_or (w ∷ ws) k (erase 0) ≡ w
get_or_first k w ws e = ap (λ j. get_or (w ∷ ws) j (erase 0)) e

module _ {F : Type 0} (t : FaultGhosts F) where
  stopped : (w : Write) (ws : List Write) (s s' : FlashState) (e : F) → s.on ≡ true → Ready s.width w s.units → StoppedAt t s w s' e → OneCut t (w ∷ ws) s s' e
  stopped w ws s s' e on r x =
      let o = charge_out s.charge (write_refusal s w) (ready_refusal s w on r) x.why.refused in
      let c = x.cut o.1 in
      let units : s'.units ≡ c.units = ap (λ y. y.units) c.is in
      record {
        short = omega (arith, o.0);
        leaves = leaves_cut s.width s.charge w ws s.units s'.units o.0 (subst (Cut w s.units) (sym units) c.allowed);
        number = x.why.number ∙ o.1;
        place = x.why.place ∙ ap (λ y. (write_bank y, write_unit y)) (sym (get_or_first s.charge w ws o.0));
        is = c.is ∙ (λ i. flash_state (sym units i) s.width false (o.0 i));
        banks = ap length units ∙ cut_banks w s.units c.units c.allowed;
      }

  next_done : (w : Write) (ws : List Write) (s s' : FlashState) → 0 < s.charge → AllDone ws (completed s w) s' → AllDone (w ∷ ws) s s'
  next_done w ws s s' h d =
      let k : s.charge - 1 - length ws ≡ s.charge - suc (length ws) = omega arith in
      record {
        enough = omega (arith, d.enough);
        leaves = leaves_next s.width s.charge w ws s.units s'.units h d.leaves;
        is = d.is ∙ ap (λ n. flash_state s'.units s.width true n) k;
        banks = d.banks ∙ done_banks s.width w s.units;
      }

  next_cut : (w : Write) (ws : List Write) (s s' : FlashState) (e : F) → 0 < s.charge → OneCut t ws (completed s w) s' e → OneCut t (w ∷ ws) s s' e
  next_cut w ws s s' e h d = record {
    short = omega (arith, d.short);
    leaves = leaves_next s.width s.charge w ws s.units s'.units h d.leaves;
    number = d.number;
    place = d.place ∙ ap (λ y. (write_bank y, write_unit y)) (get_or_next s.charge w ws h);
    is = d.is;
    banks = d.banks ∙ done_banks s.width w s.units;
  }

  charged_ok : {A : Type 0} (a : A) (ws : List Write) (s s' : FlashState) → s.on ≡ true → AllReady s.width ws s.units → Performed t ws s s' (Ok a) → AllDone ws s s'
  charged_ok a [] s s' on r e =
      let z : s.charge ≡ s.charge - 0 = omega arith in
      record {
        enough = omega arith;
        leaves = leaves_none s.width s.charge s.units s'.units (ap (λ y. y.units) e);
        is = e ∙ (λ i. flash_state (ap (λ y. y.units) (sym e) i) s.width (on i) (z i));
        banks = ap (λ y. length y.units) e;
      }
  charged_ok a (w ∷ ws) s s' on r (inl (z, p)) =
      next_done w ws s s' (charge_left s.charge (write_refusal s w) (ready_refusal s w on r.0) z) (charged_ok a ws (completed s w) s' on r.1 p)
  charged_ok a (w ∷ ws) s s' on r (inr x) = absurd x

  charged_err : (A : Type 0) (e : F) (ws : List Write) (s s' : FlashState) → s.on ≡ true → AllReady s.width ws s.units → Performed {A = A} t ws s s' (Err e) → OneCut t ws s s' e
  charged_err A e [] s s' on r p = absurd p
  charged_err A e (w ∷ ws) s s' on r (inl (z, p)) =
      next_cut w ws s s' e (charge_left s.charge (write_refusal s w) (ready_refusal s w on r.0) z) (charged_err A e ws (completed s w) s' on r.1 p)
  charged_err A e (w ∷ ws) s s' on r (inr x) = stopped w ws s s' e on r.0 x

roomy : (s : FlashState) → WellFormed s → Usable s → Roomy s.width s.units
roomy s w u = record {
  two = u.two;
  first = bank_length s 0 w (omega (arith, u.two));
  second = bank_length s 1 w (omega (arith, u.two));
  enough = u.enough;
}

module _ {F : Type 0} (t : FaultGhosts F) (s : FlashState) (w : WellFormed s) where
  commit_ok : {A : Type 0} (a : A) (r : Reading) (change : List Pair) (number : ℕ) (s' : FlashState) (c : Committable s r change number) →
      WholeOrAbsent s.width s.units r change number → Performed t (commit_writes s.width r change number) s s' (Ok a) →
      Finished s (writes_needed s.width r change) (committed s.width r change number) s'
  commit_ok a r change number s' c x p =
      let d = charged_ok t a (commit_writes s.width r change number) s s' c.usable.on x.ready p in
      let n = needed s.width r change number in
      let enough : writes_needed s.width r change ≤ s.charge = omega (arith, n, d.enough) in
      record {
        enough = enough;
        is = d.is ∙ ap (λ k. flash_state s'.units s.width true (s.charge - k)) n;
        banks = d.banks;
        read = x.whole s.charge s'.units d.leaves enough;
      }

  commit_err : (A : Type 0) (e : F) (r : Reading) (change : List Pair) (number : ℕ) (s' : FlashState) (c : Committable s r change number) →
      WholeOrAbsent s.width s.units r change number → Performed {A = A} t (commit_writes s.width r change number) s s' (Err e) →
      CutCommit t s r change number s' e
  commit_err A e r change number s' c x p =
      let d = charged_err t A e (commit_writes s.width r change number) s s' c.usable.on x.ready p in
      let n = needed s.width r change number in
      let short : s.charge < writes_needed s.width r change = omega (arith, n, d.short) in
      record {
        cut = record { short = short; number = d.number; place = d.place; is = d.is; banks = d.banks };
        after = x.cut s.charge s'.units d.leaves short;
      }

  pub commit_outcome : {A : Type 0} (r : Reading) (change : List Pair) (number : ℕ) (s' : FlashState) (answer : Result A F) →
      well_formed change ≡ true → number < 2 ^ 32 → Performed t (commit_writes s.width r change number) s s' answer → WholeOrAbsentAfter t s r change number s' answer
  commit_outcome {A} r change number s' answer formed fits p c = go answer p
    where
      small : r.number + 1 < 2 ^ 32
      small = omega (arith, c.next)

      holds : WholeOrAbsent s.width s.units r change number
      holds =
          subst (WholeOrAbsent s.width s.units r change) (sym c.next)
          (whole_or_absent s.width s.units r (roomy s w c.usable) c.read change (record { formed = formed; few = c.few }) small)

      go : (answer : Result A F) → Performed t (commit_writes s.width r change number) s s' answer →
          MatchResult answer (λ _. Finished s (writes_needed s.width r change) (committed s.width r change number) s') (CutCommit t s r change number s')
      go (Ok a) q = commit_ok a r change number s' c holds q
      go (Err e) q = commit_err A e r change number s' c holds q

  pub format_outcome : {A : Type 0} (s' : FlashState) (answer : Result A F) → Performed t formatting s s' answer → EmptyAfter t s s' answer
  format_outcome {A} s' answer p u = go answer p
    where
      ready : AllReady s.width formatting s.units
      ready = format_ready s.width s.units u.two u.enough

      go : (answer : Result A F) → Performed t formatting s s' answer → MatchResult answer (λ _. Finished s 3 formatted s') (CutShort t s formatting 3 s')
      go (Ok a) q =
          let d = charged_ok t a formatting s s' u.on ready q in
          record {
            enough = d.enough;
            is = d.is;
            banks = d.banks;
            read = format_done s.width s.units u.two u.enough s.charge s'.units d.leaves d.enough;
          }
      go (Err e) q =
          let d = charged_err t A e formatting s s' u.on ready q in
          record { short = d.short; number = d.number; place = d.place; is = d.is; banks = d.banks }
