-- Two flashes side by side act as one. Assumes nothing.
use Rattle.std.proofs.Common.{◌≡◌, ℕ, zero, suc, ◌-◌, ◌<◌, min, Bool, true, false, cond, ◌&&◌, eqb, List, [], ◌∷◌, length, get_or, set, replicate, Some, None, Ok, Err, Result, MatchResult, is_ok, sym, refl, ap, ◌∙◌, subst, inl, inr, arith, lit<}
use Rattle.std.specs.List.{AllZip}
use Rattle.std.proofs.lemmas.Bool.{and_from}
use Rattle.std.proofs.lemmas.Bool.Decides.{nat_tests}
use Rattle.std.proofs.lemmas.List.{set-get_or}
use Rattle.flash.specs.declared.faults.FlashFault.{Ghosts as FaultGhosts}
use Rattle.flash.specs.declared.units.Unit.{Unit as Cell}
use Rattle.flash.specs.declared.units.Unit.TheVariants.{Blank, Programmed, Unreadable}
use Rattle.flash.specs.FlashState.{FlashState, flash_state, WellFormed, bank_of, unit_at, with_bank, with_unit, after_write, after_cut}
use Rattle.flash.specs.Calls.{read_refusal, program_refusal, erase_refusal, ProgramResidue, EraseResidue, Read, Program, ProgramDone, ProgramRefused, Erase, EraseDone, EraseRefused, Untouched}
use Rattle.flash.specs.Seen.{seen}
use Rattle.flash.specs.declared.interface.Flash.{Ghosts}
use Rattle.flash.specs.declared.causes.Cause.{Cause}
use Rattle.flash.specs.declared.causes.Why.{Why}
use Rattle.flash.specs.declared.causes.Why.TheVariants.{Off, Missing, NotBlank, Cut}
use Rattle.flash.specs.Causes.{why_number, cause_number}
use Rattle.mirror.specs.declared.mirror_faults.MirrorFault.{MirrorFault}
use Rattle.mirror.specs.declared.mirror_faults.MirrorFault.TheVariants.{Own, First, Second}
use Rattle.mirror.specs.declared.mirrors.Mirror.{Mirror}
use Rattle.mirror.specs.MirrorSides.{mirror_fault, ProgramSides, EraseSides, SideCuts, ProgramLeaves, EraseLeaves, is_own, ProgrammedInTurn, ErasedInTurn, SidesProgrammed, SidesErased}
use Rattle.mirror.specs.Formed.{beside_length}
use Rattle.mirror.specs.Mirrored.{mixed, beside, mixed_units, mirrored}
use Rattle.flash.proofs.Refusals.{bank_length, read_refusal_open, program_refusal_open, erase_refusal_open, read_refusal_parts, charge_left, charge_out, number_cut, number_done}

-- lists side by side
pub beside_get_or : {X Y Z : Type 0} (f : X → Y → Z) (xs : List X) (ys : List Y) (i : ℕ) (d : X) (e : Y) (z : Z) → i < length xs → i < length ys → get_or (beside f xs ys) i z ≡ f (get_or xs i d) (get_or ys i e)
beside_get_or f [] ys i d e z h k = absurd (omega arith)
beside_get_or f (x ∷ xs) [] i d e z h k = absurd (omega arith)
beside_get_or f (x ∷ xs) (y ∷ ys) zero d e z h k = refl
beside_get_or f (x ∷ xs) (y ∷ ys) (suc i) d e z h k = beside_get_or f xs ys i d e z (omega arith) (omega arith)

pub beside_set : {X Y Z : Type 0} (f : X → Y → Z) (xs : List X) (ys : List Y) (i : ℕ) (x : X) (y : Y) → beside f (set xs i x) (set ys i y) ≡ set (beside f xs ys) i (f x y)
beside_set f [] ys i x y = refl
beside_set f (a ∷ xs) [] zero x y = refl
beside_set f (a ∷ xs) [] (suc i) x y = refl
beside_set f (a ∷ xs) (b ∷ ys) zero x y = refl
beside_set f (a ∷ xs) (b ∷ ys) (suc i) x y = ap (λ z. f a b ∷ z) (beside_set f xs ys i x y)

pub beside_blank : (m n : ℕ) → beside mixed (replicate m Blank) (replicate n Blank) ≡ replicate (min m n) Blank
beside_blank zero n = let e : 0 ≡ min 0 n = omega arith in ap (λ k. replicate k Blank) e
beside_blank (suc m) zero = let e : 0 ≡ min (suc m) 0 = omega arith in ap (λ k. replicate k Blank) e
beside_blank (suc m) (suc n) = let e : suc (min m n) ≡ min (suc m) (suc n) = omega arith in ap (λ z. Blank ∷ z) (beside_blank m n) ∙ ap (λ k. replicate k Blank) e

-- units side by side
pub mixed_blank : (x y : Cell) → mixed x y ≡ Blank → (x ≡ Blank) × (y ≡ Blank)
mixed_blank Blank Blank h = (refl, refl)
mixed_blank Blank (Programmed v) h = (refl, cc)
mixed_blank Blank Unreadable h = (refl, cc)
mixed_blank (Programmed v) y h = (cc, cc)
mixed_blank Unreadable Blank h = (cc, refl)
mixed_blank Unreadable (Programmed v) h = (cc, cc)
mixed_blank Unreadable Unreadable h = (h, h)

program_residue_first : (v : ℕ) (x : Cell) → ProgramResidue v x → ProgramResidue v (mixed x Blank)
program_residue_first v x (inl p) = inl (ap (λ z. mixed z Blank) p)
program_residue_first v x (inr (inl p)) = inr (inl (ap (λ z. mixed z Blank) p))
program_residue_first v x (inr (inr p)) = inr (inr (ap (λ z. mixed z Blank) p))

residue_blank : (x y : Cell) → EraseResidue (mixed x y) (mixed x Blank)
residue_blank Blank y = inr (inl refl)
residue_blank (Programmed v) y = inl refl
residue_blank Unreadable y = inr (inr refl)

residue_unreadable : (x y : Cell) → EraseResidue (mixed x y) (mixed x Unreadable)
residue_unreadable Blank y = inr (inr refl)
residue_unreadable (Programmed v) y = inl refl
residue_unreadable Unreadable y = inr (inr refl)

residue_first : (x x' y : Cell) → EraseResidue x x' → EraseResidue (mixed x y) (mixed x' Blank)
residue_first x x' y (inl p) = let P : Cell → Type 0 = λ z. EraseResidue (mixed x y) (mixed z Blank) in subst P (sym p) (residue_blank x y)
residue_first x x' y (inr (inl p)) = inr (inl (ap (λ z. mixed z Blank) p))
residue_first x x' y (inr (inr p)) = inr (inr (ap (λ z. mixed z Blank) p))

residue_second : (x y y' : Cell) → EraseResidue y y' → EraseResidue (mixed x y) (mixed x y')
residue_second x y y' (inl p) = inl (ap (mixed x) p)
residue_second x y y' (inr (inl p)) = let P : Cell → Type 0 = λ z. EraseResidue (mixed x y) (mixed x z) in subst P (sym p) (residue_blank x y)
residue_second x y y' (inr (inr p)) = let P : Cell → Type 0 = λ z. EraseResidue (mixed x y) (mixed x z) in subst P (sym p) (residue_unreadable x y)

pub each_first : (xs xs' ys : List Cell) → AllZip EraseResidue xs xs' → AllZip EraseResidue (beside mixed xs ys) (beside mixed xs' (replicate (length ys) Blank))
each_first [] [] ys h = tt
each_first [] (x' ∷ xs') ys h = absurd h
each_first (x ∷ xs) [] ys h = absurd h
each_first (x ∷ xs) (x' ∷ xs') [] h = tt
each_first (x ∷ xs) (x' ∷ xs') (y ∷ ys) h = (residue_first x x' y h.0, each_first xs xs' ys h.1)

pub each_second : (xs ys ys' : List Cell) → AllZip EraseResidue ys ys' → AllZip EraseResidue (beside mixed xs ys) (beside mixed xs ys')
each_second [] ys ys' h = tt
each_second (x ∷ xs) [] [] h = tt
each_second (x ∷ xs) [] (y' ∷ ys') h = absurd h
each_second (x ∷ xs) (y ∷ ys) [] h = absurd h
each_second (x ∷ xs) (y ∷ ys) (y' ∷ ys') h = (residue_second x y y' h.0, each_second xs ys ys' h.1)

-- a flash with what it holds written again
pub same_bank : (c : FlashState) (b : ℕ) → with_bank c b (bank_of c b) ≡ c
same_bank c b = ap (λ us. flash_state us c.width c.on c.charge) (set-get_or c.units b [])

pub same_unit : (c : FlashState) (b u : ℕ) → with_unit c b u (unit_at c b u) ≡ c
same_unit c b u = ap (with_bank c b) (set-get_or (bank_of c b) u Blank) ∙ same_bank c b

module _ (a b : FlashState) (k : ℕ) where
  pub mirrored_with_bank : (xs ys : List Cell) → mirrored (with_bank a k xs) (with_bank b k ys) ≡ with_bank (mirrored a b) k (beside mixed xs ys)
  mirrored_with_bank xs ys = ap (λ us. flash_state us (min a.width b.width) (a.on && b.on) (min a.charge b.charge)) (beside_set (beside mixed) a.units b.units k xs ys)

  pub mirrored_bank : k < length a.units → k < length b.units → bank_of (mirrored a b) k ≡ beside mixed (bank_of a k) (bank_of b k)
  mirrored_bank h i = beside_get_or (beside mixed) a.units b.units k [] [] [] h i

  pub mirrored_with_unit : (u : ℕ) (x y : Cell) → k < length a.units → k < length b.units → mirrored (with_unit a k u x) (with_unit b k u y) ≡ with_unit (mirrored a b) k u (mixed x y)
  mirrored_with_unit u x y h i =
      mirrored_with_bank (set (bank_of a k) u x) (set (bank_of b k) u y)
      ∙ ap (with_bank (mirrored a b) k) (beside_set mixed (bank_of a k) (bank_of b k) u x y ∙ ap (λ z. set z u (mixed x y)) (sym (mirrored_bank h i)))

  pub mirrored_unit_at : (u : ℕ) → WellFormed a → WellFormed b → k < length a.units → k < length b.units → u < a.width → u < b.width → unit_at (mirrored a b) k u ≡ mixed (unit_at a k u) (unit_at b k u)
  mirrored_unit_at u s t h i p q =
      let m = bank_length a k s h in
      let n = bank_length b k t i in
      let p' : u < length (bank_of a k) = omega arith in
      let q' : u < length (bank_of b k) = omega arith in
      ap (λ z. get_or z u Blank) (mirrored_bank h i) ∙ beside_get_or mixed (bank_of a k) (bank_of b k) u Blank Blank Blank p' q'

-- a charge less, and a cut
pub mirrored_write : (a b : FlashState) → mirrored (after_write a) (after_write b) ≡ after_write (mirrored a b)
mirrored_write a b = let e : min (a.charge - 1) (b.charge - 1) ≡ min a.charge b.charge - 1 = omega arith in ap (flash_state (mixed_units a.units b.units) (min a.width b.width) (a.on && b.on)) e

and_false : (x : Bool) → (x && false) ≡ false
and_false true = refl
and_false false = refl

pub cut_second : (a b : FlashState) → mirrored a (after_cut b) ≡ after_cut (mirrored a b)
cut_second a b = ap (λ p. flash_state (mixed_units a.units b.units) (min a.width b.width) p (min a.charge b.charge)) (and_false a.on)

pub write_first : (a b : FlashState) → b.charge ≡ 0 → mirrored (after_write a) b ≡ mirrored a b
write_first a b z = let e : min (a.charge - 1) b.charge ≡ min a.charge b.charge = omega arith in ap (flash_state (mixed_units a.units b.units) (min a.width b.width) (a.on && b.on)) e

pub write_second : (a b : FlashState) → a.charge ≡ 0 → mirrored a (after_write b) ≡ mirrored a b
write_second a b z = let e : min a.charge (b.charge - 1) ≡ min a.charge b.charge = omega arith in ap (flash_state (mixed_units a.units b.units) (min a.width b.width) (a.on && b.on)) e

and_both : (x y : Bool) → (x && y) ≡ true → (x ≡ true) × (y ≡ true)
and_both true y h = (refl, h)
and_both false y h = (cc, cc)

-- both sides have what the mirror has
pub record Both (a b : FlashState) (k : ℕ) : Type 0 where
  pub on_first : a.on ≡ true
  pub on_second : b.on ≡ true
  pub in_first : k < length a.units
  pub in_second : k < length b.units

pub both_from : (a b : FlashState) (k : ℕ) → (mirrored a b).on ≡ true → k < length (mirrored a b).units → Both a b k
both_from a b k on h =
    let size = beside_length (beside mixed) a.units b.units in
    let p = and_both a.on b.on on in
    record { on_first = p.0; on_second = p.1; in_first = omega arith; in_second = omega arith }

-- where both sides are on, a read of a unit that the mirror has is not refused
pub mirror_accepts : (a b : FlashState) (k u : ℕ) → a.on ≡ true → b.on ≡ true → k < length (mirrored a b).units → u < (mirrored a b).width → read_refusal (mirrored a b) k u ≡ 0
mirror_accepts a b k u on on' there wide = read_refusal_open (mirrored a b) k u (and_from a.on b.on on on') there wide

-- what such a read finds
pub mirror_holds : (a b : FlashState) (k u : ℕ) → WellFormed a → WellFormed b → read_refusal (mirrored a b) k u ≡ 0 → unit_at (mirrored a b) k u ≡ mixed (unit_at a k u) (unit_at b k u)
mirror_holds a b k u s t z =
    let p = read_refusal_parts (mirrored a b) k u z in
    let both = both_from a b k p.0 p.1 in
    let wide = p.2 in
    mirrored_unit_at a b k u s t both.in_first both.in_second (omega arith) (omega arith)

-- a read that the mirror lets through: both sides take it, and answer the unit, also where their fault is made another
pub sides_accept : (a b : FlashState) (k u : ℕ) → read_refusal (mirrored a b) k u ≡ 0 → (read_refusal a k u ≡ 0) × (read_refusal b k u ≡ 0)
sides_accept a b k u z =
    let p = read_refusal_parts (mirrored a b) k u z in
    let both = both_from a b k p.0 p.1 in
    let wide = p.2 in
    (read_refusal_open a k u both.on_first both.in_first (omega arith), read_refusal_open b k u both.on_second both.in_second (omega arith))

module _ {E : Type 0} (p : FaultGhosts E) (a : FlashState) (k u : ℕ) where
  pub reads_ok : (r : Result Cell E) → Read p a k u r → read_refusal a k u ≡ 0 → is_ok r ≡ true
  reads_ok (Ok x) h z = refl
  reads_ok (Err e) h z = let refused = h.refused in absurd (omega arith)

  pub reads_unit : {F : Type 0} (Q : E → Type 0) (r : Result Cell E) (m : Result Cell F) (x : Cell) → Read p a k u r → read_refusal a k u ≡ 0 → MatchResult r (λ y. m ≡ Ok y) Q → m ≡ Ok x → x ≡ unit_at a k u
  reads_unit Q (Ok y) m x h z same is = let value = h.value in cc
  reads_unit Q (Err e) m x h z same is = let refused = h.refused in absurd (omega arith)

-- where only the charge can stop a write, the mirror itself does not refuse it
not_own : (n c : ℕ) → n ≡ cond (eqb c 0) 24 0 → is_own n ≡ false
not_own n c e = grind (arith, nat_tests)

-- a program through a mirror whose unit is there and blank
module _ (a b : FlashState) (k u v : ℕ) (s : WellFormed a) (t : WellFormed b) (there : read_refusal (mirrored a b) k u ≡ 0) (free : unit_at (mirrored a b) k u ≡ Blank) where
  parts : ((mirrored a b).on ≡ true) × (k < length (mirrored a b).units) × (u < (mirrored a b).width)
  parts = read_refusal_parts (mirrored a b) k u there

  both : Both a b k
  both = both_from a b k parts.0 parts.1

  free_first_second : (unit_at a k u ≡ Blank) × (unit_at b k u ≡ Blank)
  free_first_second = mixed_blank (unit_at a k u) (unit_at b k u) (sym (mirror_holds a b k u s t there) ∙ free)

  first_refusal : program_refusal a k u ≡ cond (eqb a.charge 0) 24 0
  first_refusal = let w = parts.2 in program_refusal_open a k u both.on_first both.in_first (omega arith) free_first_second.0

  second_refusal : program_refusal b k u ≡ cond (eqb b.charge 0) 24 0
  second_refusal = let w = parts.2 in program_refusal_open b k u both.on_second both.in_second (omega arith) free_first_second.1

  mirror_refusal : program_refusal (mirrored a b) k u ≡ cond (eqb (min a.charge b.charge) 0) 24 0
  mirror_refusal = program_refusal_open (mirrored a b) k u parts.0 parts.1 parts.2 free

  pub program_let_through : is_own (program_refusal (mirrored a b) k u) ≡ false
  program_let_through = not_own _ (min a.charge b.charge) mirror_refusal

  pub program_done : (a' b' : FlashState) → ProgramDone a k u v a' → ProgramDone b k u v b' → ProgramDone (mirrored a b) k u v (mirrored a' b')
  program_done a' b' p q =
      let m = charge_left a.charge _ first_refusal p.accepted in
      let n = charge_left b.charge _ second_refusal q.accepted in
      let one : mirrored a' b' ≡ mirrored (after_write (with_unit a k u (Programmed v))) (after_write (with_unit b k u (Programmed v))) = ap (λ z. mirrored z b') p.is ∙ ap (mirrored (after_write (with_unit a k u (Programmed v)))) q.is in
      let two = mirrored_write (with_unit a k u (Programmed v)) (with_unit b k u (Programmed v)) in
      let three = ap after_write (mirrored_with_unit a b k u (Programmed v) (Programmed v) both.in_first both.in_second) in
      record { accepted = number_done (min a.charge b.charge) _ mirror_refusal (omega arith); is = one ∙ two ∙ three }

  -- a side that refuses is cut
  pub program_cut_first : {E : Type 0} (p : FaultGhosts E) (e : E) (a' : FlashState) → ProgramRefused p a k u v a' e → p.number e ≡ 24
  program_cut_first p e a' r = r.why.number ∙ (charge_out a.charge _ first_refusal r.why.refused).1

  pub program_cut_second : {E : Type 0} (p : FaultGhosts E) (e : E) (b' : FlashState) → ProgramRefused p b k u v b' e → p.number e ≡ 24
  program_cut_second p e b' r = r.why.number ∙ (charge_out b.charge _ second_refusal r.why.refused).1

  module _ {E F : Type 0} (below : FaultGhosts E) (here : FaultGhosts F) (e : E) (f : F) (number : here.number f ≡ below.number e) (place : here.place f ≡ (k, Some u)) where
    pub program_first : (a' : FlashState) → ProgramRefused below a k u v a' e → ProgramRefused here (mirrored a b) k u v (mirrored a' b) f
    program_first a' r =
        let out = charge_out a.charge _ first_refusal r.why.refused in
        let zero' : min a.charge b.charge ≡ 0 = let z = out.0 in omega arith in
        let cut = number_cut (min a.charge b.charge) _ mirror_refusal zero' in
        let left = r.cut out.1 in
        let now : mirrored a' b ≡ after_cut (with_unit (mirrored a b) k u (mixed left.residue Blank)) = ap (λ z. mirrored z b) left.is ∙ ap (λ z. mirrored (after_cut (with_unit a k u left.residue)) z) (sym (ap (with_unit b k u) (sym free_first_second.1) ∙ same_unit b k u)) ∙ ap after_cut (mirrored_with_unit a b k u left.residue Blank both.in_first both.in_second) in
        record {
          why = record { number = number ∙ r.why.number ∙ out.1 ∙ sym cut; refused = omega arith; place = place };
          unchanged = λ h. absurd (omega arith);
          cut = λ _. record { residue = mixed left.residue Blank; allowed = program_residue_first v left.residue left.allowed; is = now };
        }

    pub program_second : (a' b' : FlashState) → ProgramDone a k u v a' → ProgramRefused below b k u v b' e → ProgramRefused here (mirrored a b) k u v (mirrored a' b') f
    program_second a' b' p r =
        let out = charge_out b.charge _ second_refusal r.why.refused in
        let zero' : min a.charge b.charge ≡ 0 = let z = out.0 in omega arith in
        let cut = number_cut (min a.charge b.charge) _ mirror_refusal zero' in
        let left = r.cut out.1 in
        let one : mirrored a' b' ≡ mirrored (after_write (with_unit a k u (Programmed v))) (after_cut (with_unit b k u left.residue)) = ap (λ z. mirrored z b') p.is ∙ ap (mirrored (after_write (with_unit a k u (Programmed v)))) left.is in
        let two = write_first (with_unit a k u (Programmed v)) (after_cut (with_unit b k u left.residue)) out.0 in
        let three = cut_second (with_unit a k u (Programmed v)) (with_unit b k u left.residue) in
        let four = ap after_cut (mirrored_with_unit a b k u (Programmed v) left.residue both.in_first both.in_second) in
        record {
          why = record { number = number ∙ r.why.number ∙ out.1 ∙ sym cut; refused = omega arith; place = place };
          unchanged = λ h. absurd (omega arith);
          cut = λ _. record { residue = Programmed v; allowed = inr (inl refl); is = one ∙ two ∙ three ∙ four };
        }

-- a refusal of the mirror's own
why_positive : (w : Why) → 0 < why_number w
why_positive Off = lit< tt
why_positive Missing = lit< tt
why_positive NotBlank = lit< tt
why_positive Cut = lit< tt

positive : (c : Cause) (n : ℕ) → cause_number c ≡ n → 0 < n
positive c n e = let P : ℕ → Type 0 = λ m. 0 < m in subst P e (why_positive c.why)

-- what the two sides did is what a program of the mirror does
module _ {E F : Type 0} (p : FaultGhosts E) (q : FaultGhosts F) (a b : FlashState) (k u v : ℕ) (s : WellFormed a) (t : WellFormed b) (there : read_refusal (mirrored a b) k u ≡ 0) (free : unit_at (mirrored a b) k u ≡ Blank) where
  pub program_by_sides : (a' b' : FlashState) (r : Result (Unit {0}) (MirrorFault E F)) → ProgramSides p q a b a' b' k u v r → Program (mirror_fault p q) (mirrored a b) k u v (mirrored a' b') r × SideCuts p q r
  program_by_sides a' b' (Ok x) h = (program_done a b k u v s t there free a' b' h.first h.second, tt)
  program_by_sides a' b' (Err (Own c)) h =
      let low = h.own in
      (record { why = record { number = h.number; refused = positive c _ h.number; place = h.place }; unchanged = λ _. ap (λ z. mirrored z b') h.first ∙ ap (mirrored a) h.second; cut = λ z. absurd (omega arith) }, tt)
  program_by_sides a' b' (Err (First at e)) h =
      let P : FlashState → Type 0 = λ z. ProgramRefused (mirror_fault p q) (mirrored a b) k u v (mirrored a' z) (First at e) in
      (subst P (sym h.second) (program_first a b k u v s t there free p (mirror_fault p q) e (First at e) refl h.place a' h.first), program_cut_first a b k u v s t there free p e a' h.first)
  program_by_sides a' b' (Err (Second at e)) h =
      (program_second a b k u v s t there free q (mirror_fault p q) e (Second at e) refl h.place a' b' h.first h.second, program_cut_second a b k u v s t there free q e b' h.second)

-- an erase through a mirror whose bank is there
module _ (a b : FlashState) (k : ℕ) (s : WellFormed a) (t : WellFormed b) (on : (mirrored a b).on ≡ true) (there : k < length (mirrored a b).units) where
  sides : Both a b k
  sides = both_from a b k on there

  erase_refusal_first : erase_refusal a k ≡ cond (eqb a.charge 0) 24 0
  erase_refusal_first = erase_refusal_open a k sides.on_first sides.in_first

  erase_refusal_second : erase_refusal b k ≡ cond (eqb b.charge 0) 24 0
  erase_refusal_second = erase_refusal_open b k sides.on_second sides.in_second

  erase_refusal_mirror : erase_refusal (mirrored a b) k ≡ cond (eqb (min a.charge b.charge) 0) 24 0
  erase_refusal_mirror = erase_refusal_open (mirrored a b) k on there

  pub erase_let_through : is_own (erase_refusal (mirrored a b) k) ≡ false
  erase_let_through = not_own _ (min a.charge b.charge) erase_refusal_mirror

  pub erase_done : (a' b' : FlashState) → EraseDone a k a' → EraseDone b k b' → EraseDone (mirrored a b) k (mirrored a' b')
  erase_done a' b' p q =
      let m = charge_left a.charge _ erase_refusal_first p.accepted in
      let n = charge_left b.charge _ erase_refusal_second q.accepted in
      let xs = replicate a.width Blank in
      let ys = replicate b.width Blank in
      let one : mirrored a' b' ≡ mirrored (after_write (with_bank a k xs)) (after_write (with_bank b k ys)) = ap (λ z. mirrored z b') p.is ∙ ap (mirrored (after_write (with_bank a k xs))) q.is in
      let two = mirrored_write (with_bank a k xs) (with_bank b k ys) in
      let three = ap after_write (mirrored_with_bank a b k xs ys ∙ ap (with_bank (mirrored a b) k) (beside_blank a.width b.width)) in
      record { accepted = number_done (min a.charge b.charge) _ erase_refusal_mirror (omega arith); is = one ∙ two ∙ three }

  -- a side that refuses is cut
  pub erase_cut_first : {E : Type 0} (p : FaultGhosts E) (e : E) (a' : FlashState) → EraseRefused p a k a' e → p.number e ≡ 24
  erase_cut_first p e a' r = r.why.number ∙ (charge_out a.charge _ erase_refusal_first r.why.refused).1

  pub erase_cut_second : {E : Type 0} (p : FaultGhosts E) (e : E) (b' : FlashState) → EraseRefused p b k b' e → p.number e ≡ 24
  erase_cut_second p e b' r = r.why.number ∙ (charge_out b.charge _ erase_refusal_second r.why.refused).1

  module _ {E F : Type 0} (below : FaultGhosts E) (here : FaultGhosts F) (e : E) (f : F) (number : here.number f ≡ below.number e) (place : here.place f ≡ (k, None)) where
    -- the second side goes first
    pub erase_second : (b' : FlashState) → EraseRefused below b k b' e → EraseRefused here (mirrored a b) k (mirrored a b') f
    erase_second b' r =
        let out = charge_out b.charge _ erase_refusal_second r.why.refused in
        let zero' : min a.charge b.charge ≡ 0 = let z = out.0 in omega arith in
        let cut = number_cut (min a.charge b.charge) _ erase_refusal_mirror zero' in
        let left = r.cut out.1 in
        let xs = beside mixed (bank_of a k) left.residue in
        let one : mirrored a b' ≡ mirrored (with_bank a k (bank_of a k)) (after_cut (with_bank b k left.residue)) = ap (mirrored a) left.is ∙ ap (λ z. mirrored z (after_cut (with_bank b k left.residue))) (sym (same_bank a k)) in
        let two = cut_second (with_bank a k (bank_of a k)) (with_bank b k left.residue) in
        let three = ap after_cut (mirrored_with_bank a b k (bank_of a k) left.residue) in
        let P : List Cell → Type 0 = λ z. AllZip EraseResidue z xs in
        record {
          why = record { number = number ∙ r.why.number ∙ out.1 ∙ sym cut; refused = omega arith; place = place };
          unchanged = λ h. absurd (omega arith);
          cut = λ _. record { residue = xs; allowed = subst P (sym (mirrored_bank a b k sides.in_first sides.in_second)) (each_second (bank_of a k) (bank_of b k) left.residue left.allowed); is = one ∙ two ∙ three };
        }

    pub erase_first : (a' b' : FlashState) → EraseDone b k b' → EraseRefused below a k a' e → EraseRefused here (mirrored a b) k (mirrored a' b') f
    erase_first a' b' p r =
        let out = charge_out a.charge _ erase_refusal_first r.why.refused in
        let zero' : min a.charge b.charge ≡ 0 = let z = out.0 in omega arith in
        let cut = number_cut (min a.charge b.charge) _ erase_refusal_mirror zero' in
        let left = r.cut out.1 in
        let ys = replicate b.width Blank in
        let xs = beside mixed left.residue ys in
        let one : mirrored a' b' ≡ mirrored (after_cut (with_bank a k left.residue)) (after_write (with_bank b k ys)) = ap (λ z. mirrored z b') left.is ∙ ap (mirrored (after_cut (with_bank a k left.residue))) p.is in
        let two = ap after_cut (write_second (with_bank a k left.residue) (with_bank b k ys) out.0) in
        let three = ap after_cut (mirrored_with_bank a b k left.residue ys) in
        let size : length (bank_of b k) ≡ b.width = bank_length b k t sides.in_second in
        let Q : ℕ → Type 0 = λ n. AllZip EraseResidue (beside mixed (bank_of a k) (bank_of b k)) (beside mixed left.residue (replicate n Blank)) in
        let P : List Cell → Type 0 = λ z. AllZip EraseResidue z xs in
        record {
          why = record { number = number ∙ r.why.number ∙ out.1 ∙ sym cut; refused = omega arith; place = place };
          unchanged = λ h. absurd (omega arith);
          cut = λ _. record { residue = xs; allowed = subst P (sym (mirrored_bank a b k sides.in_first sides.in_second)) (subst Q size (each_first (bank_of a k) left.residue (bank_of b k) left.allowed)); is = one ∙ two ∙ three };
        }

-- what the two sides did is what an erase of the mirror does
module _ {E F : Type 0} (p : FaultGhosts E) (q : FaultGhosts F) (a b : FlashState) (k : ℕ) (s : WellFormed a) (t : WellFormed b) (on : (mirrored a b).on ≡ true) (there : k < length (mirrored a b).units) where
  pub erase_by_sides : (a' b' : FlashState) (r : Result (Unit {0}) (MirrorFault E F)) → EraseSides p q a b a' b' k r → Erase (mirror_fault p q) (mirrored a b) k (mirrored a' b') r × SideCuts p q r
  erase_by_sides a' b' (Ok x) h = (erase_done a b k s t on there a' b' h.first h.second, tt)
  erase_by_sides a' b' (Err (Own c)) h =
      let low = h.own in
      (record { why = record { number = h.number; refused = positive c _ h.number; place = h.place }; unchanged = λ _. ap (λ z. mirrored z b') h.first ∙ ap (mirrored a) h.second; cut = λ z. absurd (omega arith) }, tt)
  erase_by_sides a' b' (Err (First at e)) h =
      (erase_first a b k s t on there p (mirror_fault p q) e (First at e) refl h.place a' b' h.second h.first, erase_cut_first a b k s t on there p e a' h.first)
  erase_by_sides a' b' (Err (Second at e)) h =
      let P : FlashState → Type 0 = λ z. EraseRefused (mirror_fault p q) (mirrored a b) k (mirrored z b') (Second at e) in
      (subst P (sym h.first) (erase_second a b k s t on there q (mirror_fault p q) e (Second at e) refl h.place b' h.second), erase_cut_second a b k s t on there q e b' h.second)

-- what the sides say of their cuts and of what they leave: a write that is refused otherwise leaves the very same mirror
module _ {A B E F : Type 0} (p : FaultGhosts E) (q : FaultGhosts F) (m m' : Mirror A B) where
  same_mirror : (m'.first ≡ m.first) × (m'.second ≡ m.second) → m' ≡ m
  same_mirror h =
      let with_first : A → Mirror A B = λ z. record { first = z; second = m'.second } in
      let with_second : B → Mirror A B = λ z. record { first = m.first; second = z } in
      ap with_first h.0 ∙ ap with_second h.1

  pub program_untouched : (r : Result (Unit {0}) (MirrorFault E F)) → SideCuts p q r → ProgramLeaves m.first m.second m'.first m'.second r → Untouched (mirror_fault p q) m r m'
  program_untouched (Ok x) cut left = tt
  program_untouched (Err (Own c)) cut left = λ _. same_mirror left
  program_untouched (Err (First at e)) cut left = λ h. absurd (omega (arith, cut, h))
  program_untouched (Err (Second at e)) cut left = λ h. absurd (omega (arith, cut, h))

  pub erase_untouched : (r : Result (Unit {0}) (MirrorFault E F)) → SideCuts p q r → EraseLeaves m.first m.second m'.first m'.second r → Untouched (mirror_fault p q) m r m'
  erase_untouched (Ok x) cut left = tt
  erase_untouched (Err (Own c)) cut left = λ _. same_mirror left
  erase_untouched (Err (First at e)) cut left = λ h. absurd (omega (arith, cut, h))
  erase_untouched (Err (Second at e)) cut left = λ h. absurd (omega (arith, cut, h))

-- a write that the mirror itself does not refuse
module _ {A B E F : Type 0} (g : Ghosts A E) (h : Ghosts B F) (a : A) (b : B) (k : ℕ) (a' : A) (b' : B) where
  pub programmed_through : (u v : ℕ) → is_own (program_refusal (mirrored (seen g a) (seen h b)) k u) ≡ false → ProgrammedInTurn g h a b k u v a' b' → SidesProgrammed g h a b k u v a' b'
  programmed_through u v through turn = rw through turn

  pub erased_through : is_own (erase_refusal (mirrored (seen g a) (seen h b)) k) ≡ false → ErasedInTurn g h a b k a' b' → SidesErased g h a b k a' b'
  erased_through through turn = rw through turn
