-- How an implementation shows what each call promises. Assumes nothing.
use Rattle.std.proofs.Common.{◌≡◌, ℕ, ◌<◌, ◌≤◌, true, cond, eqb, List, length, replicate, Some, None, sym, refl, ◌∙◌, arith}
use Rattle.std.specs.List.{AllZip}
use Rattle.std.proofs.lemmas.Bool.Decides.{nat_tests}
use Rattle.flash.specs.declared.faults.FlashFault.{Ghosts as FaultGhosts}
use Rattle.flash.specs.declared.units.Unit.{Unit as Cell}
use Rattle.flash.specs.declared.units.Unit.TheVariants.{Blank, Programmed}
use Rattle.flash.specs.FlashState.{FlashState, unit_at, bank_of, with_unit, with_bank, after_write, after_cut}
use Rattle.flash.specs.Calls.{read_refusal, program_refusal, erase_refusal, ProgramResidue, EraseResidue, ProgramDone, ProgramRefused, EraseDone, EraseRefused}
use Rattle.flash.proofs.Refusals.{read_refusal_parts, program_refusal_open, erase_refusal_open, number_cut, number_done}

-- the two refusals that need no cut
pub read_missing : (s : FlashState) (b u : ℕ) → s.on ≡ true → (b < length s.units → u < s.width → ⊥) → read_refusal s b u ≡ 22
read_missing s b u on no' = grind (arith, nat_tests)

pub erase_missing : (s : FlashState) (b : ℕ) → s.on ≡ true → length s.units ≤ b → erase_refusal s b ≡ 22
erase_missing s b on far = grind (arith, nat_tests)

module _ (s : FlashState) (b u : ℕ) (there : read_refusal s b u ≡ 0) (free : unit_at s b u ≡ Blank) where
  refusal : program_refusal s b u ≡ cond (eqb s.charge 0) 24 0
  refusal = let p = read_refusal_parts s b u there in program_refusal_open s b u p.0 p.1 p.2 free

  pub program_cut : {F : Type 0} (t : FaultGhosts F) (e : F) (d : FlashState) (v : ℕ) → s.charge ≡ 0 → t.number e ≡ 24 → t.place e ≡ (b, Some u) → (x : Cell) → ProgramResidue v x → d ≡ after_cut (with_unit s b u x) → ProgramRefused t s b u v d e
  program_cut t e d v z number place x left now =
      let cut = number_cut s.charge (program_refusal s b u) refusal z in
      record { why = record { number = number ∙ sym cut; refused = omega arith; place = place }; unchanged = λ h. absurd (omega arith); cut = λ _. record { residue = x; allowed = left; is = now } }

  pub program_done : (d : FlashState) (v : ℕ) → 0 < s.charge → d ≡ after_write (with_unit s b u (Programmed v)) → ProgramDone s b u v d
  program_done d v h now = record { accepted = number_done s.charge (program_refusal s b u) refusal h; is = now }

module _ (s : FlashState) (b : ℕ) (on : s.on ≡ true) (there : b < length s.units) where
  pub erase_cut : {F : Type 0} (t : FaultGhosts F) (e : F) (d : FlashState) → s.charge ≡ 0 → t.number e ≡ 24 → t.place e ≡ (b, None) → (xs : List Cell) → AllZip EraseResidue (bank_of s b) xs → d ≡ after_cut (with_bank s b xs) → EraseRefused t s b d e
  erase_cut t e d z number place xs left now =
      let cut = number_cut s.charge (erase_refusal s b) (erase_refusal_open s b on there) z in
      record { why = record { number = number ∙ sym cut; refused = omega arith; place = place }; unchanged = λ h. absurd (omega arith); cut = λ _. record { residue = xs; allowed = left; is = now } }

  pub erase_done : (d : FlashState) → 0 < s.charge → d ≡ after_write (with_bank s b (replicate s.width Blank)) → EraseDone s b d
  erase_done d h now = record { accepted = number_done s.charge (erase_refusal s b) (erase_refusal_open s b on there) h; is = now }

-- a bank that is not there
pub erase_absent : {F : Type 0} (t : FaultGhosts F) (e : F) (s : FlashState) (b : ℕ) → s.on ≡ true → length s.units ≤ b → t.number e ≡ 22 → t.place e ≡ (b, None) → EraseRefused t s b s e
erase_absent t e s b on far number place =
    let refusal = erase_missing s b on far in
    record { why = record { number = number ∙ sym refusal; refused = omega arith; place = place }; unchanged = λ _. refl; cut = λ h. absurd (omega arith) }
