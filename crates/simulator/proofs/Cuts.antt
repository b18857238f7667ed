-- What the simulator's cuts leave. Assumes nothing.
use Rattle.std.specs.Prelude.{◌≡◌, ℕ, zero, suc, ◌+◌, ◌<◌, Bool, true, false, cond, List, [], ◌∷◌, ◌++◌, length, take, drop, ◌==◌, slice_index_or, slice_set, refl}
use Rattle.std.proofs.Common.{ap, ◌∙◌, inl, inr, arith, add-zero}
use Rattle.std.specs.List.{AllZip}
use Rattle.flash.specs.declared.units.Unit.{Unit as Cell}
use Rattle.flash.specs.declared.units.Unit.TheVariants.{Blank, Programmed, Unreadable}
use Rattle.flash.specs.Calls.{ProgramResidue, EraseResidue}
use Rattle.simulator.specs.Residues.{program_residue, pattern_bits, unit_residue, residue_from}

program_residue_by : (p q : Bool) (v : ℕ) → ProgramResidue v (cond p Blank (cond q (Programmed v) Unreadable))
program_residue_by true q v = inl refl
program_residue_by false true v = inr (inl refl)
program_residue_by false false v = inr (inr refl)

pub residue_allowed : (r v : ℕ) → ProgramResidue v (program_residue r v)
residue_allowed r v = program_residue_by (r == 0) (r == 1) v

erase_residue_by : (p q : Bool) (x : Cell) → EraseResidue x (cond p x (cond q Blank Unreadable))
erase_residue_by true q x = inl refl
erase_residue_by false true x = inr (inl refl)
erase_residue_by false false x = inr (inr refl)

pub each_residue : (p u : ℕ) (xs : List Cell) → AllZip EraseResidue xs (residue_from p u xs)
each_residue p u [] = tt
each_residue p u (x ∷ xs) = (erase_residue_by (pattern_bits p u == 0) (pattern_bits p u == 1) x, each_residue p (u + 1) xs)

pub residue_length : (p u : ℕ) (xs : List Cell) → length (residue_from p u xs) ≡ length xs
residue_length p u [] = refl
residue_length p u (x ∷ xs) = omega (arith, residue_length p (u + 1) xs)

-- a bank of which a cut erase has left u units so far, the first of them unit k
abbrev pub cut_before : ℕ → ℕ → ℕ → List Cell → List Cell
cut_before p k u xs = residue_from p k (take u xs) ++ drop u xs

cut_next : (p k u : ℕ) (xs : List Cell) (d : Cell) → u < length xs → slice_set (cut_before p k u xs) u (unit_residue p (k + u) (slice_index_or (cut_before p k u xs) u d)) ≡ cut_before p k (suc u) xs
cut_next p k zero [] d h = absurd (omega arith)
cut_next p k (suc u) [] d h = absurd (omega arith)
cut_next p k zero (x ∷ xs) d h = ap (λ j. unit_residue p j x ∷ xs) (add-zero k)
cut_next p k (suc u) (x ∷ xs) d h =
    let far : k + suc u ≡ (k + 1) + u = omega arith in
    ap (λ z. unit_residue p k x ∷ z) (ap (λ j. slice_set (cut_before p (k + 1) u xs) u (unit_residue p j (slice_index_or (cut_before p (k + 1) u xs) u d))) far ∙ cut_next p (k + 1) u xs d (omega arith))

-- the next unit
pub cut_step : (p u : ℕ) (xs : List Cell) (d : Cell) → u < length xs → slice_set (cut_before p 0 u xs) u (unit_residue p u (slice_index_or (cut_before p 0 u xs) u d)) ≡ cut_before p 0 (u + 1) xs
cut_step p u xs d h =
    let at : u ≡ 0 + u = omega arith in
    let next : suc u ≡ u + 1 = omega arith in
    ap (λ j. slice_set (cut_before p 0 u xs) u (unit_residue p j (slice_index_or (cut_before p 0 u xs) u d))) at ∙ cut_next p 0 u xs d h ∙ ap (λ j. cut_before p 0 j xs) next
