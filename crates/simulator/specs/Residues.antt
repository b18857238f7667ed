-- What the simulator's cuts leave.
use Rattle.std.specs.Prelude.{ℕ, ◌+◌, ◌*◌, ◌/◌, ◌%◌, ◌^◌, cond, List, [], ◌∷◌, ◌==◌}
use Rattle.flash.specs.declared.units.Unit.{Unit as Cell}
use Rattle.flash.specs.declared.units.Unit.TheVariants.{Blank, Programmed, Unreadable}

-- a cut program of v: by residue 0 blank, by 1 the new value, by others unreadable
abbrev pub program_residue : ℕ → ℕ → Cell
program_residue r v = cond (r == 0) Blank (cond (r == 1) (Programmed v) Unreadable)

-- the two bits of the pattern p from bit 2·(u mod 32) upward
abbrev pub pattern_bits : ℕ → ℕ → ℕ
pattern_bits p u = (p / 2 ^ (2 * (u % 32))) % 4

-- unit u of a cut erase, which held x: by 0 as it was, by 1 blank, by others unreadable
abbrev pub unit_residue : ℕ → ℕ → Cell → Cell
unit_residue p u x = cond (pattern_bits p u == 0) x (cond (pattern_bits p u == 1) Blank Unreadable)

-- the units of a cut erase, the first of them unit u
abbrev pub residue_from : ℕ → ℕ → List Cell → List Cell
residue_from p u [] = []
residue_from p u (x ∷ xs) = unit_residue p u x ∷ residue_from p (u + 1) xs

abbrev pub bank_residue : ℕ → List Cell → List Cell
bank_residue p xs = residue_from p 0 xs
