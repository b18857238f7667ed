-- Programmed values of 64 bits in a table. Assumes nothing.
use Rattle.std.specs.Prelude.{◌≡◌, ℕ, zero, suc, ◌+◌, ◌^◌, ◌<◌, Bool, true, false, cond, List, [], ◌∷◌, ◌++◌, length, take, drop, replicate, ◌==◌, slice_set, refl}
use Rattle.std.specs.List.{AllByRecursion}
use Rattle.std.proofs.ByRecursion.{All-append, All-set, All-take, All-drop}
use Rattle.std.proofs.lemmas.Bool.{lt-ltb, and_from}
use Rattle.flash.specs.declared.units.Unit.{Unit as Cell}
use Rattle.flash.specs.declared.units.Unit.TheVariants.{Blank, Programmed, Unreadable}
use Rattle.flash.specs.FlashState.{ValueFits}
use Rattle.simulator.specs.Formed.{values_from}
use Rattle.simulator.specs.Tables.{over, value_fits, values_fit}
use Rattle.simulator.specs.Residues.{program_residue, residue_from, bank_residue, pattern_bits}

value_to : (x : Cell) → ValueFits x → value_fits x ≡ true
value_to Blank h = refl
value_to (Programmed v) h = lt-ltb v (2 ^ 64) h
value_to Unreadable h = refl

pub values_to : (xs : List Cell) → AllByRecursion ValueFits xs → values_fit xs ≡ true
values_to [] h = refl
values_to (x ∷ xs) h = and_from (value_fits x) (values_fit xs) (value_to x h.0) (values_to xs h.1)

all_blank : (n : ℕ) → AllByRecursion ValueFits (replicate n Blank)
all_blank zero = tt
all_blank (suc n) = (tt, all_blank n)

pub blank_fits : (n : ℕ) → values_fit (replicate n Blank) ≡ true
blank_fits n = values_to (replicate n Blank) (all_blank n)

pub set_fits : (xs : List Cell) (i : ℕ) (x : Cell) → ValueFits x → values_fit xs ≡ true → values_fit (slice_set xs i x) ≡ true
set_fits xs i x h k = values_to (slice_set xs i x) (All-set ValueFits xs i x h (values_from xs k))

all_over : (xs : List Cell) (u : ℕ) (ys : List Cell) → AllByRecursion ValueFits xs → AllByRecursion ValueFits ys → AllByRecursion ValueFits (over xs u ys)
all_over xs u ys h k =
    All-append ValueFits (take u xs) (ys ++ drop (u + length ys) xs) (All-take ValueFits u xs h)
    (All-append ValueFits ys (drop (u + length ys) xs) k (All-drop ValueFits (u + length ys) xs h))

pub over_fits : (xs : List Cell) (u : ℕ) (ys : List Cell) → values_fit xs ≡ true → values_fit ys ≡ true → values_fit (over xs u ys) ≡ true
over_fits xs u ys h k = values_to (over xs u ys) (all_over xs u ys (values_from xs h) (values_from ys k))

pub part_fits : (xs : List Cell) (u n : ℕ) → values_fit xs ≡ true → values_fit (take n (drop u xs)) ≡ true
part_fits xs u n h = values_to (take n (drop u xs)) (All-take ValueFits n (drop u xs) (All-drop ValueFits u xs (values_from xs h)))

-- what a cut leaves
program_by : (p q : Bool) (v : ℕ) → v < 2 ^ 64 → ValueFits (cond p Blank (cond q (Programmed v) Unreadable))
program_by true q v h = tt
program_by false true v h = h
program_by false false v h = tt

pub program_residue_fits : (r v : ℕ) → v < 2 ^ 64 → ValueFits (program_residue r v)
program_residue_fits r v h = program_by (r == 0) (r == 1) v h

erase_by : (p q : Bool) (x : Cell) → ValueFits x → ValueFits (cond p x (cond q Blank Unreadable))
erase_by true q x h = h
erase_by false true x h = tt
erase_by false false x h = tt

residue_all : (p u : ℕ) (xs : List Cell) → AllByRecursion ValueFits xs → AllByRecursion ValueFits (residue_from p u xs)
residue_all p u [] h = tt
residue_all p u (x ∷ xs) h = (erase_by (pattern_bits p u == 0) (pattern_bits p u == 1) x h.0, residue_all p (u + 1) xs h.1)

pub bank_residue_fits : (p : ℕ) (xs : List Cell) → values_fit xs ≡ true → values_fit (bank_residue p xs) ≡ true
bank_residue_fits p xs h = values_to (bank_residue p xs) (residue_all p 0 xs (values_from xs h))
