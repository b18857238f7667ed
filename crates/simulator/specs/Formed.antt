-- Why a simulator keeps the law of a flash: lemmas that its impl cites. Nothing here has to be believed.
use Rattle.std.specs.Prelude.{◌≡◌, ℕ, zero, suc, ◌*◌, ◌^◌, ◌<◌, ◌≤◌, Bool, true, List, [], ◌∷◌, length, drop, vec_items, refl}
use Rattle.std.proofs.Common.{ap, arith, suc-mul}
use Rattle.std.specs.List.{AllByRecursion}
use Rattle.std.proofs.ByRecursion.{All-take, All-drop}
use Rattle.std.proofs.lemmas.List.{length-take-le, length-drop}
use Rattle.std.proofs.lemmas.Bool.{ltb-true, and_parts}
use Rattle.flash.specs.declared.units.Unit.{Unit as Cell}
use Rattle.flash.specs.declared.units.Unit.TheVariants.{Blank, Programmed, Unreadable}
use Rattle.flash.specs.FlashState.{FlashState, flash_state, WellFormed, ValueFits}
use Rattle.simulator.specs.Tables.{rows, value_fits, values_fit}
use Rattle.simulator.specs.declared.simulators.Simulator.{Simulator}

module _ {X : Type 0} where
  pub rows_length : (n w : ℕ) (xs : List X) → length (rows n w xs) ≡ n
  rows_length zero w xs = refl
  rows_length (suc n) w xs = ap suc (rows_length n w (drop w xs))

  pub rows_shape : (n w : ℕ) (xs : List X) → n * w ≤ length xs → AllByRecursion (λ row. length row ≡ w) (rows n w xs)
  rows_shape zero w xs h = tt
  rows_shape (suc n) w xs h =
      let e = suc-mul n w in
      let size = length-drop w xs in
      (length-take-le w xs (omega arith), rows_shape n w (drop w xs) (omega arith))

value_from : (x : Cell) → value_fits x ≡ true → ValueFits x
value_from Blank h = tt
value_from (Programmed v) h = ltb-true v (2 ^ 64) h
value_from Unreadable h = tt

pub values_from : (xs : List Cell) → values_fit xs ≡ true → AllByRecursion ValueFits xs
values_from [] h = tt
values_from (x ∷ xs) h = let p = and_parts (value_fits x) (values_fit xs) h in (value_from x p.0, values_from xs p.1)

pub rows_fit : (n w : ℕ) (xs : List Cell) → AllByRecursion ValueFits xs → AllByRecursion (AllByRecursion ValueFits) (rows n w xs)
rows_fit zero w xs h = tt
rows_fit (suc n) w xs h = (All-take ValueFits w xs h, rows_fit n w (drop w xs) (All-drop ValueFits w xs h))

-- a table as a flash
abbrev pub table_state : ℕ → ℕ → List Cell → Bool → ℕ → FlashState
table_state n w xs p k = flash_state (rows n w xs) w p k

-- the law of a flash
module _ (n w : ℕ) (xs : List Cell) (p : Bool) (k : ℕ) (full : length xs ≡ n * w) where
  pub table_formed : n * w ≤ 4096 → k < 2 ^ 32 → values_fit xs ≡ true → WellFormed (table_state n w xs p k)
  table_formed small fits values = record { shape = rows_shape n w xs (omega arith); size = rw rows_length small; fits = fits; values = rows_fit n w xs (values_from xs values) }

-- the simulator's own table
abbrev pub items : Simulator → List Cell
items s = vec_items s.table

pub full_of : (s : Simulator) → length (items s) ≡ s.banks * s.width
full_of s = omega (arith, s.table.ok.0, s.filled)
