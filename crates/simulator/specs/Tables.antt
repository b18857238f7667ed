-- A flat table of units, bank by bank.
use Rattle.std.specs.Prelude.{ℕ, zero, suc, ◌+◌, ◌^◌, Bool, true, ◌&&◌, List, [], ◌∷◌, ◌++◌, length, take, drop, nat_lt}
use Rattle.flash.specs.declared.units.Unit.{Unit as Cell}
use Rattle.flash.specs.declared.units.Unit.TheVariants.{Blank, Programmed, Unreadable}

-- the first n rows of w elements each
abbrev pub rows : {X : Type 0} → ℕ → ℕ → List X → List (List X)
rows zero w xs = []
rows (suc n) w xs = take w xs ∷ rows n w (drop w xs)

-- a list with other elements from place u on
abbrev pub over : {X : Type 0} → List X → ℕ → List X → List X
over xs u ys = take u xs ++ (ys ++ drop (u + length ys) xs)

-- every programmed value has 64 bits
abbrev pub value_fits : Cell → Bool
value_fits Blank = true
value_fits (Programmed v) = nat_lt v (2 ^ 64)
value_fits Unreadable = true

abbrev pub values_fit : List Cell → Bool
values_fit [] = true
values_fit (x ∷ xs) = value_fits x && values_fit xs
