-- What two flashes side by side hold as one.
use Rattle.std.specs.Prelude.{min, ◌&&◌, List, [], ◌∷◌}
use Rattle.flash.specs.declared.units.Unit.{Unit as Cell}
use Rattle.flash.specs.declared.units.Unit.TheVariants.{Blank, Programmed, Unreadable}
use Rattle.flash.specs.FlashState.{FlashState, flash_state}

-- blank when both are; the first's value, or the second's where the first is unreadable; else unreadable
abbrev pub mixed : Cell → Cell → Cell
mixed Blank Blank = Blank
mixed Blank (Programmed v) = Unreadable
mixed Blank Unreadable = Unreadable
mixed (Programmed v) y = Programmed v
mixed Unreadable Blank = Unreadable
mixed Unreadable (Programmed v) = Programmed v
mixed Unreadable Unreadable = Unreadable

-- two lists element by element, as long as the shorter
abbrev pub beside : {X Y Z : Type 0} → (X → Y → Z) → List X → List Y → List Z
beside f [] ys = []
beside f (x ∷ xs) [] = []
beside f (x ∷ xs) (y ∷ ys) = f x y ∷ beside f xs ys

abbrev pub mixed_units : List (List Cell) → List (List Cell) → List (List Cell)
mixed_units = beside (beside mixed)

-- banks, width and charge are the smaller of the two; on when both are
abbrev pub mirrored : FlashState → FlashState → FlashState
mirrored a b = flash_state (mixed_units a.units b.units) (min a.width b.width) (a.on && b.on) (min a.charge b.charge)
