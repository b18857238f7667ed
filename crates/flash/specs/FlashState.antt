-- A flash at one moment.
use Rattle.std.specs.Prelude.{◌≡◌, ℕ, ◌-◌, ◌*◌, ◌^◌, ◌<◌, ◌≤◌, Bool, true, false, List, [], length, slice_index_or, slice_set}
use Rattle.std.specs.List.{AllByRecursion}
use Rattle.flash.specs.declared.units.Unit.{Unit as Cell}
use Rattle.flash.specs.declared.units.Unit.TheVariants.{Blank, Programmed, Unreadable}

-- the units bank by bank, how many a bank has, whether the flash is on, and how many writes it will still complete
pub record FlashState : Type 0 where
  pub units : List (List Cell)
  pub width : ℕ
  pub on : Bool
  pub charge : ℕ

abbrev pub flash_state : List (List Cell) → ℕ → Bool → ℕ → FlashState
flash_state us w p n = record { units = us; width = w; on = p; charge = n }

-- a programmed value has 64 bits
abbrev pub ValueFits : Cell → Type 0
ValueFits Blank = Unit {0}
ValueFits (Programmed v) = v < 2 ^ 64
ValueFits Unreadable = Unit {0}

-- what holds of every flash at every moment
pub record WellFormed (s : FlashState) : Type 0 where
  pub shape : AllByRecursion (λ bank. length bank ≡ s.width) s.units
  pub size : length s.units * s.width ≤ 4096
  pub fits : s.charge < 2 ^ 32
  pub values : AllByRecursion (AllByRecursion ValueFits) s.units

abbrev pub bank_of : FlashState → ℕ → List Cell
bank_of s b = slice_index_or s.units b []

-- what the unit u of bank b holds
abbrev pub unit_at : FlashState → ℕ → ℕ → Cell
unit_at s b u = slice_index_or (bank_of s b) u Blank

abbrev pub is_blank : Cell → Bool
is_blank Blank = true
is_blank (Programmed v) = false
is_blank Unreadable = false

-- the flash with other contents of one bank, or of one unit
abbrev pub with_bank : FlashState → ℕ → List Cell → FlashState
with_bank s b xs = flash_state (slice_set s.units b xs) s.width s.on s.charge

abbrev pub with_unit : FlashState → ℕ → ℕ → Cell → FlashState
with_unit s b u x = with_bank s b (slice_set (bank_of s b) u x)

-- a completed write costs one
abbrev pub after_write : FlashState → FlashState
after_write s = flash_state s.units s.width s.on (s.charge - 1)

-- a cut turns the flash off
abbrev pub after_cut : FlashState → FlashState
after_cut s = flash_state s.units s.width false s.charge
