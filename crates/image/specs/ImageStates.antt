-- The bytes of an image as a flash, the check before one is opened, and what each call makes of the bytes.
use Rattle.std.specs.Prelude.{ℕ, ◌+◌, ◌-◌, ◌*◌, ◌/◌, Bool, cond, ◌&&◌, List, map, length, ◌==◌, nat_le, slice_index, slice_set}
use Rattle.std.specs.List.{range_with_len}
use Rattle.flash.specs.declared.units.Unit.{Unit as Cell}
use Rattle.flash.specs.declared.units.Unit.TheVariants.{Blank, Programmed, Unreadable}
use Rattle.flash.specs.FlashState.{FlashState, flash_state}
use Rattle.flash.specs.Calls.{program_refusal, erase_refusal, by_refusal}
use Rattle.flash.specs.Shapes.{shape_fits}
use Rattle.image.specs.ImageBytes.{be_at, with_be, with_zeros}

-- there are the 17 bytes of a header; bytes 0 to 2 are the mark, 3 and 4 the version, 1
abbrev pub image_marked : List ℕ → Bool
image_marked bs = nat_le 17 (length bs) && be_at bs 0 3 == 0x434649 && be_at bs 3 2 == 1

-- byte 5 is the number of banks, 6 and 7 the number of units in a bank
abbrev pub image_banks : List ℕ → ℕ
image_banks bs = be_at bs 5 1

abbrev pub image_width : List ℕ → ℕ
image_width bs = be_at bs 6 2

-- bytes 8 to 11 are the charge, 12 to 15 the supply, which a power-up sets the charge to
abbrev pub image_charge : List ℕ → ℕ
image_charge bs = be_at bs 8 4

abbrev pub image_supply : List ℕ → ℕ
image_supply bs = be_at bs 12 4

-- byte 16 is 1 where the flash is on; any other value reads as off
abbrev pub image_on : List ℕ → Bool
image_on bs = slice_index bs 16 == 1

-- the number that opening is refused with, 0 where it is accepted
abbrev pub open_refusal : List ℕ → ℕ
open_refusal bs =
    cond (image_marked bs) (cond (shape_fits (image_banks bs) (image_width bs)) (cond (length bs == 17 + 9 * (image_banks bs * image_width bs)) 0 33) 32) 31

-- where unit u of bank b begins, where a bank has `width` units
abbrev pub unit_place : ℕ → ℕ → ℕ → ℕ
unit_place width b u = 17 + 9 * (b * width + u)

-- a unit is nine bytes: 0 blank, 1 programmed, others unreadable; then its value
abbrev pub unit_of : ℕ → ℕ → Cell
unit_of state value = cond (state == 0) Blank (cond (state == 1) (Programmed value) Unreadable)

abbrev pub unit_from : List ℕ → ℕ → Cell
unit_from bs i = unit_of (slice_index bs i) (be_at bs (i + 1) 8)

-- the units of bank b, and the banks
abbrev pub bank_from : List ℕ → ℕ → ℕ → List Cell
bank_from bs width b = map {A = ℕ} {B = Cell} (λ u. unit_from bs (unit_place width b u)) (range_with_len 0 width)

abbrev pub banks_from : List ℕ → ℕ → ℕ → List (List Cell)
banks_from bs banks width = map {A = ℕ} {B = List Cell} (λ b. bank_from bs width b) (range_with_len 0 banks)

abbrev pub image_units : List ℕ → List (List Cell)
image_units bs = banks_from bs (image_banks bs) (image_width bs)

-- the image as a flash
abbrev pub image_flash : List ℕ → FlashState
image_flash bs = flash_state (image_units bs) (image_width bs) (image_on bs) (image_charge bs)

-- a completed write lowers the charge by one; a cut turns the flash off
abbrev pub paid : List ℕ → List ℕ
paid bs = with_be bs 8 4 (image_charge bs - 1)

abbrev pub switched_off : List ℕ → List ℕ
switched_off bs = slice_set bs 16 0

-- the unit at place i programmed with v
abbrev pub unit_written : List ℕ → ℕ → ℕ → List ℕ
unit_written bs i v = with_be (slice_set bs i 1) (i + 1) 8 v

-- all bytes after a program: the unit's state 1 and its value; a cut one writes state 2 alone
abbrev pub image_after_program : List ℕ → ℕ → ℕ → ℕ → List ℕ
image_after_program bs b u v =
    by_refusal (program_refusal (image_flash bs) b u) (paid (unit_written bs (unit_place (image_width bs) b u) v)) (switched_off (slice_set bs (unit_place (image_width bs) b u) 2)) bs

-- all bytes after an erase: zeros in the bank's units; a cut one writes them to the lower half, rounded down
abbrev pub image_after_erase : List ℕ → ℕ → List ℕ
image_after_erase bs b =
    by_refusal (erase_refusal (image_flash bs) b) (paid (with_zeros bs (unit_place (image_width bs) b 0) (9 * image_width bs))) (switched_off (with_zeros bs (unit_place (image_width bs) b 0) (9 * (image_width bs / 2)))) bs

-- all bytes after a power-up: on, the charge as the supply
abbrev pub image_after_power_up : List ℕ → List ℕ
image_after_power_up bs = slice_set (with_be bs 8 4 (image_supply bs)) 16 1
