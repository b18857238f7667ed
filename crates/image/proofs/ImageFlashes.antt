-- An image as a flash. Assumes nothing.
use Rattle.std.specs.Prelude.{◌≡◌, ℕ, ◌+◌, ◌-◌, ◌*◌, ◌/◌, ◌^◌, ◌<◌, ◌≤◌, true, List, [], length, set, replicate, slice_index_or, slice_set}
use Rattle.std.proofs.Common.{sym, ◌∙◌, arith, mod-eq_of_lt, zero-add, lit<, lit≤}
use Rattle.std.proofs.Math.Path.{ap, subst}
use Rattle.std.specs.List.{AllZip}
use Rattle.std.proofs.lemmas.List.FromFn.{length-map-range_with_len, get_or-map-range_with_len}
use Rattle.std.proofs.lemmas.List.{get_or-set_same}
use Rattle.flash.specs.declared.units.Unit.{Unit as Cell}
use Rattle.flash.specs.declared.units.Unit.TheVariants.{Blank, Programmed, Unreadable}
use Rattle.flash.specs.FlashState.{flash_state, unit_at, bank_of, with_unit, with_bank, after_write, after_cut}
use Rattle.flash.specs.Calls.{EraseResidue}
use Rattle.image.specs.Formed.{Opened, be_below}
use Rattle.image.specs.ImageBytes.{with_be, with_zeros}
use Rattle.image.specs.ImageStates.{image_banks, image_width, image_charge, image_supply, image_on, image_units, open_refusal, unit_place, unit_from, bank_from, banks_from, image_flash, paid, switched_off, unit_written, image_after_power_up}
use Rattle.image.proofs.ImageNumbers.{SameBut, wider, both, set_same_but, put_same_but, zeros_same_but, be_kept_below, put_read}
use Rattle.image.proofs.ImageUnits.{row_after, units_kept, bank_written, unit_in_bank, written_unit, cut_unit, written_same_but, erased_bank, half_erased}

-- writes from byte 8 on keep what the check looks at
pub open_kept : (bs cs : List ℕ) (lo hi : ℕ) → SameBut bs cs lo hi → 8 ≤ lo → open_refusal bs ≡ 0 → open_refusal cs ≡ 0
open_kept bs cs lo hi s h o =
    let mark = be_kept_below bs cs lo hi 0 3 s (omega arith) in
    let version = be_kept_below bs cs lo hi 3 2 s (omega arith) in
    let banks = be_kept_below bs cs lo hi 5 1 s (omega arith) in
    let width = be_kept_below bs cs lo hi 6 2 s (omega arith) in
    let long = s.long in
    simp (mark, version, banks, width, long) o

pub banks_count : (bs : List ℕ) → length (image_units bs) ≡ image_banks bs
banks_count bs = length-map-range_with_len (λ b. bank_from bs (image_width bs) b) 0 (image_banks bs)

pub in_bank : (bs : List ℕ) (b : ℕ) → b < image_banks bs → b < length (image_units bs)
in_bank bs b h = let e = banks_count bs in omega arith

pub bank_is : (bs : List ℕ) (b : ℕ) → b < image_banks bs → bank_of (image_flash bs) b ≡ bank_from bs (image_width bs) b
bank_is bs b h = get_or-map-range_with_len (λ k. bank_from bs (image_width bs) k) 0 (image_banks bs) b b [] h (zero-add b)

pub unit_is : (bs : List ℕ) (b u : ℕ) → b < image_banks bs → u < image_width bs → unit_at (image_flash bs) b u ≡ unit_from bs (unit_place (image_width bs) b u)
unit_is bs b u h k =
    ap (λ z. slice_index_or z u Blank) (bank_is bs b h) ∙ get_or-map-range_with_len (λ j. unit_from bs (unit_place (image_width bs) b j)) 0 (image_width bs) u u Blank k (zero-add u)

-- where a bank and a unit stand in the buffer
module _ (bs : List ℕ) (o : Opened bs) (b : ℕ) (there : b < image_banks bs) where
  pub bank_room : unit_place (image_width bs) b 0 + 9 * image_width bs ≤ length bs
  bank_room = let m = row_after (image_width bs) b (image_banks bs) there in omega (arith, o.full)

  pub unit_room : (u : ℕ) → u < image_width bs → unit_place (image_width bs) b u + 9 ≤ length bs
  unit_room u h = let m = row_after (image_width bs) b (image_banks bs) there in omega (arith, o.full)

-- writes behind the header
module _ (bs cs : List ℕ) (lo hi : ℕ) (s : SameBut bs cs lo hi) (far : 17 ≤ lo) where
  header_kept : image_flash cs ≡ flash_state (banks_from cs (image_banks bs) (image_width bs)) (image_width bs) (image_on bs) (image_charge bs)
  header_kept =
      let banks = be_kept_below bs cs lo hi 5 1 s (omega arith) in
      let width = be_kept_below bs cs lo hi 6 2 s (omega arith) in
      let charge = be_kept_below bs cs lo hi 8 4 s (omega arith) in
      let on = s.below 16 (omega arith) in
      simp (banks, width, charge, on)

-- writes in the header, from byte 8 on
header_written : (bs cs : List ℕ) (hi : ℕ) → SameBut bs cs 8 hi → hi ≤ 17 → image_flash cs ≡ flash_state (image_units bs) (image_width bs) (image_on cs) (image_charge cs)
header_written bs cs hi s h =
    let banks = be_kept_below bs cs 8 hi 5 1 s (omega arith) in
    let width = be_kept_below bs cs 8 hi 6 2 s (omega arith) in
    let units = units_kept bs cs 8 hi s (image_banks bs) (image_width bs) h in
    simp (banks, width, units)

pub flash_unit : (bs cs : List ℕ) (b u : ℕ) → SameBut bs cs (unit_place (image_width bs) b u) (unit_place (image_width bs) b u + 9) → b < image_banks bs → u < image_width bs → image_flash cs ≡ with_unit (image_flash bs) b u (unit_from cs (unit_place (image_width bs) b u))
flash_unit bs cs b u s h k =
    let n = image_banks bs in
    let w = image_width bs in
    let p = unit_place w b u in
    let wide = wider bs cs p (p + 9) (unit_place w b 0) (unit_place w b 0 + 9 * w) (omega arith) (omega arith) s in
    let bank = unit_in_bank bs cs w b u s k ∙ ap (λ z. set z u (unit_from cs p)) (sym (bank_is bs b h)) in
    header_kept bs cs p (p + 9) s (omega arith)
    ∙ ap (λ us. flash_state us w (image_on bs) (image_charge bs)) (bank_written bs cs n w b wide h ∙ ap (λ z. set (image_units bs) b z) bank)

pub flash_bank : (bs cs : List ℕ) (b : ℕ) → SameBut bs cs (unit_place (image_width bs) b 0) (unit_place (image_width bs) b 0 + 9 * image_width bs) → b < image_banks bs → image_flash cs ≡ with_bank (image_flash bs) b (bank_from cs (image_width bs) b)
flash_bank bs cs b s h =
    let w = image_width bs in
    let p = unit_place w b 0 in
    header_kept bs cs p (p + 9 * w) s (omega arith) ∙ ap (λ us. flash_state us w (image_on bs) (image_charge bs)) (bank_written bs cs (image_banks bs) w b s h)

pub paid_same_but : (bs : List ℕ) → SameBut bs (paid bs) 8 12
paid_same_but bs = put_same_but bs 8 4 (image_charge bs - 1) 8 12 (omega arith) (omega arith)

pub flash_paid : (bs : List ℕ) → 17 ≤ length bs → image_flash (paid bs) ≡ after_write (image_flash bs)
flash_paid bs h =
    let s = paid_same_but bs in
    let on = s.above 16 (lit≤ tt) in
    let low : image_charge bs - 1 < 256 ^ 4 = omega (arith, be_below bs 8 4) in
    let charge : image_charge (paid bs) ≡ image_charge bs - 1 = put_read bs 8 4 (image_charge bs - 1) (omega arith) ∙ mod-eq_of_lt low in
    header_written bs (paid bs) 12 s (lit≤ tt) ∙ rw (on, charge)

pub flash_off : (bs : List ℕ) → 17 ≤ length bs → image_flash (switched_off bs) ≡ after_cut (image_flash bs)
flash_off bs h =
    let there : 16 < length bs = omega arith in
    let on = get_or-set_same bs 16 0 0 there in
    let charge = be_kept_below bs (switched_off bs) 16 17 8 4 (set_same_but bs 16 0 16 17 (lit≤ tt) (lit< tt)) (lit≤ tt) in
    header_written bs (switched_off bs) 17 (set_same_but bs 16 0 8 17 (lit≤ tt) (lit< tt)) (lit≤ tt) ∙ rw (on, charge)

pub power_up_same_but : (bs : List ℕ) → SameBut bs (image_after_power_up bs) 8 17
power_up_same_but bs =
    let cs = with_be bs 8 4 (image_supply bs) in
    both bs cs (slice_set cs 16 1) 8 17 (put_same_but bs 8 4 (image_supply bs) 8 17 (lit≤ tt) (lit≤ tt)) (set_same_but cs 16 1 8 17 (lit≤ tt) (lit< tt))

pub flash_power_up : (bs : List ℕ) → 17 ≤ length bs → image_flash (image_after_power_up bs) ≡ flash_state (image_units bs) (image_width bs) true (image_supply bs)
flash_power_up bs h =
    let cs = with_be bs 8 4 (image_supply bs) in
    let long = (put_same_but bs 8 4 (image_supply bs) 8 12 (lit≤ tt) (lit≤ tt)).long in
    let there : 16 < length cs = omega arith in
    let on = get_or-set_same cs 16 1 0 there in
    let charge : image_charge (image_after_power_up bs) ≡ image_supply bs = be_kept_below cs (slice_set cs 16 1) 16 17 8 4 (set_same_but cs 16 1 16 17 (lit≤ tt) (lit< tt)) (lit≤ tt) ∙ put_read bs 8 4 (image_supply bs) (omega arith) ∙ mod-eq_of_lt (be_below bs 12 4) in
    header_written bs (image_after_power_up bs) 17 (power_up_same_but bs) (lit≤ tt) ∙ rw (on, charge)

-- a program, completed and cut
module _ (bs : List ℕ) (o : Opened bs) (b u : ℕ) (there : b < image_banks bs) (in' : u < image_width bs) where
  pub program_done_state : (v : ℕ) → v < 2 ^ 64 → image_flash (paid (unit_written bs (unit_place (image_width bs) b u) v)) ≡ after_write (with_unit (image_flash bs) b u (Programmed v))
  program_done_state v h =
      let i = unit_place (image_width bs) b u in
      let room = unit_room bs o b there u in' in
      let s = written_same_but bs i v in
      let long = s.long in
      flash_paid (unit_written bs i v) (omega arith)
      ∙ ap after_write (flash_unit bs (unit_written bs i v) b u s there in' ∙ ap (λ x. with_unit (image_flash bs) b u x) (written_unit bs i v room h))

  pub program_cut_state : image_flash (switched_off (slice_set bs (unit_place (image_width bs) b u) 2)) ≡ after_cut (with_unit (image_flash bs) b u Unreadable)
  program_cut_state =
      let i = unit_place (image_width bs) b u in
      let room = unit_room bs o b there u in' in
      let s = set_same_but bs i 2 i (i + 9) (omega arith) (omega arith) in
      let long = s.long in
      flash_off (slice_set bs i 2) (omega arith)
      ∙ ap after_cut (flash_unit bs (slice_set bs i 2) b u s there in' ∙ ap (λ x. with_unit (image_flash bs) b u x) (cut_unit bs i room))

-- an erase, completed and cut
module _ (bs : List ℕ) (o : Opened bs) (b : ℕ) (there : b < image_banks bs) where
  pub erase_done_state : image_flash (paid (with_zeros bs (unit_place (image_width bs) b 0) (9 * image_width bs))) ≡ after_write (with_bank (image_flash bs) b (replicate (image_width bs) Blank))
  erase_done_state =
      let w = image_width bs in
      let i = unit_place w b 0 in
      let room = bank_room bs o b there in
      let cs = with_zeros bs i (9 * w) in
      let s = zeros_same_but bs i (9 * w) i (i + 9 * w) (omega arith) (omega arith) in
      let long = s.long in
      flash_paid cs (omega arith) ∙ ap after_write (flash_bank bs cs b s there ∙ ap (λ xs. with_bank (image_flash bs) b xs) (erased_bank bs w b room))

  pub half_bank : List Cell
  half_bank = bank_from (with_zeros bs (unit_place (image_width bs) b 0) (9 * (image_width bs / 2))) (image_width bs) b

  pub half_allowed : AllZip EraseResidue (bank_of (image_flash bs) b) half_bank
  unfolding half_bank
  half_allowed =
      let P : List Cell → Type 0 = λ z. AllZip EraseResidue z (bank_from (with_zeros bs (unit_place (image_width bs) b 0) (9 * (image_width bs / 2))) (image_width bs) b) in
      subst P (sym (bank_is bs b there)) (half_erased bs (image_width bs) b (bank_room bs o b there))

  pub erase_cut_state : image_flash (switched_off (with_zeros bs (unit_place (image_width bs) b 0) (9 * (image_width bs / 2)))) ≡ after_cut (with_bank (image_flash bs) b half_bank)
  unfolding half_bank
  erase_cut_state =
      let w = image_width bs in
      let i = unit_place w b 0 in
      let room = bank_room bs o b there in
      let cs = with_zeros bs i (9 * (w / 2)) in
      let s = zeros_same_but bs i (9 * (w / 2)) i (i + 9 * w) (omega arith) (omega arith) in
      let long = s.long in
      flash_off cs (omega arith) ∙ ap after_cut (flash_bank bs cs b s there)
