-- Why an image keeps the law of a flash: lemmas that its impl cites. Nothing here has to be believed.
use Rattle.std.specs.Prelude.{◌≡◌, ℕ, zero, suc, ◌+◌, ◌*◌, ◌^◌, ◌<◌, ◌≤◌, Bool, true, false, cond, List, map, length, ◌==◌, slice_index}
use Rattle.std.proofs.Common.{arith, pow-suc, lit<}
use Rattle.std.proofs.Math.Nat.{pow-zero}
use Rattle.std.specs.List.{range_with_len, AllByRecursion}
use Rattle.std.proofs.lemmas.List.FromFn.{length-map-range_with_len}
use Rattle.std.proofs.lemmas.Bool.Decides.{nat_tests}
use Rattle.flash.specs.declared.units.Unit.TheVariants.{Blank, Programmed, Unreadable}
use Rattle.flash.specs.FlashState.{WellFormed, ValueFits}
use Rattle.image.specs.ImageBytes.{be_at}
use Rattle.image.specs.ImageStates.{image_banks, image_width, open_refusal, unit_place, unit_from, bank_from, image_flash}

-- n bytes spell a number below 256 to the power n
pub be_below : (bs : List ℕ) (i n : ℕ) → be_at bs i n < 256 ^ n
unfolding be_at
be_below bs i zero = rw pow-zero (lit< tt)
be_below bs i (suc n) = let h = be_below bs i n in rw pow-suc (omega arith)

pub all_counted : {X : Type 0} (P : X → Type 0) (f : ℕ → X) (a n : ℕ) → ((k : ℕ) → P (f k)) → AllByRecursion P (map {A = ℕ} {B = X} f (range_with_len a n))
all_counted P f a zero h = tt
all_counted P f a (suc n) h = (h a, all_counted P f (a + 1) n h)

-- values have 64 bits
value_fits : (p q : Bool) (bs : List ℕ) (i : ℕ) → ValueFits (cond p Blank (cond q (Programmed (be_at bs i 8)) Unreadable))
value_fits true q bs i = tt
value_fits false true bs i = be_below bs i 8
value_fits false false bs i = tt

pub unit_fits : (bs : List ℕ) (i : ℕ) → ValueFits (unit_from bs i)
unit_fits bs i = value_fits (slice_index bs i == 0) (slice_index bs i == 1) bs (i + 1)

-- what the check before opening says
pub record Opened (bs : List ℕ) : Type 0 where
  pub header : 17 ≤ length bs
  pub few : image_banks bs ≤ 16
  pub units : 1 ≤ image_width bs
  pub small : image_banks bs * image_width bs ≤ 4096
  pub full : length bs ≡ 17 + 9 * (image_banks bs * image_width bs)

pub opened : (bs : List ℕ) → open_refusal bs ≡ 0 → Opened bs
opened bs h =
    record { header = grind (arith, nat_tests); few = grind (arith, nat_tests); units = grind (arith, nat_tests); small = grind (arith, nat_tests); full = grind (arith, nat_tests) }

-- the law of a flash
pub image_formed : (bs : List ℕ) → Opened bs → WellFormed (image_flash bs)
image_formed bs o =
    record {
      shape = all_counted (λ bank. length bank ≡ image_width bs) (λ b. bank_from bs (image_width bs) b) 0 (image_banks bs) (λ b. length-map-range_with_len (λ u. unit_from bs (unit_place (image_width bs) b u)) 0 (image_width bs));
      size = rw length-map-range_with_len o.small;
      fits = be_below bs 8 4;
      values = all_counted (AllByRecursion ValueFits) (λ b. bank_from bs (image_width bs) b) 0 (image_banks bs) (λ b. all_counted ValueFits (λ u. unit_from bs (unit_place (image_width bs) b u)) 0 (image_width bs) (λ u. unit_fits bs (unit_place (image_width bs) b u)));
    }
