-- What the calls of an image need. Assumes nothing.
use Rattle.std.proofs.Common.{Vec, sym, ap, ◌∙◌, arith}
use Rattle.std.specs.Prelude.{◌≡◌, ℕ, ◌+◌, ◌<◌, ◌≤◌, take, drop, replicate, true, false, not, List, length}
use Rattle.std.specs.Vec.{with_items}
use Rattle.std.proofs.lemmas.List.{with_items_is}
use Rattle.std.proofs.lemmas.Bool.{not-false}
use Rattle.flash.specs.declared.units.Unit.{Unit as Cell}
use Rattle.flash.specs.declared.units.Unit.TheVariants.{Blank}
use Rattle.flash.specs.FlashState.{FlashState, unit_at}
use Rattle.flash.specs.Calls.{read_refusal, program_refusal}
use Rattle.flash.proofs.Refusals.{read_refusal_parts, program_refusal_open, number_cut}
use Rattle.image.specs.Formed.{Opened, opened}
use Rattle.image.specs.declared.images.Image.{Image}
use Rattle.image.specs.ImageOpening.{image_bytes}
use Rattle.image.specs.declared.headers.Header.{Header}
use Rattle.image.specs.ImageHeader.{header_of}
use Rattle.image.specs.ImageStates.{image_banks, image_width, image_charge, image_on, image_units, open_refusal, image_flash}
use borrow.Rule.Slice.PartMut.{put_mid}
use Rattle.std.specs.Int.{bytes_high_first}
use Rattle.image.specs.ImageBytes.{with_be, with_zeros}
use Rattle.image.proofs.ImageNumbers.{SameBut, be_left, zeros_left, put_same_but, zeros_same_but}
use Rattle.image.proofs.ImageFlashes.{open_kept, banks_count}

-- a program whose unit is blank, and that is cut
module _ (s : FlashState) (b u : ℕ) where
  pub free_of : (x : Cell) → x ≡ unit_at s b u → x ≡ Blank → unit_at s b u ≡ Blank
  free_of x is blank = sym is ∙ blank

  pub cut_refusal : read_refusal s b u ≡ 0 → unit_at s b u ≡ Blank → s.charge ≡ 0 → program_refusal s b u ≡ 24
  cut_refusal there free z = let p = read_refusal_parts s b u there in number_cut s.charge (program_refusal s b u) (program_refusal_open s b u p.0 p.1 p.2 free) z

-- what a header that was read says of the bytes
module _ (bs : List ℕ) (h : Header) (is : h ≡ header_of bs) where
  pub banks_read : h.banks ≡ image_banks bs
  banks_read = ap (λ (x : Header). x.banks) is

  pub width_read : h.width ≡ image_width bs
  width_read = ap (λ (x : Header). x.width) is

  pub charge_read : h.charge ≡ image_charge bs
  charge_read = ap (λ (x : Header). x.charge) is

  pub on_read : not h.is_on ≡ false → image_on bs ≡ true
  on_read on = sym (ap (λ (x : Header). x.is_on) is) ∙ not-false h.is_on on

  pub banks_shown : h.banks ≡ length (image_units bs)
  banks_shown = banks_read ∙ sym (banks_count bs)

-- a buffer after a part of it was written over
module _ {Z : Type 0} (v : Vec ℕ Z) (xs ys : List ℕ) (i k n : ℕ) (same : xs ≡ v.items) (count : k ≡ n) (room : i + n ≤ length v.items) where
  rewritten : (cs : List ℕ) → put_mid i k xs ys ≡ cs → length cs ≡ length v.items → (with_items v (put_mid i k xs ys)).items ≡ cs
  rewritten cs e long =
      let kept : length (put_mid i k xs ys) ≡ v.len = ap length e ∙ long ∙ omega (arith, v.ok.0) in
      with_items_is v (put_mid i k xs ys) kept ∙ e

  pub be_over : (x : ℕ) → ys ≡ bytes_high_first n x → (with_items v (put_mid i k xs ys)).items ≡ with_be v.items i n x
  be_over x is =
      rewritten (with_be v.items i n x) (be_left xs ys v.items i k n same count room x is) (put_same_but v.items i n x i (i + n) (omega arith) (omega arith)).long

  pub zeros_over : ys ≡ replicate (length (take k (drop i xs))) 0 → (with_items v (put_mid i k xs ys)).items ≡ with_zeros v.items i n
  zeros_over is =
      rewritten (with_zeros v.items i n) (zeros_left xs ys v.items i k n same count room is) (zeros_same_but v.items i n i (i + n) (omega arith) (omega arith)).long

module _ (m : Image) where
  pub opened_of : Opened (image_bytes m)
  opened_of = opened (image_bytes m) m.opened

  -- what the check looks at is kept
  pub still_opened : (left cs : List ℕ) (lo hi : ℕ) → left ≡ cs → SameBut (image_bytes m) cs lo hi → 8 ≤ lo → open_refusal left ≡ 0
  still_opened left cs lo hi e s h = ap open_refusal e ∙ open_kept (image_bytes m) cs lo hi s h m.opened

  pub there_of : (b u : ℕ) → read_refusal (image_flash (image_bytes m)) b u ≡ 0 → (b < image_banks (image_bytes m)) × (u < image_width (image_bytes m))
  there_of b u h = let p = read_refusal_parts (image_flash (image_bytes m)) b u h in let e = banks_count (image_bytes m) in (omega (arith, p.1), p.2)
