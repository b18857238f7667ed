-- A simulator as a flash. Assumes nothing.
use Rattle.std.specs.Prelude.{◌≡◌, ℕ, ◌+◌, ◌-◌, ◌*◌, ◌<◌, ◌≤◌, Bool, true, List, ◌++◌, length, get_or, take, drop, replicate, slice_index_or, slice_set}
use Rattle.std.proofs.Common.{sym, ap, ◌∙◌, subst, arith, mul-le-mul_right}
use Rattle.std.specs.List.{AllZip}
use borrow.Rule.Slice.PartMut.{mid_of, put_mid}
use Rattle.std.proofs.lemmas.List.{drop-drop, get_or-take, get_or-drop, length-take, length-drop, length-replicate, with_items_is}
use Rattle.flash.specs.declared.units.Unit.{Unit as Cell}
use Rattle.flash.specs.declared.units.Unit.TheVariants.{Blank}
use Rattle.flash.specs.FlashState.{FlashState, flash_state, unit_at, bank_of, with_unit, with_bank}
use Rattle.flash.specs.Calls.{EraseResidue, read_refusal, erase_refusal}
use Rattle.flash.proofs.Refusals.{by_done, by_cut, by_same}
use Rattle.simulator.specs.Formed.{full_of, items, rows_length, table_state}
use Rattle.simulator.specs.SimulatorStates.{SimulatorState, flash_of, paid, turned_off, with_bank_blank, with_bank_cut, after_erase}
use Rattle.simulator.specs.Tables.{rows, over, values_fit}
use Rattle.simulator.specs.Residues.{bank_residue}
use Rattle.std.specs.Vec.{with_items}
use Rattle.simulator.specs.declared.simulators.Simulator.{Simulator}
use Rattle.flash.proofs.Refusals.{read_refusal_parts}
use Rattle.simulator.proofs.Rows.{rows_row, rows_over, rows_set, over_length}
use Rattle.simulator.proofs.Fitting.{over_fits, part_fits, blank_fits, bank_residue_fits}
use Rattle.simulator.proofs.Cuts.{each_residue, residue_length}

module _ (n w : ℕ) (xs : List Cell) (p : Bool) (k : ℕ) (full : length xs ≡ n * w) where
  module _ (b : ℕ) (there : b < n) where
    pub in_bank : b < length (rows n w xs)
    in_bank = rw rows_length there

    pub row_fits : b * w + w ≤ length xs
    row_fits = let q : (b + 1) ≤ n = omega arith in let m = mul-le-mul_right w q in let z : (b + 1) * w ≡ b * w + w = omega arith in omega arith

    pub place_fits : (u : ℕ) → u < w → b * w + u < length xs
    place_fits u h = let r = row_fits in omega arith

    pub table_unit_at : (u : ℕ) → u < w → unit_at (table_state n w xs p k) b u ≡ slice_index_or xs (b * w + u) Blank
    table_unit_at u h = ap (λ z. get_or z u Blank) (rows_row n w b xs there) ∙ get_or-take w (drop (b * w) xs) u Blank h ∙ get_or-drop (b * w) xs u Blank

    pub table_unit : (u : ℕ) (x : Cell) → u < w → table_state n w (slice_set xs (b * w + u) x) p k ≡ with_unit (table_state n w xs p k) b u x
    table_unit u x h = ap (λ us. flash_state us w p k) (rows_set n w b u xs x there h)

    pub table_bank : (ys : List Cell) → length ys ≡ w → table_state n w (over xs (b * w) ys) p k ≡ with_bank (table_state n w xs p k) b ys
    table_bank ys e = ap (λ us. flash_state us w p k) (rows_over n w b xs ys (omega arith) there e)

    pub table_residue : (q : ℕ) → AllZip EraseResidue (bank_of (table_state n w xs p k) b) (bank_residue q (take w (drop (b * w) xs)))
    table_residue q = let P : List Cell → Type 0 = λ z. AllZip EraseResidue z (bank_residue q (take w (drop (b * w) xs))) in subst P (sym (rows_row n w b xs there)) (each_residue q 0 (take w (drop (b * w) xs)))

    pub row_residue_length : (q : ℕ) → length (bank_residue q (take w (drop (b * w) xs))) ≡ w
    row_residue_length q = let r = row_fits in residue_length q 0 (take w (drop (b * w) xs)) ∙ simp (length-take, length-drop) (omega arith)

abbrev pub simulated : Simulator → FlashState
simulated s = table_state s.banks s.width (items s) s.on s.entry.charge

pub there_of : (s : Simulator) (b u : ℕ) → read_refusal (simulated s) b u ≡ 0 → (b < s.banks) × (u < s.width)
there_of s b u z =
    let p = read_refusal_parts (simulated s) b u z in
    let size = rows_length s.banks s.width (items s) in
    (omega (arith, p.1, size), p.2)

pub place_of : (s : Simulator) (b u : ℕ) → read_refusal (simulated s) b u ≡ 0 → b * s.width + u < s.table.len
place_of s b u z =
    let p = there_of s b u z in
    let fits = place_fits s.banks s.width (items s) s.on s.entry.charge (full_of s) b p.0 u p.1 in
    omega (arith, fits, s.table.ok.0)

pub row_of : (s : Simulator) (b : ℕ) → b < s.banks → b * s.width + s.width ≤ length (items s)
row_of s b h = row_fits s.banks s.width (items s) s.on s.entry.charge (full_of s) b h

-- the table after a write of ys to bank b
pub record Refilled (s : Simulator) (b : ℕ) (left ys : List Cell) : Type 0 where
  pub table : (with_items s.table left).items ≡ over (items s) (b * s.width) ys
  pub values : values_fit (with_items s.table left).items ≡ true

-- the units of bank b are lent as the part from i to j, and are `now` afterwards
module _ (s : Simulator) (b i j : ℕ) (lent now : List Cell) (h : b < s.banks) (e : lent ≡ items s) (at : i ≡ b * s.width) (end : j ≡ b * s.width + s.width) where
  size : j - i ≡ s.width
  size = omega arith

  part : mid_of i (j - i) lent ≡ take s.width (drop (b * s.width) (items s))
  part = ap (λ z. mid_of i (j - i) z) e ∙ ap (λ k. mid_of k (j - i) (items s)) at ∙ ap (λ k. mid_of (b * s.width) k (items s)) size

  refilled : (ys : List Cell) → now ≡ ys → length ys ≡ s.width → values_fit ys ≡ true → Refilled s b (put_mid i (j - i) lent now) ys
  refilled ys is len fit =
      let row = row_of s b h in
      let wide : j - i ≡ length ys = size ∙ sym len in
      let same : put_mid i (j - i) lent now ≡ over (items s) (b * s.width) ys =
      ap (λ z. put_mid i (j - i) lent z) is ∙ ap (λ z. put_mid i (j - i) z ys) e ∙ ap (λ k. put_mid k (j - i) (items s) ys) at ∙ ap (λ k. put_mid (b * s.width) k (items s) ys) wide
      ∙ ap (λ z. take (b * s.width) (items s) ++ (ys ++ z)) (drop-drop (length ys) (b * s.width) (items s)) in
      let kept : length (over (items s) (b * s.width) ys) ≡ length (items s) = over_length (items s) (b * s.width) ys (omega arith) in
      let long : length (put_mid i (j - i) lent now) ≡ s.table.len = ap length same ∙ kept ∙ sym s.table.ok.0 in
      let table = with_items_is s.table (put_mid i (j - i) lent now) long ∙ same in
      record { table = table; values = ap values_fit table ∙ over_fits (items s) (b * s.width) ys s.values fit }

  pub bank_blank : now ≡ replicate (length (mid_of i (j - i) lent)) Blank → Refilled s b (put_mid i (j - i) lent now) (replicate s.width Blank)
  bank_blank is =
      let row = row_of s b h in
      let wide : length (mid_of i (j - i) lent) ≡ s.width = ap length part ∙ simp (length-take, length-drop) (omega arith) in
      refilled (replicate s.width Blank) (is ∙ ap (λ k. replicate k Blank) wide) (length-replicate s.width Blank) (blank_fits s.width)

  pub bank_cut : now ≡ bank_residue s.entry.pattern (mid_of i (j - i) lent) → Refilled s b (put_mid i (j - i) lent now) (bank_residue s.entry.pattern (take s.width (drop (b * s.width) (items s))))
  bank_cut is =
      let row = take s.width (drop (b * s.width) (items s)) in
      let size = row_residue_length s.banks s.width (items s) s.on s.entry.charge (full_of s) b h s.entry.pattern in
      refilled (bank_residue s.entry.pattern row) (is ∙ ap (bank_residue s.entry.pattern) part) size (bank_residue_fits s.entry.pattern row (part_fits (items s) (b * s.width) s.width s.values))

-- what an erase makes of the whole simulator, on each of its three ways
module _ (s : SimulatorState) (b : ℕ) where
  pub erase_state_done : erase_refusal (flash_of s) b ≡ 0 → paid (with_bank_blank s b) ≡ after_erase s b
  erase_state_done h = by_done (erase_refusal (flash_of s) b) _ _ s h

  pub erase_state_cut : erase_refusal (flash_of s) b ≡ 24 → turned_off (with_bank_cut s b) ≡ after_erase s b
  erase_state_cut h = by_cut (erase_refusal (flash_of s) b) _ _ s h

  pub erase_state_same : 0 < erase_refusal (flash_of s) b → erase_refusal (flash_of s) b < 24 → s ≡ after_erase s b
  erase_state_same h k = by_same (erase_refusal (flash_of s) b) _ _ s h k
