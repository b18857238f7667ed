-- The units that bytes spell, and what a write leaves of them. Assumes nothing.
use Rattle.std.specs.Prelude.{◌≡◌, ℕ, zero, suc, ◌+◌, ◌*◌, ◌/◌, ◌^◌, ◌<◌, ◌≤◌, List, map, length, set, replicate, take, drop, ◌≢◌, slice_index, slice_index_or, slice_set}
use Rattle.std.proofs.Common.{sym, ap, ◌∙◌, inl, inr, ⊎_elim, arith, mul-le-mul_right, mod-eq_of_lt, zero-add, add-zero, lit<}
use Rattle.std.specs.List.{range_with_len, AllZip}
use Rattle.std.proofs.lemmas.List.FromFn.{length-map-range_with_len, get_or-map-range_with_len, fill_by_all}
use Rattle.std.proofs.lemmas.List.{length-set, length-replicate, get_or-replicate, get_or-set_same, get_or-set_other}
use Rattle.std.proofs.lemmas.Bool.{cases_eq, cases_lt}
use Rattle.flash.specs.declared.units.Unit.TheVariants.{Blank, Programmed, Unreadable}
use Rattle.flash.specs.Calls.{EraseResidue}
use Rattle.image.specs.ImageBytes.{be_at, with_zeros}
use Rattle.image.specs.ImageStates.{unit_place, unit_from, bank_from, banks_from, unit_written}
use Rattle.image.proofs.ImageNumbers.{part_at, be_same, SameBut, both, set_same_but, put_same_but, zeros_same_but, be_kept_below, be_kept_above, put_read, zeros_read}

-- lists made from functions of the index
module _ {X : Type 0} (f g : ℕ → X) where
  pub same_counted : (n : ℕ) → ((k : ℕ) → k < n → f k ≡ g k) → map {A = ℕ} {B = X} f (range_with_len 0 n) ≡ map {A = ℕ} {B = X} g (range_with_len 0 n)
  same_counted n h =
      let xs = map {A = ℕ} {B = X} g (range_with_len 0 n) in
      sym (fill_by_all f xs n (f 0) (length-map-range_with_len g 0 n) (λ k p. get_or-map-range_with_len g 0 n k k (f 0) p (zero-add k) ∙ sym (h k p)))

  pub set_counted : (n i : ℕ) → i < n → ((k : ℕ) → k < n → (k ≢ i) → f k ≡ g k) → map {A = ℕ} {B = X} f (range_with_len 0 n) ≡ slice_set (map {A = ℕ} {B = X} g (range_with_len 0 n)) i (f i)
  set_counted n i h same =
      let xs = map {A = ℕ} {B = X} g (range_with_len 0 n) in
      let size = length-map-range_with_len g 0 n in
      let there : i < length xs = omega arith in
      sym (fill_by_all f (slice_set xs i (f i)) n (f i) (length-set xs i (f i) ∙ size) (λ k p. ⊎_elim (λ (e : k ≡ i). ap (λ j. slice_index_or (slice_set xs i (f i)) j (f i)) e ∙ get_or-set_same xs i (f i) (f i) there ∙ ap f (sym e)) (λ (ne : k ≡ i → ⊥). get_or-set_other xs i k (f i) (f i) ne ∙ get_or-map-range_with_len g 0 n k k (f i) p (zero-add k) ∙ sym (same k p ne)) (cases_eq k i)))

  each_from : (R : X → X → Type 0) (a n : ℕ) → ((k : ℕ) → a ≤ k → k < a + n → R (f k) (g k)) → AllZip R (map {A = ℕ} {B = X} f (range_with_len a n)) (map {A = ℕ} {B = X} g (range_with_len a n))
  each_from R a zero h = tt
  each_from R a (suc n) h = (h a (omega arith) (omega arith), each_from R (a + 1) n (λ k p q. h k (omega arith) (omega arith)))

  pub each_counted : (R : X → X → Type 0) (n : ℕ) → ((k : ℕ) → k < n → R (f k) (g k)) → AllZip R (map {A = ℕ} {B = X} f (range_with_len 0 n)) (map {A = ℕ} {B = X} g (range_with_len 0 n))
  each_counted R n h = each_from R 0 n (λ k p q. h k (omega arith))

-- where units stand
pub row_before : (w b c u : ℕ) → c < b → u < w → (c * w + u) + 1 ≤ b * w
row_before w b c u h k =
    let q : (c + 1) ≤ b = omega arith in
    let m = mul-le-mul_right w q in
    let z : (c + 1) * w ≡ c * w + w = omega arith in
    omega arith

pub row_after : (w b c : ℕ) → b < c → b * w + w ≤ c * w
row_after w b c h =
    let q : (b + 1) ≤ c = omega arith in
    let m = mul-le-mul_right w q in
    let z : (b + 1) * w ≡ b * w + w = omega arith in
    omega arith

-- the nine bytes of a unit, taken out
pub unit_alone : (bs : List ℕ) (i : ℕ) → unit_from (take 9 (drop i bs)) 0 ≡ unit_from bs i
unit_alone bs i =
    let cs = take 9 (drop i bs) in
    let state = part_at bs i 9 0 (lit< tt) in
    let value : be_at cs 1 8 ≡ be_at bs (i + 1) 8 = be_same bs cs (i + 1) 1 8 (λ k h. part_at bs i 9 (1 + k) (omega arith) ∙ ap (λ j. slice_index bs j) (let e : i + (1 + k) ≡ i + 1 + k = omega arith in e)) in
    rw (state, value, add-zero)

-- a write elsewhere leaves a unit
module _ (bs cs : List ℕ) (lo hi : ℕ) (s : SameBut bs cs lo hi) where
  pub unit_kept_below : (i : ℕ) → i + 9 ≤ lo → unit_from cs i ≡ unit_from bs i
  unit_kept_below i h =
      let state = s.below i (omega arith) in
      let value = be_kept_below bs cs lo hi (i + 1) 8 s (omega arith) in
      rw (state, value)

  pub unit_kept_above : (i : ℕ) → hi ≤ i → unit_from cs i ≡ unit_from bs i
  unit_kept_above i h =
      let state = s.above i h in
      let value = be_kept_above bs cs lo hi (i + 1) 8 s (omega arith) in
      rw (state, value)

  -- a write before the units
  pub units_kept : (n w : ℕ) → hi ≤ 17 → banks_from cs n w ≡ banks_from bs n w
  units_kept n w h =
      same_counted (λ b. bank_from cs w b) (λ b. bank_from bs w b) n (λ b p. same_counted (λ u. unit_from cs (unit_place w b u)) (λ u. unit_from bs (unit_place w b u)) w (λ u q. unit_kept_above (unit_place w b u) (omega arith)))

-- a write into one bank
pub bank_written : (bs cs : List ℕ) (n w b : ℕ) → SameBut bs cs (unit_place w b 0) (unit_place w b 0 + 9 * w) → b < n → banks_from cs n w ≡ slice_set (banks_from bs n w) b (bank_from cs w b)
bank_written bs cs n w b s h =
    let lo = unit_place w b 0 in
    let hi = unit_place w b 0 + 9 * w in
    set_counted (λ k. bank_from cs w k) (λ k. bank_from bs w k) n b h (λ k p ne. same_counted (λ u. unit_from cs (unit_place w k u)) (λ u. unit_from bs (unit_place w k u)) w (λ u q. ⊎_elim (λ (l : k < b). unit_kept_below bs cs lo hi s (unit_place w k u) (omega (arith, row_before w b k u l q))) (λ (l : b ≤ k). unit_kept_above bs cs lo hi s (unit_place w k u) (let m : b < k = omega arith in omega (arith, row_after w b k m))) (cases_lt k b)))

-- a write into one unit
pub unit_in_bank : (bs cs : List ℕ) (w b u : ℕ) → SameBut bs cs (unit_place w b u) (unit_place w b u + 9) → u < w → bank_from cs w b ≡ slice_set (bank_from bs w b) u (unit_from cs (unit_place w b u))
unit_in_bank bs cs w b u s h =
    let lo = unit_place w b u in
    set_counted (λ k. unit_from cs (unit_place w b k)) (λ k. unit_from bs (unit_place w b k)) w u h (λ k p ne. ⊎_elim (λ (l : k < u). unit_kept_below bs cs lo (lo + 9) s (unit_place w b k) (omega arith)) (λ (l : u ≤ k). unit_kept_above bs cs lo (lo + 9) s (unit_place w b k) (let m : u < k = omega arith in omega arith)) (cases_lt k u))

-- what the bytes of a unit say
pub blank_unit : (bs : List ℕ) (i : ℕ) → slice_index bs i ≡ 0 → unit_from bs i ≡ Blank
blank_unit bs i h = rw h

pub written_unit : (bs : List ℕ) (i v : ℕ) → i + 9 ≤ length bs → v < 2 ^ 64 → unit_from (unit_written bs i v) i ≡ Programmed v
written_unit bs i v h fits =
    let cs = set bs i 1 in
    let size = length-set bs i 1 in
    let there : i < length bs = omega arith in
    let state : slice_index_or (unit_written bs i v) i 0 ≡ 1 = (put_same_but cs (i + 1) 8 v (i + 1) (i + 9) (omega arith) (omega arith)).below i (omega arith) ∙ get_or-set_same bs i 1 0 there in
    let value : be_at (unit_written bs i v) (i + 1) 8 ≡ v = put_read cs (i + 1) 8 v (omega arith) ∙ mod-eq_of_lt fits in
    rw (state, value)

pub cut_unit : (bs : List ℕ) (i : ℕ) → i + 9 ≤ length bs → unit_from (slice_set bs i 2) i ≡ Unreadable
cut_unit bs i h = let there : i < length bs = omega arith in let state = get_or-set_same bs i 2 0 there in rw state

pub written_same_but : (bs : List ℕ) (i v : ℕ) → SameBut bs (unit_written bs i v) i (i + 9)
written_same_but bs i v =
    both bs (slice_set bs i 1) (unit_written bs i v) i (i + 9) (set_same_but bs i 1 i (i + 9) (omega arith) (omega arith)) (put_same_but (slice_set bs i 1) (i + 1) 8 v i (i + 9) (omega arith) (omega arith))

-- zeros in all units of a bank, and in the first half of them
module _ (bs : List ℕ) (w b : ℕ) (room : unit_place w b 0 + 9 * w ≤ length bs) where
  pub erased_bank : bank_from (with_zeros bs (unit_place w b 0) (9 * w)) w b ≡ replicate w Blank
  erased_bank =
      let cs = with_zeros bs (unit_place w b 0) (9 * w) in
      sym (fill_by_all (λ u. unit_from cs (unit_place w b u)) (replicate w Blank) w Blank (length-replicate w Blank) (λ u h. get_or-replicate w u Blank Blank h ∙ sym (blank_unit cs (unit_place w b u) (zeros_read bs (unit_place w b 0) (9 * w) (unit_place w b u) (omega arith) (omega arith) room))))

  pub half_erased : AllZip EraseResidue (bank_from bs w b) (bank_from (with_zeros bs (unit_place w b 0) (9 * (w / 2))) w b)
  half_erased =
      let cs = with_zeros bs (unit_place w b 0) (9 * (w / 2)) in
      let lo = unit_place w b 0 in
      let hi = unit_place w b 0 + 9 * (w / 2) in
      each_counted (λ u. unit_from bs (unit_place w b u)) (λ u. unit_from cs (unit_place w b u)) EraseResidue w (λ u h. ⊎_elim (λ (l : u < w / 2). inr (inl (blank_unit cs (unit_place w b u) (zeros_read bs lo (9 * (w / 2)) (unit_place w b u) (omega arith) (omega arith) (omega arith))))) (λ (l : w / 2 ≤ u). inl (unit_kept_above bs cs lo hi (zeros_same_but bs lo (9 * (w / 2)) lo hi (omega arith) (omega arith)) (unit_place w b u) (omega arith))) (cases_lt u (w / 2)))
