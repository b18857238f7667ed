-- Reading and writing numbers in a list of bytes. Assumes nothing.
use Rattle.std.specs.Prelude.{◌≡◌, ℕ, zero, suc, ◌+◌, ◌*◌, ◌/◌, ◌%◌, ◌^◌, ◌<◌, ◌≤◌, List, length, set, slice_index, slice_index_or, slice_set, refl, [], ◌∷◌, ◌++◌, take, drop, replicate, ◌==◌, ◌&&◌, Bool, true, false}
use Rattle.std.proofs.Common.{sym, ap, ◌∙◌, ⊎_elim, arith, pow-suc, lit<, nat_eq, append_assoc, add-zero, Fits, w8}
use Rattle.std.specs.Int.{w16, w32, w64, from_be_bytes, bytes_high_first, byte_at}
use Rattle.std.specs.List.{starts_with}
use Rattle.std.proofs.lemmas.List.{get_or-take, get_or-drop, get_or-replicate, length-replicate, take-set-le, drop-set, take-append-drop, drop-drop, length-take, length-drop, length-set, get_or-set_same, get_or-set_other}
use Rattle.std.proofs.lemmas.List.Edits.{paste_none, paste_more}
use Rattle.std.proofs.lemmas.Slice.{put_mid-paste}
use borrow.Rule.Slice.PartMut.{put_mid}
use Rattle.std.proofs.Math.Seq.{paste}
use Rattle.std.proofs.Math.Nat.{div-div-eq-div-mul, pow-zero, mod-mod, mod-one, one-le-pow}
use Rattle.std.proofs.lemmas.Bool.Decides.{nat_tests}
use Rattle.std.proofs.Math.Arith.{mod-mul}
use Rattle.std.proofs.lemmas.Bool.{cases_eq}
use Rattle.image.specs.ImageBytes.{be_at, with_be, with_zeros}
use Rattle.image.specs.ImageStates.{image_marked}

-- every item is a byte
abbrev pub IsBytes : List ℕ → Type 0
IsBytes bs = (i : ℕ) → Fits w8 (slice_index bs i)

-- what the library reads from n bytes is the number that they spell
pub part_at : (bs : List ℕ) (i n k : ℕ) → k < n → slice_index (take n (drop i bs)) k ≡ slice_index bs (i + k)
part_at bs i n k h = get_or-take n (drop i bs) k 0 h ∙ get_or-drop i bs k 0

pub be_1 : (bs : List ℕ) (i : ℕ) → slice_index bs i < 256 → be_at bs i 1 ≡ slice_index bs i
unfolding be_at
be_1 bs i h = rw add-zero (omega (arith, h))

pub be_2 : (bs : List ℕ) (i : ℕ) → IsBytes bs → from_be_bytes w16 (take 2 (drop i bs)) ≡ be_at bs i 2
unfolding be_at
be_2 bs i h =
    let p = part_at bs i 2 in
    rw (p 0 (lit< tt), p 1 (lit< tt)) (omega (arith, h (i + 0), h (i + 1)))

pub be_4 : (bs : List ℕ) (i : ℕ) → IsBytes bs → from_be_bytes w32 (take 4 (drop i bs)) ≡ be_at bs i 4
unfolding be_at
be_4 bs i h =
    let p = part_at bs i 4 in
    rw (p 0 (lit< tt), p 1 (lit< tt), p 2 (lit< tt), p 3 (lit< tt)) (omega (arith, h (i + 0), h (i + 1), h (i + 2), h (i + 3)))

pub be_8 : (bs : List ℕ) (i : ℕ) → IsBytes bs → from_be_bytes w64 (take 8 (drop i bs)) ≡ be_at bs i 8
unfolding be_at
be_8 bs i h =
    let p = part_at bs i 8 in
    rw (p 0 (lit< tt), p 1 (lit< tt), p 2 (lit< tt), p 3 (lit< tt), p 4 (lit< tt), p 5 (lit< tt), p 6 (lit< tt), p 7 (lit< tt))
    (omega (arith, h (i + 0), h (i + 1), h (i + 2), h (i + 3), h (i + 4), h (i + 5), h (i + 6), h (i + 7)))

-- the test for the mark, and for the whole beginning
mark_tests : (a b c : ℕ) → a < 256 → b < 256 → c < 256 → (nat_eq 67 a && (nat_eq 70 b && (nat_eq 73 c && true))) ≡ (((0 + a % 256) * 256 + b % 256) * 256 + c % 256 == 4408905)
mark_tests a b c p q r = grind (arith, nat_tests)

mark_is : (bs : List ℕ) → 3 ≤ length bs → IsBytes bs → starts_with nat_eq bs (0x43 ∷ 0x46 ∷ 0x49 ∷ []) ≡ (be_at bs 0 3 == 0x434649)
unfolding be_at
mark_is [] h f = absurd (omega arith)
mark_is (a ∷ []) h f = absurd (omega arith)
mark_is (a ∷ b ∷ []) h f = absurd (omega arith)
mark_is (a ∷ b ∷ c ∷ bs) h f = mark_tests a b c (omega (arith, f 0)) (omega (arith, f 1)) (omega (arith, f 2))

module _ (bs : List ℕ) where
  pub short_unmarked : length bs < 17 → false ≡ image_marked bs
  short_unmarked h = grind (arith, nat_tests)

  module _ (f : IsBytes bs) (long : 17 ≤ length bs) (r : Bool) (is : r ≡ starts_with nat_eq bs (0x43 ∷ 0x46 ∷ 0x49 ∷ [])) where
    pub other_mark : r ≡ false → false ≡ image_marked bs
    other_mark h = let m = is ∙ mark_is bs (omega arith) f in grind (arith, nat_tests)

    pub mark_then_version : r ≡ true → (v : ℕ) → v ≡ be_at bs 3 2 → nat_eq v 1 ≡ image_marked bs
    mark_then_version h v e = let m = is ∙ mark_is bs (omega arith) f in grind (arith, nat_tests)

-- what the library writes are the bytes that the definitions write
byte_up : (n v : ℕ) → byte_at (suc n) v ≡ byte_at n (v / 256)
byte_up zero v = refl
byte_up (suc n) v =
    let p : 256 ^ suc (suc n) ≡ 256 * 256 ^ suc n = rw pow-suc (omega arith) in
    ap (λ z. v / z % 256) p ∙ ap (λ z. z % 256) (sym (div-div-eq-div-mul v 256 (256 ^ suc n)))

bytes_last : (n v : ℕ) → bytes_high_first (suc n) v ≡ bytes_high_first n (v / 256) ++ (v % 256 ∷ [])
bytes_last zero v = refl
bytes_last (suc n) v = rw (byte_up n v) (ap (λ z. byte_at n (v / 256) ∷ z) (bytes_last n v))

be_written : (bs : List ℕ) (i n v : ℕ) → i + n ≤ length bs → with_be bs i n v ≡ take i bs ++ (bytes_high_first n v ++ drop (i + n) bs)
unfolding with_be
be_written bs i zero v h = rw add-zero (sym (take-append-drop i bs))
be_written bs i (suc n) v h =
    let there : i + n < length bs = omega arith in
    let next : i + n + 1 ≡ i + suc n = omega arith in
    let cs = set bs (i + n) (v % 256) in
    let size = length-set bs (i + n) (v % 256) in
    let front : take i cs ≡ take i bs = take-set-le i bs (i + n) (v % 256) (omega arith) in
    let back : drop (i + n) cs ≡ v % 256 ∷ drop (i + suc n) bs = drop-set bs (i + n) (v % 256) there ∙ ap (λ k. v % 256 ∷ drop k bs) next in
    be_written cs i n (v / 256) (omega arith)
    ∙ rw (front, back) (ap (λ z. take i bs ++ z) (sym (append_assoc (bytes_high_first n (v / 256)) (v % 256 ∷ []) (drop (i + suc n) bs)) ∙ ap (λ z. z ++ drop (i + suc n) bs) (sym (bytes_last n v))))

-- of m zeros the first n
zeros_pasted : (bs : List ℕ) (i m n : ℕ) → n ≤ m → i + m ≤ length bs → with_zeros bs i n ≡ paste bs i (replicate m 0) n
unfolding with_zeros
zeros_pasted bs i m zero h r = paste_none bs i (replicate m 0)
zeros_pasted bs i m (suc n) h r =
    ap (λ z. set z (i + n) 0) (zeros_pasted bs i m n (omega arith) r)
    ∙ ap (λ x. set (paste bs i (replicate m 0) n) (i + n) x) (sym (get_or-replicate m n 0 0 (omega arith)))
    ∙ paste_more bs i (replicate m 0) n 0 (omega arith) (omega (arith, length-replicate {A = ℕ} m 0))
    ∙ ap (λ k. paste bs i (replicate m 0) k) (let e : n + 1 ≡ suc n = omega arith in e)

-- a list after numbers or zeros were written over a part of it
module _ (xs ys bs : List ℕ) (i k n : ℕ) (same : xs ≡ bs) (count : k ≡ n) (room : i + n ≤ length bs) where
  pub be_left : (v : ℕ) → ys ≡ bytes_high_first n v → put_mid i k xs ys ≡ with_be bs i n v
  be_left v is = rw (same, is, count, drop-drop) (sym (be_written bs i n v room))

  pub zeros_left : ys ≡ replicate (length (take k (drop i xs))) 0 → put_mid i k xs ys ≡ with_zeros bs i n
  zeros_left zeros =
      let e = ap length same in
      let long : length (take k (drop i xs)) ≡ n = omega (arith, length-take k (drop i xs), length-drop i xs) in
      let is : ys ≡ replicate n 0 = zeros ∙ ap (λ m. replicate m 0) long in
      put_mid-paste i k xs ys (replicate n 0) n is (sym count) (sym (length-replicate n 0))
      ∙ ap (λ z. paste z i (replicate n 0) n) same
      ∙ sym (zeros_pasted bs i n n (omega arith) room)

-- what lies outside the places from lo up to hi is the same in both, and there are as many
pub record SameBut (bs cs : List ℕ) (lo hi : ℕ) : Type 0 where
  pub long : length cs ≡ length bs
  pub below : (k : ℕ) → k < lo → slice_index cs k ≡ slice_index bs k
  pub above : (k : ℕ) → hi ≤ k → slice_index cs k ≡ slice_index bs k

pub wider : (bs cs : List ℕ) (lo hi lo' hi' : ℕ) → lo' ≤ lo → hi ≤ hi' → SameBut bs cs lo hi → SameBut bs cs lo' hi'
wider bs cs lo hi lo' hi' p q s = record { long = s.long; below = λ k h. s.below k (omega arith); above = λ k h. s.above k (omega arith) }

pub both : (bs cs ds : List ℕ) (lo hi : ℕ) → SameBut bs cs lo hi → SameBut cs ds lo hi → SameBut bs ds lo hi
both bs cs ds lo hi s t = record { long = t.long ∙ s.long; below = λ k h. t.below k h ∙ s.below k h; above = λ k h. t.above k h ∙ s.above k h }

pub same_but_none : (bs : List ℕ) (lo hi : ℕ) → SameBut bs bs lo hi
same_but_none bs lo hi = record { long = refl; below = λ k h. refl; above = λ k h. refl }

pub set_same_but : (bs : List ℕ) (i x lo hi : ℕ) → lo ≤ i → i < hi → SameBut bs (slice_set bs i x) lo hi
set_same_but bs i x lo hi l h =
    record { long = length-set bs i x; below = λ k p. get_or-set_other bs i k x 0 (λ e. omega arith); above = λ k p. get_or-set_other bs i k x 0 (λ e. omega arith) }

pub put_same_but : (bs : List ℕ) (i n v lo hi : ℕ) → lo ≤ i → i + n ≤ hi → SameBut bs (with_be bs i n v) lo hi
unfolding with_be
put_same_but bs i zero v lo hi l h = same_but_none bs lo hi
put_same_but bs i (suc n) v lo hi l h =
    let cs = set bs (i + n) (v % 256) in
    both bs cs (with_be cs i n (v / 256)) lo hi (set_same_but bs (i + n) (v % 256) lo hi (omega arith) (omega arith)) (put_same_but cs i n (v / 256) lo hi l (omega arith))

pub zeros_same_but : (bs : List ℕ) (i n lo hi : ℕ) → lo ≤ i → i + n ≤ hi → SameBut bs (with_zeros bs i n) lo hi
unfolding with_zeros
zeros_same_but bs i zero lo hi l h = same_but_none bs lo hi
zeros_same_but bs i (suc n) lo hi l h =
    let cs = with_zeros bs i n in
    both bs cs (slice_set cs (i + n) 0) lo hi (zeros_same_but bs i n lo hi l (omega arith)) (set_same_but cs (i + n) 0 lo hi (omega arith) (omega arith))

-- equal bytes spell equal numbers
pub be_same : (bs cs : List ℕ) (i j n : ℕ) → ((k : ℕ) → k < n → slice_index cs (j + k) ≡ slice_index bs (i + k)) → be_at cs j n ≡ be_at bs i n
unfolding be_at
be_same bs cs i j zero h = refl
be_same bs cs i j (suc n) h =
    let last = h n (omega arith) in
    let front = be_same bs cs i j n (λ k p. h k (omega arith)) in
    rw (front, last)

pub be_kept_below : (bs cs : List ℕ) (lo hi i n : ℕ) → SameBut bs cs lo hi → i + n ≤ lo → be_at cs i n ≡ be_at bs i n
be_kept_below bs cs lo hi i n s h = be_same bs cs i i n (λ k p. s.below (i + k) (omega arith))

pub be_kept_above : (bs cs : List ℕ) (lo hi i n : ℕ) → SameBut bs cs lo hi → hi ≤ i → be_at cs i n ≡ be_at bs i n
be_kept_above bs cs lo hi i n s h = be_same bs cs i i n (λ k p. s.above (i + k) (omega arith))

-- a number that was written is read again
pub put_read : (bs : List ℕ) (i n v : ℕ) → i + n ≤ length bs → be_at (with_be bs i n v) i n ≡ v % 256 ^ n
unfolding be_at with_be
put_read bs i zero v h = rw pow-zero (sym (mod-one v))
put_read bs i (suc n) v h =
    let cs = set bs (i + n) (v % 256) in
    let size = length-set bs (i + n) (v % 256) in
    let front = put_read cs i n (v / 256) (omega arith) in
    let kept = put_same_but cs i n (v / 256) i (i + n) (omega arith) (omega arith) in
    let there : i + n < length bs = omega arith in
    let last : slice_index_or (with_be cs i n (v / 256)) (i + n) 0 ≡ v % 256 = kept.above (i + n) (omega arith) ∙ get_or-set_same bs (i + n) (v % 256) 0 there in
    let whole : v % (256 ^ n * 256) ≡ (v / 256 % 256 ^ n) * 256 + v % 256 = mod-mul v {m = 256 ^ n} {c = 256} (one-le-pow n 256 (lit< tt)) (lit< tt) in
    rw (front, last, mod-mod, pow-suc) (sym whole)

-- zeros that were written are there
pub zeros_read : (bs : List ℕ) (i n k : ℕ) → i ≤ k → k < i + n → i + n ≤ length bs → slice_index (with_zeros bs i n) k ≡ 0
unfolding with_zeros
zeros_read bs i zero k p q r = absurd (omega arith)
zeros_read bs i (suc n) k p q r =
    let cs = with_zeros bs i n in
    let size = (zeros_same_but bs i n i (i + n) (omega arith) (omega arith)).long in
    let there : i + n < length cs = omega arith in
    ⊎_elim
    (λ (e : k ≡ i + n). ap (λ j. slice_index (slice_set cs (i + n) 0) j) e ∙ get_or-set_same cs (i + n) 0 0 there)
    (λ (ne : k ≡ i + n → ⊥). get_or-set_other cs (i + n) k 0 0 ne ∙ zeros_read bs i n k p (omega arith) (omega arith))
    (cases_eq k (i + n))
