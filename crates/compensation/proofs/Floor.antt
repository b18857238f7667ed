-- Division rounded down: Rust's Euclidean division gives it at a positive divisor, and it is the quotient that its law says.
use Rattle.std.proofs.Common.{◌≡◌, ℕ, suc, ◌+◌, ◌/◌, ◌<◌, ◌≤◌, ℤ, pos, negsuc, ◌-ℤ◌, neg_ℤ, nat_abs, ◌<ℤ◌, refl, ap, ◌∙◌, suc-mul, div-le_self, arith}
use lib.Signed.{shr_z}
use borrow.Author.Differences.{ints}
use Rattle.std.proofs.lemmas.Nat.{div-add-mod', mod_below, le-div}
use Rattle.std.specs.Int.{int_div_euclid}
use Rattle.compensation.specs.Ranges.{Size}
use Rattle.compensation.proofs.Products.{size_abs, abs_size}
use Rattle.compensation.specs.Division.{floor_div, QuotientAbove, QuotientBelow}

euclid_shr : (z : ℤ) (n : ℕ) → int_div_euclid z (pos n) ≡ shr_z z n
euclid_shr (pos a) n = refl
euclid_shr (negsuc a) n = refl

pub over_positive : (a b : ℤ) → pos 0 <ℤ b → int_div_euclid a b ≡ floor_div a b
unfolding floor_div
over_positive a (pos b) h = euclid_shr a b
over_positive a (negsuc b) h = absurd h.lt

-- both signs turned
turned : (a : ℤ) (b : ℕ) → floor_div (neg_ℤ a) (pos (suc b)) ≡ floor_div a (negsuc b)
unfolding floor_div
turned a b = refl

pub over_negative : (a b : ℤ) → b <ℤ pos 0 → floor_div (pos 0 -ℤ a) (pos 0 -ℤ b) ≡ floor_div a b
over_negative a (pos b) h = absurd (omega (arith, ints))
over_negative a (negsuc b) h =
    let less-a : pos 0 -ℤ a ≡ neg_ℤ a = omega (arith, ints) in
    let less-b : pos 0 -ℤ negsuc b ≡ pos (suc b) = omega (arith, ints) in
    ap (λ z. floor_div z (pos 0 -ℤ negsuc b)) less-a ∙ (ap (λ z. floor_div (neg_ℤ a) z) less-b ∙ turned a b)

-- a = q·n + r with r below n, read as parts of integers
shr_above : (z : ℤ) (n : ℕ) → 0 < n → QuotientAbove z (pos n) (shr_z z n)
shr_above (pos a) n h =
    let d = div-add-mod' a n in
    let m = mod_below a n h in
    record { low = omega (arith, ints); high = omega (arith, ints) }
shr_above (negsuc a) n h =
    let d = div-add-mod' a n in
    let m = mod_below a n h in
    let s = suc-mul (a / n) n in
    record { low = omega (arith, ints); high = omega (arith, ints) }

pub above : (a b : ℤ) → pos 0 <ℤ b → QuotientAbove a b (floor_div a b)
unfolding floor_div
above a (pos b) h = shr_above a b (omega (arith, ints))
above a (negsuc b) h = absurd h.lt

pub below : (a b : ℤ) → b <ℤ pos 0 → QuotientBelow a b (floor_div a b)
unfolding floor_div
below a (pos b) h = absurd (omega (arith, ints))
below a (negsuc b) h =
    let s = shr_above (neg_ℤ a) (suc b) (omega arith) in
    record { low = omega (arith, ints); high = omega (arith, ints) }

shr_abs : (z : ℤ) (n : ℕ) → nat_abs (shr_z z n) ≤ nat_abs z
shr_abs (pos a) n = div-le_self a n
shr_abs (negsuc a) n = omega (arith, div-le_self a n)

floor_abs : (a b : ℤ) → nat_abs (floor_div a b) ≤ nat_abs a
unfolding floor_div
floor_abs a (pos b) = shr_abs a b
floor_abs a (negsuc b) = omega (arith, ints, shr_abs (neg_ℤ a) (suc b))

-- a quotient is no larger than what is divided
pub size_floor : (a b : ℤ) (m : ℕ) → Size m a → Size m (floor_div a b)
size_floor a b m h = abs_size m (floor_div a b) (omega (arith, floor_abs a b, size_abs m a h))

div_mono : (a m n : ℕ) → 0 < n → a ≤ m → a / n ≤ m / n
div_mono a m n h p = le-div (a / n) m n h (omega (arith, div-add-mod' a n))

shr_bound : (z : ℤ) (n m : ℕ) → 0 < n → nat_abs z ≤ m → nat_abs (shr_z z n) ≤ m / n + 1
shr_bound (pos a) n m h p = omega (arith, div_mono a m n h p)
shr_bound (negsuc a) n m h p = let q : a ≤ m = omega arith in omega (arith, div_mono a m n h q)

-- a quotient's bound, from a bound of what is divided
pub bound_floor : (a b : ℤ) (m : ℕ) → pos 0 <ℤ b → Size m a → Size (m / nat_abs b + 1) (floor_div a b)
unfolding floor_div
bound_floor a (pos b) m h p = abs_size (m / b + 1) (shr_z a b) (shr_bound a b m (omega (arith, ints)) (size_abs m a p))
bound_floor a (negsuc b) m h p = absurd h.lt
