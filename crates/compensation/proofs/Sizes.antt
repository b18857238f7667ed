-- Bounds of sums, and the fit of a bounded number.
use Rattle.std.proofs.Common.{ℕ, ◌+◌, ◌^◌, ◌<◌, ◌≤◌, ℤ, pos, ◌+ℤ◌, arith, w64, SFits}
use borrow.Author.Differences.{ints}
use Rattle.compensation.specs.Ranges.{Between, Size}

pub widen : (m k : ℕ) (z : ℤ) → m ≤ k → Size m z → Size k z
widen m k z h s = omega (arith, ints)

pub size_sum : (m k : ℕ) (a b : ℤ) → Size m a → Size k b → Size (m + k) (a +ℤ b)
size_sum m k a b p q = omega (arith, ints)

pub fits_size : (m : ℕ) (z : ℤ) → m < 2 ^ 63 → Size m z → SFits w64 z
fits_size m z h s = omega (arith, ints)

pub size_counted : (m : ℕ) (z : ℤ) → Between (pos 1) (pos m) z → Size m z
size_counted m z h = omega (arith, ints)

pub size_constant : (m k : ℕ) → k ≤ m → Size m (pos k)
size_constant m k h = omega (arith, ints)
