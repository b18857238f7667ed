-- Ranges of whole numbers, as a test and as a fact.
use Rattle.std.specs.Prelude.{ℕ, Bool, ◌&&◌, ℤ, pos, neg_ℤ, ◌≤ℤ◌, int_le}

-- low ≤ z ≤ high, as a test
abbrev pub within : ℤ → ℤ → ℤ → Bool
within low high z = int_le low z && int_le z high

-- the same as a fact
abbrev pub Between : ℤ → ℤ → ℤ → Type 0
Between low high z = (low ≤ℤ z) × (z ≤ℤ high)

-- -m ≤ z ≤ m
abbrev pub Size : ℕ → ℤ → Type 0
Size m z = Between (neg_ℤ (pos m)) (pos m) z
