-- The whole quotient ÷ that every formula of the compensation uses.
use Rattle.std.specs.Prelude.{suc, ℤ, pos, negsuc, ◌+ℤ◌, ◌*ℤ◌, neg_ℤ, ◌≤ℤ◌, ◌<ℤ◌}
use Rattle.std.specs.Int.Signed.{shr_z}

-- n ÷ d, the greatest whole number not above the exact quotient, for a divisor other than 0.
-- `shr_z n m` is n divided by the natural number m and rounded down.
unfoldable pub floor_div : ℤ → ℤ → ℤ
floor_div n (pos d) = shr_z n d
floor_div n (negsuc d) = shr_z (neg_ℤ n) (suc d)

-- What makes q that quotient: q·d ≤ n < q·d + d for d above 0,
pub record QuotientAbove (n d q : ℤ) : Type 0 where
  pub low : (q *ℤ d) ≤ℤ n
  pub high : n <ℤ (q *ℤ d +ℤ d)

-- and mirrored, q·d + d < n ≤ q·d, for d below 0.
pub record QuotientBelow (n d q : ℤ) : Type 0 where
  pub low : (q *ℤ d +ℤ d) <ℤ n
  pub high : n ≤ℤ (q *ℤ d)

-- The law of ÷: it is that quotient, whatever the signs.
pub record DivisionLaw : Type 0 where
  pub above : (n d : ℤ) → pos 0 <ℤ d → QuotientAbove n d (floor_div n d)
  pub below : (n d : ℤ) → d <ℤ pos 0 → QuotientBelow n d (floor_div n d)
