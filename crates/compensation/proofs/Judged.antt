-- What the definitions answer on each way through the code.
use Rattle.std.proofs.Common.{◌≡◌, ℤ, pos, ◌+ℤ◌, ◌-ℤ◌, ◌≤ℤ◌, ◌<ℤ◌, Ok, Err}
use Rattle.compensation.specs.declared.coefficients.Coefficients.{Coefficients}
use Rattle.compensation.specs.declared.readings.Balance.{Balance}
use Rattle.compensation.specs.declared.readings.ReadingRefusal.TheVariants.{Temperature}
use Rattle.compensation.specs.Formulas.{x1_of, x2_of, temperature_from_x2, temperature_at, samples_of, b7_of, p_of, pa_of, balance_of, pressure_from_b7, pressure_from_balance, up_limit_of, pressure_of}
use Rattle.compensation.proofs.Ranges.{is_zero, not_zero, at_most, both}

module _ (k : Coefficients) (ut x1 : ℤ) (e : x1 ≡ x1_of ut k.ac5 k.ac6) where
  pub divisor_zero : x1 +ℤ k.md ≡ pos 0 → temperature_at k ut ≡ Err Temperature
  divisor_zero z =
      let z' : x1_of ut k.ac5 k.ac6 +ℤ k.md ≡ pos 0 = rw e at z in
      rw (is_zero (x1_of ut k.ac5 k.ac6 +ℤ k.md) z')

  pub divisor_good : (x1 +ℤ k.md ≡ pos 0 → ⊥) → temperature_at k ut ≡ temperature_from_x2 x1 (x2_of x1 k.mc k.md)
  divisor_good n =
      let n' : (x1_of ut k.ac5 k.ac6 +ℤ k.md ≡ pos 0 → ⊥) = rw e at n in
      rw (not_zero (x1_of ut k.ac5 k.ac6 +ℤ k.md) n') (rw (← e))

pub judged : (k : Coefficients) (from : Balance) (up : ℤ) → from.b3 ≤ℤ up → pos 0 <ℤ from.b4
    → pressure_from_balance k from up ≡ pressure_from_b7 from (b7_of up from.b3 (samples_of k.oss)) k.pcor
judged k from up low above = rw (both from.b3 up (pos 0) from.b4 low above)

pub limited : (from : Balance) (b7 pcor p : ℤ) → p ≡ p_of b7 from.b4 → p ≤ℤ pos 1000000
    → pressure_from_b7 from b7 pcor ≡ Ok (record { balance = from; b7 = b7; p = p; pa = pa_of p pcor })
limited from b7 pcor p e h = rw (← e) (rw (at_most p (pos 1000000) h))

module _ (k : Coefficients) (b5 up limit : ℤ) (e : limit ≡ up_limit_of k.oss) where
  pub read : pos 0 ≤ℤ up → up <ℤ limit → pressure_of k b5 up ≡ pressure_from_balance k (balance_of k (b5 -ℤ pos 4000)) up
  read low high = rw (both (pos 0) up up (up_limit_of k.oss) low (rw e at high))
