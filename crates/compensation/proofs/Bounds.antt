-- How large the coefficients of an admitted set can be.
use Rattle.std.proofs.Common.{◌≡◌, true, ◌&&◌, ℤ, pos, arith}
use borrow.Author.Differences.{ints}
use Rattle.std.proofs.lemmas.Bool.{and_parts}
use Rattle.compensation.specs.Ranges.{Between, Size}
use Rattle.compensation.specs.Admitted.{admitted_set, signed_word, unsigned_word, oversampling, correction}
use Rattle.compensation.specs.declared.calibration.Calibration.{Calibration}
use Rattle.compensation.specs.declared.coefficients.Coefficients.{Coefficients}

pub record Bounded (k : Coefficients) : Type 0 where
  pub ac1 : Size 32768 k.ac1
  pub ac2 : Size 32768 k.ac2
  pub ac3 : Size 32768 k.ac3
  pub ac4 : Size 65535 k.ac4
  pub ac5 : Size 65535 k.ac5
  pub ac6 : Size 65535 k.ac6
  pub b1 : Size 32768 k.b1
  pub b2 : Size 32768 k.b2
  pub mc : Size 32768 k.mc
  pub md : Size 32768 k.md
  pub oss : Between (pos 0) (pos 3) k.oss
  pub pcor : Size 500 k.pcor

signed : (z : ℤ) → signed_word z ≡ true → Size 32768 z
signed z h = grind (arith, ints)

unsigned : (z : ℤ) → unsigned_word z ≡ true → Size 65535 z
unsigned z h = grind (arith, ints)

samples : (z : ℤ) → oversampling z ≡ true → Between (pos 0) (pos 3) z
samples z h = grind (arith, ints)

corrected : (z : ℤ) → correction z ≡ true → Size 500 z
corrected z h = grind (arith, ints)

pub bounded : (k : Coefficients) → admitted_set k ≡ true → Bounded k
unfolding admitted_set
bounded k h =
    let to-ac1 = signed_word k.ac1 in
    let to-ac2 = to-ac1 && signed_word k.ac2 in
    let to-ac3 = to-ac2 && signed_word k.ac3 in
    let to-ac4 = to-ac3 && unsigned_word k.ac4 in
    let to-ac5 = to-ac4 && unsigned_word k.ac5 in
    let to-ac6 = to-ac5 && unsigned_word k.ac6 in
    let to-b1 = to-ac6 && signed_word k.b1 in
    let to-b2 = to-b1 && signed_word k.b2 in
    let to-mb = to-b2 && signed_word k.mb in
    let to-mc = to-mb && signed_word k.mc in
    let to-md = to-mc && signed_word k.md in
    let to-oss = to-md && oversampling k.oss in
    let pcor = and_parts to-oss (correction k.pcor) h in
    let oss = and_parts to-md (oversampling k.oss) pcor.0 in
    let md = and_parts to-mc (signed_word k.md) oss.0 in
    let mc = and_parts to-mb (signed_word k.mc) md.0 in
    let mb = and_parts to-b2 (signed_word k.mb) mc.0 in
    let b2 = and_parts to-b1 (signed_word k.b2) mb.0 in
    let b1 = and_parts to-ac6 (signed_word k.b1) b2.0 in
    let ac6 = and_parts to-ac5 (unsigned_word k.ac6) b1.0 in
    let ac5 = and_parts to-ac4 (unsigned_word k.ac5) ac6.0 in
    let ac4 = and_parts to-ac3 (unsigned_word k.ac4) ac5.0 in
    let ac3 = and_parts to-ac2 (signed_word k.ac3) ac4.0 in
    let ac2 = and_parts to-ac1 (signed_word k.ac2) ac3.0 in
    record {
      ac1 = signed k.ac1 ac2.0;
      ac2 = signed k.ac2 ac2.1;
      ac3 = signed k.ac3 ac3.1;
      ac4 = unsigned k.ac4 ac4.1;
      ac5 = unsigned k.ac5 ac5.1;
      ac6 = unsigned k.ac6 ac6.1;
      b1 = signed k.b1 b1.1;
      b2 = signed k.b2 b2.1;
      mc = signed k.mc mc.1;
      md = signed k.md md.1;
      oss = samples k.oss oss.1;
      pcor = corrected k.pcor pcor.1;
    }

-- the same of a set that the code has
pub bounds : (c : Calibration) → Bounded c.values
bounds c = bounded c.values c.admitted
