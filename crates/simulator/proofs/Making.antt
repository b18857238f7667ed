-- What the check before making says. Assumes nothing.
use Rattle.std.proofs.Common.{◌≡◌, ℕ, ◌*◌, ◌<◌, ◌≤◌, arith}
use Rattle.std.proofs.lemmas.Bool.Decides.{nat_tests}
use Rattle.simulator.specs.Shapes.{make_refusal}

pub record Makes (b w n : ℕ) : Type 0 where
  pub shape : (0 < b) × (b ≤ 16) × (0 < w) × (b * w ≤ 4096)
  pub full : n ≡ b * w

pub makes : (b w n : ℕ) → make_refusal b w n ≡ 0 → Makes b w n
makes b w n h = record { shape = (grind (arith, nat_tests), grind (arith, nat_tests), grind (arith, nat_tests), grind (arith, nat_tests)); full = grind (arith, nat_tests) }
