use Rattle.std.proofs.Common.{◌≡◌, zero, suc, ◌*◌, ◌%◌, ◌^◌, ℤ, pos, negsuc, refl, arith, w64, to_z, of_z}
use Rattle.std.proofs.lemmas.Int.{ints}
use Rattle.compensation.specs.Formulas.{samples_of}
use Rattle.compensation.specs.Ranges.{Between}
use Rattle.compensation.proofs.pressure.samples.Goals as goal

-- 1 shifted by up to three places is 2^OSS, 1 to 8
shifted : (z : ℤ) → Between (pos 0) (pos 3) z → (to_z w64 (1 * 2 ^ of_z w64 z % 2 ^ 64) ≡ samples_of z) × Between (pos 1) (pos 8) (samples_of z)
unfolding samples_of
shifted (pos zero) h = (refl, (omega (arith, ints), omega (arith, ints)))
shifted (pos (suc zero)) h = (refl, (omega (arith, ints), omega (arith, ints)))
shifted (pos (suc (suc zero))) h = (refl, (omega (arith, ints), omega (arith, ints)))
shifted (pos (suc (suc (suc zero)))) h = (refl, (omega (arith, ints), omega (arith, ints)))
shifted (pos (suc (suc (suc (suc n))))) h = absurd (omega (arith, ints))
shifted (negsuc n) h = absurd (omega (arith, ints))

pub returns : goal.returns
returns c = let s = shifted c.args.oss c.requires in record { value = s.0; range = rw s.0 s.1 }
