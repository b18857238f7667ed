use Rattle.std.proofs.Common.{◌≡◌, ◌^◌, pos, ◌*ℤ◌, nat_abs, sym, ap, ◌∙◌, arith, w64, SFits}
use Rattle.std.proofs.lemmas.Nat.{pow-add}
use Rattle.std.proofs.lemmas.Int.{ints, to_z-of_z}
use Rattle.compensation.proofs.Bounds.{bounds}
use Rattle.compensation.specs.Formulas.{samples_of, up_limit_of}
use Rattle.compensation.proofs.calibration.Calibration.up_limit.Goals as goal

pub samples-requires : goal.samples-requires
samples-requires c = let oss = (bounds c.args.self.now).oss in omega (arith, ints)

pub returns-clause-value : goal.returns-clause-value
unfolding samples_of up_limit_of
returns-clause-value c =
    let k = c.args.self.now.values in
    let oss = (bounds c.args.self.now).oss in
    let fo : SFits w64 k.oss = omega (arith, ints) in
    let r : SFits w64 c.samples.result = record { sfits = c.samples.type_inv } in
    let f : SFits w64 (pos 65536 *ℤ c.samples.result) = omega (arith, ints) in
    let v = simp to_z-of_z at c.samples.ensures.value in
    let e : pos 65536 *ℤ c.samples.result ≡ pos (2 ^ 16) *ℤ pos (2 ^ nat_abs k.oss) = ap (λ z. pos 65536 *ℤ z) v in
    simp to_z-of_z (e ∙ ap pos (sym (pow-add 2 16 (nat_abs k.oss))))
