use Rattle.std.proofs.Common.{rules}
use Rattle.compensation.specs.Admitted.{admitted_set, signed_word, unsigned_word, oversampling, correction}
use Rattle.compensation.proofs.Ranges.{passed}
use Rattle.compensation.proofs.calibration.are_admitted.Goals as goal

pub returns : goal.returns
unfolding admitted_set
returns c =
    let k = c.args.k.now in
    let ac1 = passed signed_word k.ac1 c.is_signed_word.result (search rules) c.is_signed_word.ensures in
    let ac2 = passed signed_word k.ac2 c.is_signed_word-2.result (search rules) c.is_signed_word-2.ensures in
    let ac3 = passed signed_word k.ac3 c.is_signed_word-3.result (search rules) c.is_signed_word-3.ensures in
    let ac4 = passed unsigned_word k.ac4 c.is_unsigned_word.result (search rules) c.is_unsigned_word.ensures in
    let ac5 = passed unsigned_word k.ac5 c.is_unsigned_word-2.result (search rules) c.is_unsigned_word-2.ensures in
    let ac6 = passed unsigned_word k.ac6 c.is_unsigned_word-3.result (search rules) c.is_unsigned_word-3.ensures in
    let b1 = passed signed_word k.b1 c.is_signed_word-4.result (search rules) c.is_signed_word-4.ensures in
    let b2 = passed signed_word k.b2 c.is_signed_word-5.result (search rules) c.is_signed_word-5.ensures in
    let mb = passed signed_word k.mb c.is_signed_word-6.result (search rules) c.is_signed_word-6.ensures in
    let mc = passed signed_word k.mc c.is_signed_word-7.result (search rules) c.is_signed_word-7.ensures in
    let md = passed signed_word k.md c.is_signed_word-8.result (search rules) c.is_signed_word-8.ensures in
    let oss = passed oversampling k.oss c.is_oversampling.result (search rules) c.is_oversampling.ensures in
    let pcor = passed correction k.pcor c.is_correction.result (search rules) c.is_correction.ensures in
    cc
