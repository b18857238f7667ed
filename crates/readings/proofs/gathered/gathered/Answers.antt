use Rattle.std.proofs.Common.{◌≡◌, true, false, sym, ap, ◌∙◌}
use Rattle.std.proofs.lemmas.Bool.{both_ways, some_since}
use Rattle.layout.specs.Held.{pairs_of}
use Rattle.compensation.specs.Admitted.{admitted_set}
use Rattle.readings.proofs.Admitted.{gathered_admitted}
use Rattle.readings.proofs.gathered.gathered.Goals as goal

pub unwrap-requires : goal.unwrap-requires
unwrap-requires c =
    let pairs = c.args.pairs.now in
    let v = c.coefficients_of.result in
    let yes : admitted_set v ≡ true = ap admitted_set c.coefficients_of.ensures ∙ gathered_admitted (pairs_of pairs) (sym c.in_default.ensures) pairs.ok in
    some_since c.new.result (admitted_set v ≡ false) (λ k. (admitted_set v ≡ true) × (k.values ≡ v)) c.new.ensures (λ no. both_ways (admitted_set v) no yes)
