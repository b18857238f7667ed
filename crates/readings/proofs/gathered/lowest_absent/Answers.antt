use Rattle.std.proofs.Common.{◌≡◌, false, true, is_some, sym, arith, rules, tests}
use Rattle.std.proofs.lemmas.Iterator.{first_from_Range}
use Rattle.layout.specs.Held.{pairs_of}
use Rattle.layout.specs.PairLists.{value_of}
use Rattle.readings.proofs.Looked.{lowest_found}
use Rattle.readings.proofs.gathered.lowest_absent.Goals as goal

pub returns : goal.returns
returns c =
    let ps = pairs_of c.args.pairs.now in
    let found =
    first_from_Range _ _ _ _ (λ k. is_some (value_of ps k) ≡ false) (λ k. is_some (value_of ps k) ≡ true) c.find.ensures.ran
    (λ x q k. grind (arith, tests))
    (λ x q k. (search rules, grind (arith, tests)))
    in
    sym (lowest_found ps c.find.result found)
