use Rattle.std.proofs.Common.{◌≡◌, ℕ, List, [], ◌∷◌, refl, rules}
use Rattle.layout.specs.PairLists.{paired}
use Rattle.layout.proofs.iter.PairsIterIterator.next.Goals as goal

-- keys without values are no pairs
no_values : (ks : List ℕ) → paired ks [] ≡ []
no_values [] = refl
no_values (k ∷ ks) = refl

pub returns-in_err-next-2-clause-steps : goal.returns-in_err-next-2-clause-steps
returns-in_err-next-2-clause-steps c = search (rules, no_values)
