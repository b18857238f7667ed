use Rattle.std.proofs.Common.{◌≡◌, ℕ, ◌<◌, ◌≤◌, true, List, [], map, length, get_or, ℤ, pos, to_z, of_z, w32, sym, refl, ap, ◌∙◌, arith}
use Rattle.std.proofs.lemmas.List.{take_all, get_or-map}
use Rattle.std.proofs.lemmas.List.Sums.{fold_more}
use Rattle.std.proofs.lemmas.Bool.{cond-true}
use Rattle.layout.specs.declared.meanings.Pair.{Pair}
use Rattle.layout.specs.Held.{pairs_of}
use Rattle.layout.specs.PairLists.{with_pair, merged, all_admitted}
use Rattle.layout.specs.Catalogue.{admits, pair_of}
use Rattle.layout.proofs.Paired.{no_pair}
use Rattle.layout.proofs.WellFormed.{admitted_at}
use Rattle.every_cut.specs.Asked.{second_pairs}
use Rattle.every_cut.specs.declared.calibrations.TheConstants.{SECOND}
use Rattle.every_cut.proofs.calibrations.second_pairs.Goals as goal

all : all_admitted second_pairs ≡ true
unfolding admits second_pairs
all = refl

-- a key with its value, which has 32 bits, as a pair
abbrev pair_from : ℕ × ℤ → Pair
pair_from p = pair_of p.0 (to_z w32 (of_z w32 p.1))

listed : map pair_from SECOND ≡ second_pairs
unfolding second_pairs
listed = refl

at : (i : ℕ) → i < 11 → pair_from (get_or SECOND i (0, pos 0)) ≡ get_or second_pairs i no_pair
at i h =
    sym (get_or-map pair_from SECOND i (0, pos 0) no_pair h) ∙ ap (λ (qs : List Pair). get_or qs i no_pair) listed

eleven : length second_pairs ≡ 11
unfolding second_pairs
eleven = refl

pub loop-key-preserved : goal.loop-key-preserved
loop-key-preserved c =
    let i = c.loop-key.key-index in
    let h : i < 11 = c.loop-key-test.true in
    let p = get_or second_pairs i no_pair in
    let here = at i h in
    let more : i < length second_pairs = omega (arith, eleven, h) in
    let e : pairs_of c.lay.new.self ≡ with_pair p (pairs_of c.loop-key.pairs) =
    c.lay.ensures.pairs ∙ cond-true _ _ _ (ap admits here ∙ admitted_at second_pairs i no_pair more all)
    ∙ ap (λ (q : Pair). with_pair q (pairs_of c.loop-key.pairs)) here in
    e ∙ ap (with_pair p) c.loop-key.invariant ∙ sym (fold_more (λ ps (q : Pair). with_pair q ps) [] second_pairs i no_pair more)

rising : merged [] second_pairs ≡ second_pairs
unfolding second_pairs
rising = refl

pub returns : goal.returns
returns c =
    let past : length second_pairs ≤ c.loop-key.key-index = omega (arith, eleven, c.loop-key-test.false) in
    c.loop-key.invariant ∙ ap (merged []) (take_all c.loop-key.key-index second_pairs past) ∙ rising
