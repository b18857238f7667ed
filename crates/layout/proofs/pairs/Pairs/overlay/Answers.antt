use Rattle.std.proofs.Common.{◌≡◌, true, [], ◌∷◌, ◌++◌, sym, ap, ◌∙◌}
use Rattle.std.proofs.lemmas.List.{append_assoc}
use Rattle.std.proofs.lemmas.List.Sums.{fold_push}
use Rattle.std.proofs.lemmas.Bool.{cond-true}
use Rattle.layout.specs.Catalogue.{admits}
use Rattle.layout.specs.PairLists.{all_admitted, with_pair}
use Rattle.layout.specs.Tables.{pairs_in}
use Rattle.layout.specs.Held.{pairs_left}
use Rattle.layout.specs.declared.meanings.Pair.{Pair}
use Rattle.layout.proofs.WellFormed.{admitted_among, well_formed_parts}
use Rattle.layout.proofs.pairs.Pairs.overlay.Goals as goal

pub loop-pair-preserved : goal.loop-pair-preserved
loop-pair-preserved c =
    let others = pairs_in c.args.other.now.table in
    let given = c.loop-pair.yielded in
    let p = c.in-Some.pair in
    let left = pairs_left c.next.new.self in
    let rest : given ++ p ∷ left ≡ others = ap (λ ps. given ++ ps) (sym c.in-Some.ensures.steps) ∙ c.loop-pair.invariant.rest in
    let ok : admits p ≡ true = admitted_among given p left (ap all_admitted rest ∙ (well_formed_parts others c.args.other.now.ok).1) in
    record {
      laid =
          c.lay.ensures.pairs ∙ cond-true _ _ _ ok ∙ ap (with_pair p) c.loop-pair.invariant.laid
          ∙ sym (fold_push (λ ps (q : Pair). with_pair q ps) (pairs_in c.args.self.now.table) given p);
      rest = append_assoc given (p ∷ []) left ∙ rest;
    }
