use Rattle.std.proofs.Common.{◌≡◌, ◌∷◌, List, ◌++◌, map, vec_items, sym, ap, ◌∙◌}
use Rattle.std.proofs.lemmas.List.{append-nil}
use Rattle.runs.specs.declared.requests.Request.TheVariants.{Recover, Commit}
use Rattle.layout.specs.declared.meanings.Pair.{Pair}
use Rattle.figures.specs.Figures.{example_pairs}
use Rattle.every_cut.specs.Asked.{get_request, last_requests}
use Rattle.every_cut.proofs.asking.add_last_requests.Goals as goal

pub returns : goal.returns
unfolding last_requests
returns c =
    let given = c.loop-key.yielded in
    let all : given ≡ example_pairs =
    sym (append-nil given) ∙ ap (λ (ps : List Pair). given ++ ps) (sym c.in-None.ensures.steps.0) ∙ c.loop-key.invariant.rest in
    c.loop-key.invariant.requests ∙ ap (λ (ps : List Pair). vec_items c.args.requests.now ++ Commit c.args.ticket ∷ Recover ∷ map get_request ps) all
