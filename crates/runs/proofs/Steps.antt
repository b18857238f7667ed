-- Steps in a table, by their places.
use Rattle.std.proofs.Common.{◌≡◌, ℕ, ◌<◌, List, length, get_or, set, Some, None, Option, sym, ap, ◌∙◌}
use Rattle.std.proofs.lemmas.List.{get_or-map, map-set, set-get_or}
use Rattle.store.specs.declared.steps.Step.{Step}
use Rattle.store.specs.declared.steps.StepNumbers.{StepNumbers}
use Rattle.runs.specs.Held.{numbers_in, step_numbers, StepTaken}

by_result : (ss ks : List (Option StepNumbers)) (i : ℕ) (o : Option Step) → numbers_in o ≡ get_or ss i None → ks ≡ set ss i None → StepTaken ss i o ks
by_result ss ks i None e k = (sym e, k ∙ ap (set ss i) e ∙ set-get_or ss i None)
by_result ss ks i (Some st) e k = (sym e, k)

-- the step at a place is taken out
pub taken_at : (ss : List (Option Step)) (i : ℕ) (o d after : Option Step) → i < length ss → o ≡ get_or ss i d → after ≡ None → StepTaken (step_numbers ss) i o (step_numbers (set ss i after))
taken_at ss i o d after h e none =
    by_result (step_numbers ss) (step_numbers (set ss i after)) i o (ap numbers_in e ∙ sym (get_or-map numbers_in ss i d None h))
    (map-set numbers_in ss i after ∙ ap (λ (x : Option Step). set (step_numbers ss) i (numbers_in x)) none)
