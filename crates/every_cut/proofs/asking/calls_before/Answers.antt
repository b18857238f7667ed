use Rattle.std.proofs.Common.{◌≡◌, ◌+◌, [], ◌∷◌, ◌++◌, Ok, ◌∙◌}
use Rattle.figures.specs.Figures.{example_pairs}
use Rattle.store.specs.declared.entries.Entry.TheVariants.{Recover as recovered}
use Rattle.runs.specs.declared.requests.Request.TheVariants.{Recover}
use Rattle.every_cut.specs.Cases.{empty_of}
use Rattle.every_cut.specs.Asked.{expected_call, open_calls, repeated_commits, calls_before}
use Rattle.every_cut.proofs.asking.calls_before.Goals as goal

pub returns : goal.returns
unfolding calls_before
returns c =
    let way = c.args.way in
    let whole : c.commit_often.new.calls.items ≡ repeated_commits 4 1 example_pairs =
    c.in_ok-commit_often.ensures ∙ (λ i. c.new-calls.ensures.items i ++ repeated_commits 4 1 (c.example_pairs.ensures.pairs i)) in
    let empty : c.commit_often-2.new.calls.items ≡ repeated_commits 4 1 example_pairs ++ repeated_commits (empty_of way) 5 [] =
    c.in_ok-commit_often-2.ensures ∙ (λ i. whole i ++ repeated_commits (c.empty.ensures i) 5 (c.new.ensures i)) in
    let powered : c.push.new.self.items ≡ repeated_commits 4 1 example_pairs ++ repeated_commits (empty_of way) 5 [] ++ expected_call Recover (recovered (Ok (4 + empty_of way))) ∷ [] =
    c.in_ok-push.ensures.items ∙ (λ i. empty i ++ expected_call Recover (recovered (Ok (4 + c.empty-number.ensures i))) ∷ []) in
    c.in_ok-open.ensures ∙ (λ i. powered i ++ open_calls (4 + c.empty-number.ensures i + 1) (c.second_pairs.ensures i))
