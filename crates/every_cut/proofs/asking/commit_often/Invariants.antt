use Rattle.std.proofs.Common.{◌≡◌, ◌++◌, vec_items}
use Rattle.layout.specs.Held.{pairs_of}
use Rattle.every_cut.specs.Asked.{repeated_commits}
use Rattle.every_cut.proofs.asking.commit_often.Given as goal

abbrev pub invariant-loop-i : goal.invariant-loop-i
invariant-loop-i l =
    vec_items l.calls ≡ vec_items l.initial.calls ++ repeated_commits l.i l.ticket (pairs_of l.pairs)
