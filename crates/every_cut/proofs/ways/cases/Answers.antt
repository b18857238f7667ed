use Rattle.std.proofs.Common.{◌≡◌, ℕ, ◌+◌, ◌++◌, List, vec_items, sym, ap, ◌∙◌, arith, add-one}
use Rattle.every_cut.specs.declared.ways.Case.{Case}
use Rattle.every_cut.specs.Cases.{cases_at, cases_below}
use Rattle.every_cut.proofs.ways.cases.Goals.{else-loop-charge-test, then-loop-charge-test+in_ok-add_cases+else-charge-charge-end}
use Rattle.every_cut.proofs.ways.cases.Goals as goal

-- the cases of one charge more
more : (n : ℕ) (before after : List Case) → before ≡ cases_below n → after ≡ before ++ cases_at n → after ≡ cases_below (n + 1)
unfolding cases_below
more n before after e d = d ∙ ap (λ (cs : List Case). cs ++ cases_at n) e ∙ sym (ap cases_below (add-one n))

pub loop-charge-init : goal.loop-charge-init
unfolding cases_below
loop-charge-init c = c.new-cases.ensures.items

pub loop-charge-preserved : goal.loop-charge-preserved
loop-charge-preserved c = more c.loop-charge.charge (vec_items c.loop-charge.cases) (vec_items c.add_cases.new.cases) c.loop-charge.invariant c.in_ok-add_cases.ensures

pub returns : goal.returns
returns c =
    elim c.loop-charge-test.branch [
      | else-loop-charge-test w ↦ absurd (omega arith)
      | then-loop-charge-test+in_ok-add_cases+else-charge-charge-end w ↦
          ap vec_items w.cases-is ∙ more c.loop-charge.charge (vec_items c.loop-charge.cases) _ c.loop-charge.invariant w.in_ok-add_cases.ensures ∙ ap cases_below (omega (arith, c.writes-charge-end.ensures))
    ]
