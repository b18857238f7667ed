use Rattle.std.proofs.Common.{◌≡◌, ℕ, Result, Ok, Err, IsOk, MatchResult, refl, ◌∙◌}
use Rattle.simulator.specs.Shapes.{shape_number}
use Rattle.simulator.specs.declared.simulators.Simulator.{Simulator}
use Rattle.simulator.specs.declared.simulators.makes.NotMade.{NotMade}
use Rattle.simulator.specs.declared.shapes.ShapeFault.{ShapeFault}
use Rattle.simulator.specs.declared.shapes.ShapeFault.TheVariants.{Shape, Length}
use Rattle.session.proofs.sessions.Session.blank.Goals as goal

some_number : (f : ShapeFault) → shape_number f ≡ 0 → ⊥
some_number Shape e = cc
some_number Length e = cc

-- what is refused with no number is made
made : (r : Result Simulator NotMade) (n : ℕ) → n ≡ 0 → MatchResult r (λ s. n ≡ 0) (λ e. shape_number e.fault ≡ n) → IsOk r
made (Ok s) n none h = refl
made (Err e) n none h = absurd (some_number e.fault (h ∙ none))

pub unwrap-flash-requires : goal.unwrap-flash-requires
unwrap-flash-requires c = made c.new.result _ (rw c.in_ok-table.ensures.len) c.new.ensures.refusal
