use Rattle.std.proofs.Common.{pos, ◌-ℤ◌, ◌<ℤ◌, ◌∙◌, arith, w64, SFits}
use Rattle.std.proofs.lemmas.Int.{ints, to_z-of_z}
use Rattle.compensation.proofs.division.floor_div.Goals as goal
use Rattle.compensation.proofs.Floor.{over_negative, size_floor}

pub returns-then-d-gt0-clause-bound : goal.returns-then-d-gt0-clause-bound
returns-then-d-gt0-clause-bound c =
    let fn = c.ranges.n in
    let fd = c.ranges.d in
    let fr : SFits w64 c.floor_over.result = record { sfits = c.floor_over.type_inv } in
    let v = simp to_z-of_z at c.floor_over.ensures.value in
    λ m p. simp to_z-of_z (rw v (size_floor c.args.n c.args.d m p))

pub returns-else-d-gt0 : goal.returns-else-d-gt0
returns-else-d-gt0 c =
    let fn = c.ranges.n in
    let fd = c.ranges.d in
    let h : c.args.d <ℤ pos 0 = omega (arith, ints) in
    let nn : SFits w64 (pos 0 -ℤ c.args.n) = omega (arith, ints) in
    let nd : SFits w64 (pos 0 -ℤ c.args.d) = omega (arith, ints) in
    let fr : SFits w64 c.floor_over-else-d-gt0.result = record { sfits = c.floor_over-else-d-gt0.type_inv } in
    let turned = simp to_z-of_z at c.floor_over-else-d-gt0.ensures.value in
    let v = turned ∙ over_negative c.args.n c.args.d h in
    record {
      value = simp to_z-of_z v;
      bound = λ m p. simp to_z-of_z (rw v (size_floor c.args.n c.args.d m p));
      sign = λ p q. omega (arith, ints);
    }
