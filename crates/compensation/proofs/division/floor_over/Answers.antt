use Rattle.std.proofs.Common.{◌∙◌, w64, SFits}
use Rattle.std.proofs.lemmas.Int.{to_z-of_z}
use Rattle.compensation.proofs.division.floor_over.Goals as goal
use Rattle.compensation.proofs.Floor.{over_positive, above, bound_floor}

pub returns : goal.returns
returns c =
    let fa = c.ranges.n in
    let fn = c.ranges.d in
    let fr : SFits w64 c.euclidean.result = record { sfits = c.euclidean.type_inv } in
    let u = simp to_z-of_z at c.euclidean.ensures in
    let v = u ∙ over_positive c.args.n c.args.d c.requires in
    let law = above c.args.n c.args.d c.requires in
    record {
      value = simp to_z-of_z v;
      bound = λ m p. simp to_z-of_z (rw v (bound_floor c.args.n c.args.d m c.requires p));
      low = simp to_z-of_z (rw v law.low);
      high = simp to_z-of_z (rw v law.high);
    }
