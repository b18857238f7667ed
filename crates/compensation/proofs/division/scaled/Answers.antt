use Rattle.std.proofs.Common.{◌*◌, w64, SFits}
use Rattle.std.proofs.lemmas.Int.{to_z-of_z}
use Rattle.compensation.proofs.Floor.{size_floor}
use Rattle.compensation.proofs.division.scaled.Goals as goal

pub returns-clause-size : goal.returns-clause-size
returns-clause-size c =
    let ft : SFits w64 c.times.result = record { sfits = c.times.type_inv } in
    let fr : SFits w64 c.floor_over.result = record { sfits = c.floor_over.type_inv } in
    let fd = c.ranges.d in
    let w = simp to_z-of_z at c.floor_over.ensures.value in
    simp to_z-of_z (rw w (size_floor c.times.result c.args.d 1152921504606846976 c.times.ensures.size))

pub returns-clause-bound : goal.returns-clause-bound
returns-clause-bound c =
    let ft : SFits w64 c.times.result = record { sfits = c.times.type_inv } in
    let fr : SFits w64 c.floor_over.result = record { sfits = c.floor_over.type_inv } in
    let fa = c.ranges.a in
    let fb = c.ranges.b in
    let fd = c.ranges.d in
    let b = simp to_z-of_z at c.floor_over.ensures.bound in
    let d = simp to_z-of_z at c.times.ensures.bound in
    λ m k p q. simp to_z-of_z (b (m * k) (d m k p q))
