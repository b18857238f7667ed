use Rattle.std.proofs.Common.{arith}
use Rattle.mirror.specs.Mirrored.{mixed, beside}
use Rattle.mirror.specs.Formed.{beside_length}
use Rattle.mirror.proofs.mirrors.MirrorFlash.banks.Goals as goal

pub returns : goal.returns
returns g c =
    let size = beside_length (beside mixed) (g.A.Flash.units c.args.self.now.first) (g.B.Flash.units c.args.self.now.second) in
    record { count = omega arith }
