use Rattle.std.proofs.Common.{◌+◌, ◌*◌, arith}
use Rattle.layout.specs.Contents.{content}
use Rattle.layout.proofs.Bytes.{shl_or}
use Rattle.layout.proofs.codec.pack.Goals as goal

pub returns : goal.returns
unfolding content
returns c =
    let m = c.from.result in
    let s = c.from-2.result in
    let w = c.from-3.result in
    let one = shl_or m 8 8 s (omega arith) (omega arith) (omega arith) in
    let two = shl_or (m * 256 + s) 16 32 w (omega arith) (omega arith) (omega arith) in
    rw one (rw two (omega arith))
