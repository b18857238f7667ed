use Rattle.std.proofs.Common.{◌≡◌, ◌*◌, ◌/◌, ◌%◌, ◌^◌, ◌<◌, ap, ◌∙◌, arith}
use Rattle.layout.specs.Contents.{crc_of, sealed, content}
use Rattle.layout.proofs.Bytes.{shl_or, content_below}
use Rattle.layout.proofs.codec.seal.Goals as goal

pub returns : goal.returns
unfolding sealed
returns c =
    let n = content c.args.mark c.args.second c.args.word in
    let lt : n < 2 ^ 48 = content_below c.args.mark c.args.second c.args.word (omega arith) (omega arith) (omega arith) in
    let q : c.pack-high.result * 65536 % 18446744073709551616 / 65536 ≡ n = omega arith in
    let k : c.from.result ≡ crc_of n = c.from.ensures ∙ c.content_crc.ensures ∙ ap crc_of q in
    shl_or c.pack-high.result 48 16 c.from.result (omega arith) (omega arith) (omega arith) ∙ omega arith
