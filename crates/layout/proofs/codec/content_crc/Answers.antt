use Rattle.std.proofs.Common.{take, ap, ◌∙◌}
use Rattle.layout.specs.Crc.{crc}
use Rattle.layout.specs.Contents.{crc_of}
use Rattle.layout.proofs.Bytes.{high_six}
use Rattle.layout.proofs.codec.content_crc.Goals as goal

pub returns : goal.returns
unfolding crc_of
returns c =
    c.crc16.ensures ∙ ap (λ xs. crc (take 6 xs)) c.to_be_bytes.ensures ∙ ap crc (high_six c.args.value)
