-- A CRC has 16 bits.
use Rattle.std.proofs.Common.{ℕ, ◌*◌, ◌%◌, ◌<◌, ltb, arith}
use lib.Bits.{bit_xor}
use Rattle.std.proofs.lemmas.Bool.{cond_both, ltb-true}
use Rattle.std.proofs.lemmas.Nat.{xor_lt}
use Rattle.layout.specs.Crc.{shift, feed, crc, shifts}
use Rattle.layout.specs.Contents.{crc_of}

shift_below : (r : ℕ) → shift r < 65536
unfolding shift
shift_below r =
    cond_both (ltb r 0x8000) (r * 2) (bit_xor (r * 2 % 65536) 0x1021) (λ x. x < 65536)
    (λ e. omega (arith, ltb-true r 0x8000 e))
    (λ e. xor_lt 16 (r * 2 % 65536) 0x1021 (omega arith) (omega arith))

feed_below : (r b : ℕ) → feed r b < 65536
unfolding feed
feed_below r b = shift_below (shifts 7 (bit_xor r (b * 256)))

pub crc_of_below : (n : ℕ) → crc_of n < 65536
unfolding crc_of crc
crc_of_below n = feed_below _ _
