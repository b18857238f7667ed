-- CRC-16 with the polynomial 1021 hex, started at FFFF hex, not reflected and not inverted at the end.
use Rattle.std.specs.Prelude.{ℕ, zero, suc, ◌*◌, ◌%◌, cond, List, fold, bit_xor, nat_lt}

-- the register shifted left by one bit, less the polynomial where a one was shifted out
unfoldable pub shift : ℕ → ℕ
shift r = cond (nat_lt r 0x8000) (r * 2) (bit_xor (r * 2 % 65536) 0x1021)

-- n such shifts
abbrev pub shifts : ℕ → ℕ → ℕ
shifts zero r = r
shifts (suc n) r = shift (shifts n r)

-- one byte more
unfoldable pub feed : ℕ → ℕ → ℕ
feed r b = shifts 8 (bit_xor r (b * 256))

-- the CRC of a list of bytes
unfoldable pub crc : List ℕ → ℕ
crc bs = fold feed 0xffff bs
