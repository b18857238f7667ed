-- Numbers in a list of bytes, highest byte first.
use Rattle.std.specs.Prelude.{ℕ, zero, suc, ◌+◌, ◌*◌, ◌/◌, ◌%◌, List, slice_index, slice_set}

-- the number that the n bytes from place i on spell; the remainder keeps each below 256, as every byte of a buffer is
unfoldable pub be_at : List ℕ → ℕ → ℕ → ℕ
be_at bs i zero = 0
be_at bs i (suc n) = be_at bs i n * 256 + slice_index bs (i + n) % 256

-- the bytes with v written into the n places from i on: its lowest byte last, the rest of it before that
unfoldable pub with_be : List ℕ → ℕ → ℕ → ℕ → List ℕ
with_be bs i zero v = bs
with_be bs i (suc n) v = with_be (slice_set bs (i + n) (v % 256)) i n (v / 256)

-- the bytes with zeros in the n places from i on
unfoldable pub with_zeros : List ℕ → ℕ → ℕ → List ℕ
with_zeros bs i zero = bs
with_zeros bs i (suc n) = slice_set (with_zeros bs i n) (i + n) 0
