-- A unit of the store: 48 bits of content and, below them, 16 bits of CRC.
use Rattle.std.specs.Prelude.{ℕ, ◌+◌, ◌*◌, ◌/◌, ◌%◌, List, [], ◌∷◌}
use Rattle.layout.specs.Crc.{crc}

-- the six bytes of a number of 48 bits, highest first
abbrev pub six_bytes : ℕ → List ℕ
six_bytes n =
    (n / 1099511627776 % 256) ∷ (n / 4294967296 % 256) ∷ (n / 16777216 % 256) ∷ (n / 65536 % 256) ∷ (n / 256 % 256)
    ∷ (n % 256) ∷ []

-- the CRC that belongs to a content
unfoldable pub crc_of : ℕ → ℕ
crc_of n = crc (six_bytes n)

-- a content with its CRC
unfoldable pub sealed : ℕ → ℕ
sealed n = n * 65536 + crc_of n

-- a content: b0, b1, and b2 to b5 as one number
unfoldable pub content : ℕ → ℕ → ℕ → ℕ
content mark second word = mark * 1099511627776 + second * 4294967296 + word
