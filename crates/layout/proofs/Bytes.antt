-- The bytes of a unit's value and of its content.
use Rattle.std.proofs.Common.{◌≡◌, ℕ, ◌+◌, ◌*◌, ◌/◌, ◌%◌, ◌^◌, ◌<◌, List, [], ◌∷◌, ap, ◌∙◌, arith}
use lib.Bits.{bit_and, bit_or}
use Rattle.std.proofs.lemmas.Nat.{and_mask, shr-shr, or_shifted, shl_whole}
use Rattle.layout.specs.Contents.{six_bytes, content}

-- the six high bytes of a value are those of its content
pub high_six : (v : ℕ) →
    ◌≡◌ {A = List ℕ} (v / 72057594037927936 % 256 ∷ v / 281474976710656 % 256 ∷ v / 1099511627776 % 256
    ∷ v / 4294967296 % 256 ∷ v / 16777216 % 256 ∷ v / 65536 % 256 ∷ [])
    (six_bytes (v / 65536))
high_six v =
    cc (shr-shr v 16 40, shr-shr v 16 32, shr-shr v 16 24, shr-shr v 16 16, shr-shr v 16 8)

-- `x << k | y` at 64 bits, where nothing is lost and the two do not meet
pub shl_or : (a j k b : ℕ) → a < 2 ^ j → j + k < 65 → b < 2 ^ k →
    bit_or (a * 2 ^ k % 18446744073709551616) b ≡ a * 2 ^ k + b
shl_or a j k b ha hw hb = ap (λ x. bit_or x b) (shl_whole a j k 64 ha (omega arith)) ∙ or_shifted a k b hb

pub content_below : (m s w : ℕ) → m < 256 → s < 256 → w < 2 ^ 32 → content m s w < 2 ^ 48
unfolding content
content_below m s w hm hs hw = omega arith

-- the lowest byte, the lowest 16 bits, and the lowest 32
pub low_byte : (n : ℕ) → bit_and n 255 ≡ n % 256
low_byte n = and_mask n 8

pub low_half : (n : ℕ) → bit_and n 65535 ≡ n % 65536
low_half n = and_mask n 16

pub low_word : (n : ℕ) → bit_and n 4294967295 ≡ n % 4294967296
low_word n = and_mask n 32

pub ruleset masks = (low_byte, low_half, low_word)
