-- The range of each coefficient.
use Rattle.std.specs.Prelude.{Bool, not, ◌&&◌, ℤ, pos, negsuc}
use Rattle.compensation.specs.Ranges.{within}
use Rattle.compensation.specs.declared.coefficients.Coefficients.{Coefficients}

-- AC1 to AC3, B1, B2, MB, MC, MD: -32,768 to 32,767 without 0 and -1, which a chip with a broken memory gives
abbrev pub signed_word : ℤ → Bool
signed_word z = within (negsuc 32767) (pos 32767) z && not (within (negsuc 0) (pos 0) z)

-- AC4 to AC6: 1 to 65,534, for the same reason
abbrev pub unsigned_word : ℤ → Bool
unsigned_word z = within (pos 1) (pos 65534) z

-- OSS: 0 to 3
abbrev pub oversampling : ℤ → Bool
oversampling z = within (pos 0) (pos 3) z

-- PCOR: -500 to 500 Pa
abbrev pub correction : ℤ → Bool
correction z = within (negsuc 499) (pos 500) z

-- every coefficient of a set is in its range
unfoldable pub admitted_set : Coefficients → Bool
admitted_set k =
    signed_word k.ac1 && signed_word k.ac2 && signed_word k.ac3
    && unsigned_word k.ac4 && unsigned_word k.ac5 && unsigned_word k.ac6
    && signed_word k.b1 && signed_word k.b2 && signed_word k.mb && signed_word k.mc && signed_word k.md
    && oversampling k.oss && correction k.pcor
