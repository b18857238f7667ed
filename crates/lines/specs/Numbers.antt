-- Decimal numbers.
use Rattle.std.specs.Prelude.{ℕ, ◌+◌, ◌-◌, ◌*◌, Bool, false, cond, ◌&&◌, List, [], ◌∷◌, ℤ, pos, neg_ℤ, Some, None, Option, ◌==◌, nat_le}
use Rattle.std.specs.Option.{option_map}
use Rattle.std.specs.Str.{all_ascii_digits}

-- the number that digits write when they follow those of n; the byte of a digit is its value and 48
abbrev pub value_after : ℕ → List ℕ → ℕ
value_after n [] = n
value_after n (b ∷ bs) = value_after (n * 10 + (b - 48)) bs

-- one digit or more and nothing else
abbrev pub is_decimal : List ℕ → Bool
is_decimal [] = false
is_decimal (b ∷ bs) = all_ascii_digits (b ∷ bs)

-- the number that a word writes, if it is one of at most `most`
abbrev pub unsigned_of : ℕ → List ℕ → Option ℕ
unsigned_of most bs = cond (is_decimal bs && nat_le (value_after 0 bs) most) (Some (value_after 0 bs)) None

-- the same of 32 bits with a sign: at least -2^31 after a minus sign (45), else at most 2^31 - 1
abbrev pub signed_of : List ℕ → Option ℤ
signed_of [] = None
signed_of (b ∷ bs) = cond (b == 45) (option_map (λ n. neg_ℤ (pos n)) (unsigned_of 2147483648 bs)) (option_map pos (unsigned_of 2147483647 (b ∷ bs)))
