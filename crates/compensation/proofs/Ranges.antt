-- The tests of the definitions, from the facts that the code has.
use Rattle.std.proofs.Common.{◌≡◌, Bool, true, false, ◌&&◌, ℤ, pos, ◌≤ℤ◌, ◌<ℤ◌, arith, w64, SFits, to_z, of_z}
use lib.Signed.{le_z, lt_z}
use borrow.Author.Differences.{ints}
use Rattle.std.proofs.lemmas.Int.{to_z-of_z}
use Rattle.std.specs.Ordering.{int_cmp, is_le, is_lt}
use Rattle.compensation.specs.Ranges.{within}

pub is_zero : (z : ℤ) → z ≡ pos 0 → within (pos 0) (pos 0) z ≡ true
is_zero z e = grind (arith, ints)

pub not_zero : (z : ℤ) → (z ≡ pos 0 → ⊥) → within (pos 0) (pos 0) z ≡ false
not_zero z n = grind (arith, ints)

pub at_most : (a b : ℤ) → a ≤ℤ b → le_z a b ≡ true
at_most a b h = grind (arith, ints)

-- two tests in a row
pub both : (a b c d : ℤ) → a ≤ℤ b → c <ℤ d → (le_z a b && lt_z c d) ≡ true
both a b c d p q = grind (arith, ints)

-- what the library's test of a half-open range says
pub from_le : (a b : ℤ) → is_le (int_cmp a b) ≡ true → a ≤ℤ b
from_le a b h = grind (arith, ints)

pub from_lt : (a b : ℤ) → is_lt (int_cmp a b) ≡ true → a <ℤ b
from_lt a b h = grind (arith, ints)

-- a test of a number that was handed to a function
pub passed : (f : ℤ → Bool) (z : ℤ) (r : Bool) → SFits w64 z → r ≡ f (to_z w64 (of_z w64 z)) → r ≡ f z
passed f z r fits e = rw to_z-of_z at e
