-- The coefficients that a list of pairs gives.
use Rattle.std.specs.Prelude.{ℕ, zero, suc, List, ℤ, pos, Some, None, Option}
use Rattle.layout.specs.declared.meanings.Pair.{Pair}
use Rattle.layout.specs.PairLists.{value_of}
use Rattle.compensation.specs.declared.coefficients.Coefficients.{Coefficients}

-- a value, or where it is absent 0
abbrev pub or_zero : Option ℤ → ℤ
or_zero None = pos 0
or_zero (Some v) = v

-- k where it has no value, else the other
abbrev pub absent_or : Option ℤ → ℕ → Option ℕ → Option ℕ
absent_or None k other = Some k
absent_or (Some v) k other = other

-- the lowest key without a value among n keys from k on
abbrev pub lowest_absent_from : ℕ → ℕ → List Pair → Option ℕ
lowest_absent_from zero k ps = None
lowest_absent_from (suc n) k ps = absent_or (value_of ps k) k (lowest_absent_from n (suc k) ps)

-- the lowest of the keys 1 to 11 without a value: AC1 to MD, all of which a reading needs (MB too, though no formula uses it)
abbrev pub lowest_absent : List Pair → Option ℕ
lowest_absent ps = lowest_absent_from 11 1 ps

-- the values by their keys; OSS and PCOR, keys 12 and 13, stand for 0 where they are absent
unfoldable pub coefficients_of : List Pair → Coefficients
coefficients_of ps =
    record {
      ac1 = or_zero (value_of ps 1);
      ac2 = or_zero (value_of ps 2);
      ac3 = or_zero (value_of ps 3);
      ac4 = or_zero (value_of ps 4);
      ac5 = or_zero (value_of ps 5);
      ac6 = or_zero (value_of ps 6);
      b1 = or_zero (value_of ps 7);
      b2 = or_zero (value_of ps 8);
      mb = or_zero (value_of ps 9);
      mc = or_zero (value_of ps 10);
      md = or_zero (value_of ps 11);
      oss = or_zero (value_of ps 12);
      pcor = or_zero (value_of ps 13);
    }
