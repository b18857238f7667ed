-- Readings as text.
use Rattle.std.specs.Prelude.{ℕ, suc, ◌/◌, ◌%◌, List, ◌++◌, ℤ, pos, negsuc, codes, decimal}

-- n tenths with one decimal: 150 is 15.0
abbrev pub with_point : ℕ → List ℕ
with_point n = decimal (n / 10) ++ (codes "." ++ decimal (n % 10))

-- a minus sign before the size of a number below 0: -5 is -0.5, -27 is -2.7
abbrev pub tenths_text : ℤ → List ℕ
tenths_text (pos n) = with_point n
tenths_text (negsuc n) = codes "-" ++ with_point (suc n)
