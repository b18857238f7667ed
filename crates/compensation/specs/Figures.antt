-- The worked example of the chip's datasheet, and the ends of the temperature's range.
use Rattle.std.specs.Prelude.{◌≡◌, ℤ, pos, negsuc, Ok, Err}
use Rattle.compensation.specs.declared.coefficients.Coefficients.{Coefficients}
use Rattle.compensation.specs.declared.readings.ReadingRefusal.TheVariants.{Temperature}
use Rattle.compensation.specs.Formulas.{t_from_b5, temperature_of, pressure_of}

-- the datasheet's coefficients; OSS and PCOR 0
abbrev pub example : Coefficients
example =
    record {
      ac1 = pos 408;
      ac2 = negsuc 71;
      ac3 = negsuc 14382;
      ac4 = pos 32741;
      ac5 = pos 32757;
      ac6 = pos 23153;
      b1 = pos 6190;
      b2 = pos 4;
      mb = negsuc 32767;
      mc = negsuc 8710;
      md = pos 2868;
      oss = pos 0;
      pcor = pos 0;
    }

-- the datasheet's raw temperature and raw pressure
abbrev pub example_ut : ℤ
example_ut = pos 27898

abbrev pub example_up : ℤ
example_up = pos 23843

pub record CompensationFigures : Type 0 where
  -- UT 27898: X1 4743, X2 -2344, B5 2399, T 150
  pub temperature : temperature_of example example_ut ≡ Ok (record { x1 = pos 4743; x2 = negsuc 2343; b5 = pos 2399; t = pos 150 })
  -- UP 23843 at that B5: B3 422, B4 33457, B7 1171050000, p 70003, P 69964
  pub pressure :
      pressure_of example (pos 2399) example_up
      ≡ Ok
      (record {
        balance = record { b6 = negsuc 1600; s = pos 625; x3 = pos 57; b3 = pos 422; y3 = pos 717; b4 = pos 33457 };
        b7 = pos 1171050000;
        p = pos 70003;
        pa = pos 69964;
      })
  -- B5 13607 gives T 850 and -6408 gives -400; one further on either side is refused
  pub hottest : t_from_b5 (pos 13607) ≡ Ok (pos 850)
  pub coldest : t_from_b5 (negsuc 6407) ≡ Ok (negsuc 399)
  pub too_hot : t_from_b5 (pos 13608) ≡ Err Temperature
  pub too_cold : t_from_b5 (negsuc 6408) ≡ Err Temperature
