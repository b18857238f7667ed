use Rattle.std.proofs.Common.{refl}
use Rattle.compensation.specs.Admitted.{admitted_set}
use Rattle.compensation.specs.Division.{floor_div}
use Rattle.compensation.specs.Formulas.{x1_of, x2_of, t_of, samples_of, s_of, x3_of, b3_of, y3_of, b4_of, b7_of, p_of, last_correction_of, pa_of, up_limit_of}
use Rattle.compensation.proofs.datasheet.example_calibration.Goals as goal

pub invariant_of-result : goal.invariant_of-result
unfolding admitted_set
invariant_of-result c = record { admitted = refl }

pub returns : goal.returns
unfolding floor_div x1_of x2_of t_of samples_of s_of x3_of b3_of y3_of b4_of b7_of p_of last_correction_of pa_of up_limit_of
returns c =
    record {
      coefficients = refl;
      raw_values = (refl, refl);
      figures = record { temperature = refl; pressure = refl; hottest = refl; coldest = refl; too_hot = refl; too_cold = refl };
    }
