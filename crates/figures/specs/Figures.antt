-- The worked figures, by the definitions that the contracts use.
use Rattle.std.specs.Prelude.{◌≡◌, ℕ, true, List, [], ◌∷◌, ℤ, pos, negsuc, None, Ok, Err}
use Rattle.flash.specs.declared.units.Unit.TheVariants.{Blank, Programmed, Unreadable}
use Rattle.layout.specs.declared.meanings.Pair.{Pair}
use Rattle.layout.specs.Catalogue.{pair_of, admits}
use Rattle.compensation.specs.Figures.{example, example_ut, example_up, CompensationFigures}
use Rattle.readings.specs.Gathered.{lowest_absent, coefficients_of}
use Rattle.store.specs.declared.refusals.Refusal.TheVariants.{NotAdmitted}
use Rattle.store.specs.Refusals.{refusal_number}
use Rattle.store.specs.declared.steps.Line.{Line}
use Rattle.store.specs.declared.steps.StepNumbers.{StepNumbers}
use Rattle.store.specs.Law.{line_answer}
use Rattle.store.specs.Readings.{refusal_of, temperature_answer, pressure_answer}
use Rattle.compensation.specs.declared.readings.ReadingRefusal.TheVariants.{Temperature}
use Rattle.store.specs.Changes.{put_answer}
use Rattle.mirror.specs.Mirrored.{mixed}

-- the datasheet's coefficients AC1 to MD as pairs, keys 1 to 11; OSS and PCOR are absent
abbrev pub example_pairs : List Pair
example_pairs =
    pair_of 1 (pos 408) ∷ pair_of 2 (negsuc 71) ∷ pair_of 3 (negsuc 14382) ∷ pair_of 4 (pos 32741) ∷ pair_of 5 (pos 32757) ∷ pair_of 6 (pos 23153)
    ∷ pair_of 7 (pos 6190) ∷ pair_of 8 (pos 4) ∷ pair_of 9 (negsuc 32767) ∷ pair_of 10 (negsuc 8710) ∷ pair_of 11 (pos 2868) ∷ []

-- what the datasheet's measurement comes to in a store with number n: B5 and T, then T and P
abbrev pub example_step : ℕ → StepNumbers
example_step n = record { b5 = pos 2399; t = pos 150; number = n }

abbrev pub example_line : Line
example_line = record { t = pos 150; p = pos 69964 }

pub record WorkedFigures : Type 0 where
  -- the datasheet's measurement, and the limits of B5
  pub compensation : CompensationFigures
  -- the pairs above lack no key and give the datasheet's coefficients, OSS and PCOR 0
  pub complete : lowest_absent example_pairs ≡ None
  pub gathered : coefficients_of example_pairs ≡ example
  -- so a store that holds them, whatever its number, answers UT with that step, and this step and
  -- UP with that line; and it is the line that the law over runs calls for
  pub step : (n : ℕ) → temperature_answer example_pairs n example_ut ≡ Ok (example_step n)
  pub line : (n : ℕ) →
      pressure_answer example_pairs n (example_step n) example_up ≡ Ok example_line
  pub line_by_law : (n : ℕ) →
      line_answer example_pairs n example_ut (example_step n) example_up ≡ Ok example_line
  -- AC4 takes 65534, the greatest, and a put of it alone answers 1
  pub greatest_ac4 : admits (pair_of 4 (pos 65534)) ≡ true
  pub ac4_put : put_answer [] (pair_of 4 (pos 65534)) ≡ Ok 1
  -- AC4 = 65535 and MB = -1 are refused, whatever the change, and that refusal is 8
  pub ac4_refused : (change : List Pair) → put_answer change (pair_of 4 (pos 65535)) ≡ Err NotAdmitted
  pub mb_refused : (change : List Pair) → put_answer change (pair_of 9 (negsuc 0)) ≡ Err NotAdmitted
  pub refused_with_8 : refusal_number NotAdmitted ≡ 8
  -- a B5 beside the limits is refused for its temperature, and that refusal is 15
  pub refused_with_15 : refusal_number (refusal_of Temperature) ≡ 15
  -- a mirror's unit that is blank on the first side and has a value on the second is unreadable; the other way round it has the value
  pub mirrored : (v : ℕ) → mixed Blank (Programmed v) ≡ Unreadable
  pub mirrored_first : (v : ℕ) → mixed (Programmed v) Blank ≡ Programmed v
