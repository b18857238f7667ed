-- Temperature and pressure by standing pairs and the store's number.
use Rattle.std.specs.Prelude.{ℕ, cond, List, ℤ, pos, Some, None, Ok, Err, Option, Result, ◌==◌}
use Rattle.layout.specs.declared.meanings.Pair.{Pair}
use Rattle.compensation.specs.Ranges.{within}
use Rattle.compensation.specs.Formulas.{temperature_at, pressure_of}
use Rattle.compensation.specs.declared.readings.WorkedTemperature.{WorkedTemperature}
use Rattle.compensation.specs.declared.readings.WorkedPressure.{WorkedPressure}
use Rattle.compensation.specs.declared.readings.ReadingRefusal.{ReadingRefusal}
use Rattle.compensation.specs.declared.readings.ReadingRefusal.TheVariants.{RawValue as raw_value, Temperature as no_temperature, Pressure as no_pressure}
use Rattle.readings.specs.Gathered.{lowest_absent, coefficients_of}
use Rattle.store.specs.declared.refusals.Refusal.{Refusal}
use Rattle.store.specs.declared.refusals.Refusal.TheVariants.{RawValue, Absent, OldStep, NoTemperature, NoPressure}
use Rattle.store.specs.declared.steps.StepNumbers.{StepNumbers}
use Rattle.store.specs.declared.steps.Line.{Line}

-- 12, 15 and 16
abbrev pub refusal_of : ReadingRefusal → Refusal
refusal_of raw_value = RawValue
refusal_of no_temperature = NoTemperature
refusal_of no_pressure = NoPressure

-- 13, with the lowest key that is absent, before what follows
abbrev pub unless_absent : {A : Type 0} → Option ℕ → Result A Refusal → Result A Refusal
unless_absent None answer = answer
unless_absent (Some key) answer = Err (Absent key)

-- the step of a temperature: B5, T and the store's number
abbrev pub step_of : ℕ → Result WorkedTemperature ReadingRefusal → Result StepNumbers Refusal
step_of number (Ok w) = Ok (record { b5 = w.b5; t = w.t; number = number })
step_of number (Err e) = Err (refusal_of e)

-- the temperature from UT: 12 for a UT of other than 16 bits, then 13, then 15
abbrev pub temperature_answer : List Pair → ℕ → ℤ → Result StepNumbers Refusal
temperature_answer ps number ut =
    cond (within (pos 0) (pos 65535) ut)
    (unless_absent (lowest_absent ps) (step_of number (temperature_at (coefficients_of ps) ut)))
    (Err RawValue)

-- the line of a pressure: the step's T, and P
abbrev pub line_of : ℤ → Result WorkedPressure ReadingRefusal → Result Line Refusal
line_of t (Ok w) = Ok (record { t = t; p = w.pa })
line_of t (Err e) = Err (refusal_of e)

-- the pressure from a step and UP: 13, then 14 for a step of another number, then 12 and 16
abbrev pub pressure_answer : List Pair → ℕ → StepNumbers → ℤ → Result Line Refusal
pressure_answer ps number step up =
    unless_absent (lowest_absent ps)
    (cond (step.number == number) (line_of step.t (pressure_of (coefficients_of ps) step.b5 up)) (Err OldStep))
