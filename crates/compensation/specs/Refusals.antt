-- The numbers by which refused readings are known.
use Rattle.std.specs.Prelude.{ℕ, List, codes}
use Rattle.compensation.specs.declared.readings.ReadingRefusal.{ReadingRefusal}
use Rattle.compensation.specs.declared.readings.ReadingRefusal.TheVariants.{RawValue, Temperature, Pressure}

abbrev pub refusal_number : ReadingRefusal → ℕ
refusal_number RawValue = 12
refusal_number Temperature = 15
refusal_number Pressure = 16

-- what they mean, in words
abbrev pub refusal_meaning : ReadingRefusal → List ℕ
refusal_meaning RawValue = codes "the chip gives no such raw value"
refusal_meaning Temperature = codes "no temperature from -40.0 to 85.0 degrees"
refusal_meaning Pressure = codes "no pressure up to 1000000 Pa"
