-- The compensation formulas over the whole numbers, by the names of the chip's datasheet. ÷ is `floor_div`.
use Rattle.std.specs.Prelude.{ℕ, ◌+◌, ◌^◌, cond, ◌&&◌, ℤ, pos, negsuc, ◌+ℤ◌, ◌-ℤ◌, ◌*ℤ◌, Ok, Err, Result, int_le, int_lt, unsigned_abs}
use Rattle.compensation.specs.Division.{floor_div}
use Rattle.compensation.specs.Ranges.{within}
use Rattle.compensation.specs.declared.coefficients.Coefficients.{Coefficients}
use Rattle.compensation.specs.declared.readings.Balance.{Balance}
use Rattle.compensation.specs.declared.readings.WorkedTemperature.{WorkedTemperature}
use Rattle.compensation.specs.declared.readings.WorkedPressure.{WorkedPressure}
use Rattle.compensation.specs.declared.readings.ReadingRefusal.{ReadingRefusal}
use Rattle.compensation.specs.declared.readings.ReadingRefusal.TheVariants.{RawValue, Temperature, Pressure}

-- ---- the temperature

-- UT has 16 bits.
abbrev pub checked_ut_of : ℤ → Result ℕ ReadingRefusal
checked_ut_of ut = cond (within (pos 0) (pos 65535) ut) (Ok (unsigned_abs ut)) (Err RawValue)

-- X1 = (UT - AC6)·AC5 ÷ 2^15
unfoldable pub x1_of : ℤ → ℤ → ℤ → ℤ
x1_of ut ac5 ac6 = floor_div ((ut -ℤ ac6) *ℤ ac5) (pos (2 ^ 15))

-- X2 = MC·2^11 ÷ (X1 + MD)
unfoldable pub x2_of : ℤ → ℤ → ℤ → ℤ
x2_of x1 mc md = floor_div (mc *ℤ pos (2 ^ 11)) (x1 +ℤ md)

-- T = (B5 + 8) ÷ 16, in tenths of a degree
unfoldable pub t_of : ℤ → ℤ
t_of b5 = floor_div (b5 +ℤ pos 8) (pos 16)

-- T is -40.0 to 85.0 degrees, or there is none.
abbrev pub t_from_b5 : ℤ → Result ℤ ReadingRefusal
t_from_b5 b5 = cond (within (negsuc 399) (pos 850) (t_of b5)) (Ok (t_of b5)) (Err Temperature)

-- a T with the values on the way to it: B5 = X1 + X2
abbrev pub worked_temperature : ℤ → ℤ → Result ℤ ReadingRefusal → Result WorkedTemperature ReadingRefusal
worked_temperature x1 x2 (Ok t) = Ok (record { x1 = x1; x2 = x2; b5 = x1 +ℤ x2; t = t })
worked_temperature x1 x2 (Err e) = Err e

abbrev pub temperature_from_x2 : ℤ → ℤ → Result WorkedTemperature ReadingRefusal
temperature_from_x2 x1 x2 = worked_temperature x1 x2 (t_from_b5 (x1 +ℤ x2))

-- The divisor X1 + MD is not 0, or there is no temperature.
abbrev pub temperature_from_x1 : Coefficients → ℤ → Result WorkedTemperature ReadingRefusal
temperature_from_x1 k x1 =
    cond (within (pos 0) (pos 0) (x1 +ℤ k.md)) (Err Temperature) (temperature_from_x2 x1 (x2_of x1 k.mc k.md))

-- the temperature from a UT of 16 bits
abbrev pub temperature_at : Coefficients → ℤ → Result WorkedTemperature ReadingRefusal
temperature_at k ut = temperature_from_x1 k (x1_of ut k.ac5 k.ac6)

-- the temperature from any UT
abbrev pub temperature_of : Coefficients → ℤ → Result WorkedTemperature ReadingRefusal
temperature_of k ut = cond (within (pos 0) (pos 65535) ut) (temperature_at k ut) (Err RawValue)

-- ---- the pressure

-- 2^OSS
unfoldable pub samples_of : ℤ → ℤ
samples_of oss = pos (2 ^ unsigned_abs oss)

-- S = B6·B6 ÷ 2^12
unfoldable pub s_of : ℤ → ℤ
s_of b6 = floor_div (b6 *ℤ b6) (pos (2 ^ 12))

-- X3 = (B2·S ÷ 2^11) + (AC2·B6 ÷ 2^11)
unfoldable pub x3_of : ℤ → ℤ → ℤ → ℤ → ℤ
x3_of b2 ac2 b6 s = floor_div (b2 *ℤ s) (pos (2 ^ 11)) +ℤ floor_div (ac2 *ℤ b6) (pos (2 ^ 11))

-- B3 = ((AC1·4 + X3)·2^OSS + 2) ÷ 4
unfoldable pub b3_of : ℤ → ℤ → ℤ → ℤ
b3_of ac1 x3 samples = floor_div ((ac1 *ℤ pos 4 +ℤ x3) *ℤ samples +ℤ pos 2) (pos 4)

-- Y3 = ((AC3·B6 ÷ 2^13) + (B1·S ÷ 2^16) + 2) ÷ 4
unfoldable pub y3_of : ℤ → ℤ → ℤ → ℤ → ℤ
y3_of ac3 b1 b6 s =
    floor_div (floor_div (ac3 *ℤ b6) (pos (2 ^ 13)) +ℤ floor_div (b1 *ℤ s) (pos (2 ^ 16)) +ℤ pos 2) (pos 4)

-- B4 = AC4·(Y3 + 32768) ÷ 2^15
unfoldable pub b4_of : ℤ → ℤ → ℤ
b4_of ac4 y3 = floor_div (ac4 *ℤ (y3 +ℤ pos 32768)) (pos (2 ^ 15))

-- B7 = (UP - B3)·(50000 ÷ 2^OSS)
unfoldable pub b7_of : ℤ → ℤ → ℤ → ℤ
b7_of up b3 samples = (up -ℤ b3) *ℤ floor_div (pos 50000) samples

-- p = B7·2 ÷ B4 where B7 is below 2^31, else (B7 ÷ B4)·2
unfoldable pub p_of : ℤ → ℤ → ℤ
p_of b7 b4 = cond (int_lt b7 (pos (2 ^ 31))) (floor_div (b7 *ℤ pos 2) b4) (floor_div b7 b4 *ℤ pos 2)

-- ((Q·Q·3038 ÷ 2^16) + (-7357·p ÷ 2^16) + 3791) ÷ 16
unfoldable pub last_correction_of : ℤ → ℤ → ℤ
last_correction_of p q =
    floor_div (floor_div (q *ℤ q *ℤ pos 3038) (pos (2 ^ 16)) +ℤ floor_div (negsuc 7356 *ℤ p) (pos (2 ^ 16)) +ℤ pos 3791) (pos 16)

-- P = p + that correction + PCOR in Pa, with Q = p ÷ 2^8
unfoldable pub pa_of : ℤ → ℤ → ℤ
pa_of p pcor = p +ℤ last_correction_of p (floor_div p (pos (2 ^ 8))) +ℤ pcor

-- the values that depend on the temperature alone, from B6
abbrev pub balance_of : Coefficients → ℤ → Balance
balance_of k b6 =
    record {
      b6 = b6;
      s = s_of b6;
      x3 = x3_of k.b2 k.ac2 b6 (s_of b6);
      b3 = b3_of k.ac1 (x3_of k.b2 k.ac2 b6 (s_of b6)) (samples_of k.oss);
      y3 = y3_of k.ac3 k.b1 b6 (s_of b6);
      b4 = b4_of k.ac4 (y3_of k.ac3 k.b1 b6 (s_of b6));
    }

-- p is at most 1,000,000, or there is no pressure.
abbrev pub p_from_b7 : ℤ → ℤ → Result ℤ ReadingRefusal
p_from_b7 b7 b4 = cond (int_le (p_of b7 b4) (pos 1000000)) (Ok (p_of b7 b4)) (Err Pressure)

-- a p with the values on the way to it, and P
abbrev pub worked_pressure : Balance → ℤ → ℤ → Result ℤ ReadingRefusal → Result WorkedPressure ReadingRefusal
worked_pressure from b7 pcor (Ok p) = Ok (record { balance = from; b7 = b7; p = p; pa = pa_of p pcor })
worked_pressure from b7 pcor (Err e) = Err e

abbrev pub pressure_from_b7 : Balance → ℤ → ℤ → Result WorkedPressure ReadingRefusal
pressure_from_b7 from b7 pcor = worked_pressure from b7 pcor (p_from_b7 b7 from.b4)

-- UP is at least B3 and B4 is above 0, or there is no pressure.
abbrev pub pressure_from_balance : Coefficients → Balance → ℤ → Result WorkedPressure ReadingRefusal
pressure_from_balance k from up =
    cond (int_le from.b3 up && int_lt (pos 0) from.b4)
    (pressure_from_b7 from (b7_of up from.b3 (samples_of k.oss)) k.pcor)
    (Err Pressure)

-- the first UP that is too large: UP has 16 + OSS bits
unfoldable pub up_limit_of : ℤ → ℤ
up_limit_of oss = pos (2 ^ (16 + unsigned_abs oss))

-- the pressure from a B5 and any UP. B6 = B5 - 4000.
abbrev pub pressure_of : Coefficients → ℤ → ℤ → Result WorkedPressure ReadingRefusal
pressure_of k b5 up =
    cond (int_le (pos 0) up && int_lt up (up_limit_of k.oss))
    (pressure_from_balance k (balance_of k (b5 -ℤ pos 4000)) up)
    (Err RawValue)
