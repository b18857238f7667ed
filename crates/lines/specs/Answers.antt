-- Answers as they are printed: `ok` and the answer, or `no` and the number of the refusal.
use Rattle.std.specs.Prelude.{ℕ, List, ◌++◌, ℤ, pos, codes, decimal, Some, None, Option}
use Rattle.std.specs.Fmt.{signed_decimal}
use Rattle.compensation.specs.Division.{floor_div}
use Rattle.compensation.specs.Texts.{tenths_text}
use Rattle.lines.specs.declared.answers.Answer.{Answer}
use Rattle.lines.specs.declared.answers.Answer.TheVariants.{Done, Number, Value, Temperature, Line, Refused, WriteStopped}

-- an absent value is a dash
abbrev pub value_text : Option ℤ → List ℕ
value_text (Some v) = signed_decimal v
value_text None = codes "-"

-- so is the unit of an erase
abbrev pub unit_text : Option ℕ → List ℕ
unit_text (Some u) = decimal u
unit_text None = codes "-"

-- degrees and hectopascals have one decimal; P is in Pa, 100 to a hectopascal
abbrev pub answer_text : Answer → List ℕ
answer_text Done = codes "ok"
answer_text (Number n) = codes "ok " ++ decimal n
answer_text (Value v) = codes "ok " ++ value_text v
answer_text (Temperature t) = codes "ok " ++ tenths_text t
answer_text (Line t pa) = codes "ok " ++ (tenths_text t ++ (codes " " ++ tenths_text (floor_div pa (pos 10))))
answer_text (Refused n) = codes "no " ++ decimal n
answer_text (WriteStopped place) = codes "no 11 " ++ (decimal place.0 ++ (codes " " ++ unit_text place.1))
