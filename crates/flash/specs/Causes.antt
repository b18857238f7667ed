-- The numbers of the refusals, and the place that a cause names.
use Rattle.std.specs.Prelude.{ℕ, Option}
use Rattle.flash.specs.declared.causes.Cause.{Cause}
use Rattle.flash.specs.declared.causes.Why.{Why}
use Rattle.flash.specs.declared.causes.Why.TheVariants.{Off, Missing, NotBlank, Cut}

abbrev pub why_number : Why → ℕ
why_number Off = 21
why_number Missing = 22
why_number NotBlank = 23
why_number Cut = 24

abbrev pub cause_number : Cause → ℕ
cause_number c = why_number c.why

abbrev pub cause_place : Cause → ℕ × Option ℕ
cause_place c = (c.bank, c.unit)

abbrev pub cause_of : Why → ℕ → Option ℕ → Cause
cause_of w b u = record { why = w; bank = b; unit = u }
