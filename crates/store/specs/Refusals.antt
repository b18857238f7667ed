-- The numbers by which refused calls of the store are known, and what two of them carry: 11 a
-- place, 13 a key.
use Rattle.std.specs.Prelude.{ℕ, Option, Some, None}
use Rattle.store.specs.declared.refusals.Refusal.{Refusal}
use Rattle.store.specs.declared.refusals.Refusal.TheVariants.{Cold, SmallFlash, NoHeader, ChangeOpen, NoTickets, WrongTicket, UnknownKey, NotAdmitted, ChangeFull, LastNumber, WriteStopped, RawValue, Absent, OldStep, NoTemperature, NoPressure}

abbrev pub refusal_number : Refusal → ℕ
refusal_number Cold = 1
refusal_number SmallFlash = 2
refusal_number NoHeader = 3
refusal_number ChangeOpen = 4
refusal_number NoTickets = 5
refusal_number WrongTicket = 6
refusal_number UnknownKey = 7
refusal_number NotAdmitted = 8
refusal_number ChangeFull = 9
refusal_number LastNumber = 10
refusal_number (WriteStopped place) = 11
refusal_number RawValue = 12
refusal_number (Absent key) = 13
refusal_number OldStep = 14
refusal_number NoTemperature = 15
refusal_number NoPressure = 16

-- 11 carries the place of the write that the flash did not complete: its bank and its unit, where
-- an erase has none
abbrev pub refusal_place : Refusal → Option (ℕ × Option ℕ)
refusal_place (WriteStopped place) = Some place
refusal_place other = None

-- 13 carries the lowest key that is needed and has no value
abbrev pub refusal_key : Refusal → Option ℕ
refusal_key (Absent key) = Some key
refusal_key other = None
