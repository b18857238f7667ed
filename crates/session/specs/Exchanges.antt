-- A session that answers the lines of an input on an output.
use Rattle.std.specs.Prelude.{◌≡◌, ◌⊎◌, ℕ, ◌-◌, ◌^◌, List, [], ◌∷◌, ◌++◌, length, take, flat_map, OnSome, Option, Result, Ok, Err}
use Rattle.std.specs.Io.{IsEmptyOrEndsWith}
use Rattle.std.specs.Io.KnownBytes.{Appends, Consumes, IsAtEnd}
use Rattle.std.specs.IoError.{error_kind}
use Rattle.std.specs.declared.io.ErrorKind.{ErrorKind}
use Rattle.lines.specs.declared.answers.Answer.{Answer}
use Rattle.lines.specs.Commands.{command_of}
use Rattle.lines.specs.Inputs.{lines_of, InOneLine}
use Rattle.lines.specs.Outputs.{answer_line}
use Rattle.session.specs.declared.exchanges.AnswerError.{AnswerError}
use Rattle.session.specs.declared.exchanges.AnswerError.TheVariants.{Read, Write, TooManyLines}
use Rattle.session.specs.Sessions.{Session, Answered}

-- a session, what its reader has left and what its writer holds, where they tell
pub record Exchange : Type 0 where
  pub session : Session
  pub left : Option (List ℕ)
  pub held : Option (List ℕ)

-- each line is answered by the session that the line before left
abbrev pub AnswersLines : Session → List (List ℕ) → List Answer → Session → Type 0
AnswersLines s [] [] s' = s' ≡ s
AnswersLines s [] (a ∷ answers) s' = ⊥
AnswersLines s (line ∷ lines) [] s' = ⊥
AnswersLines s (line ∷ lines) (a ∷ answers) s' =
    (m : Session) × Answered (command_of line) s a m × AnswersLines m lines answers s'

-- the answers as they are written
abbrev pub output_of : List Answer → List ℕ
output_of answers = flat_map answer_line answers

-- bytes were taken from the reader, lines were answered, and bytes were written
pub record Exchanges
    (x : Exchange) (taken : List ℕ) (lines : List (List ℕ))
    (answers : List Answer) (written : List ℕ) (x' : Exchange) : Type 0 where
  pub reads : Consumes x.left x'.left taken
  pub makes : AnswersLines x.session lines answers x'.session
  pub writes : Appends x.held x'.held written

-- nothing, or bytes that end with a line end
abbrev pub IsWhole : List ℕ → Type 0
IsWhole bs = IsEmptyOrEndsWith bs 10

-- Answering an input to its end, or up to a failure.
--   Ok: all that was left is read, and each of its lines is answered.
--   Read: whole lines are answered; the part that was taken of the next one is not.
--   Write: all lines that were read are answered; of the last answer only the first n bytes are
--     written.
--   TooManyLines: as many lines as one call answers are answered.
abbrev pub AnswersAll : Exchange → Result (Unit {0}) AnswerError → Exchange → Type 0
AnswersAll x (Ok done) x' =
    (read : List ℕ) × (answers : List Answer) × OnSome x.left (IsAtEnd x'.left)
    × Exchanges x read (lines_of read) answers (output_of answers) x'
AnswersAll x (Err (Read e)) x' =
    (read part : List ℕ) × (answers : List Answer) × IsWhole read × InOneLine part
    × Exchanges x (read ++ part) (lines_of read) answers (output_of answers) x'
AnswersAll x (Err (Write e)) x' =
    (read : List ℕ) × (answers : List Answer) × (last : Answer) × (n : ℕ)
    × (IsWhole read ⊎ OnSome x.left (IsAtEnd x'.left))
    × Exchanges x read (lines_of read)
    (answers ++ last ∷ []) (output_of answers ++ take n (answer_line last)) x'
AnswersAll x (Err TooManyLines) x' =
    (read : List ℕ) × (answers : List Answer) × IsWhole read × (length answers ≡ 2 ^ 64 - 1)
    × Exchanges x read (lines_of read) answers (output_of answers) x'

-- the output has no reader any more
abbrev pub IsClosedOutput : AnswerError → Type 0
IsClosedOutput (Read e) = ⊥
IsClosedOutput (Write e) = error_kind e ≡ ErrorKind.BrokenPipe
IsClosedOutput TooManyLines = ⊥

-- a closed output is no failure, and all else stays as it is
abbrev pub UnlessClosed :
    Result (Unit {0}) AnswerError → Result (Unit {0}) AnswerError → Type 0
UnlessClosed (Ok done) r = r ≡ Ok tt
UnlessClosed (Err e) r = (IsClosedOutput e → r ≡ Ok tt) × (¬ (IsClosedOutput e) → r ≡ Err e)
