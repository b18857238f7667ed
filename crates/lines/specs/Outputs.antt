-- Answers on their way to a writer.
use Rattle.std.specs.Prelude.{ℕ, List, [], ◌∷◌, ◌++◌, take, Option, Result, Ok, Err}
use Rattle.std.specs.Io.KnownBytes.{Appends}
use Rattle.lines.specs.declared.answers.Answer.{Answer}
use Rattle.lines.specs.Answers.{answer_text}

-- an answer in a line of its own, with its line end
abbrev pub answer_line : Answer → List ℕ
answer_line a = answer_text a ++ 10 ∷ []

-- The writing of a text to a writer that held a before and holds b now, where it tells.
-- A writer that fails holds the first bytes of the text, none of them or up to all.
abbrev pub Writes : {E : Type 0} →
    Option (List ℕ) → Option (List ℕ) → Result (Unit {0}) E → List ℕ → Type 0
Writes a b (Ok x) text = Appends a b text
Writes a b (Err e) text = (n : ℕ) × Appends a b (take n text)
