-- What tokens say, and which tokens a reader of a line has still to give.
use Rattle.std.specs.Prelude.{◌≡◌, ℕ, Bool, true, false, List, map, drop, Some, None, Option}
use Rattle.lines.specs.Words.{words_from, saying, begins_number}
use Rattle.lines.specs.declared.tokens.Token.{Token}
use Rattle.lines.specs.declared.tokens.Token.TheVariants.{Number, Name}
use Rattle.lines.specs.declared.tokens.Words.{Words}

-- whether it is a number's, its place and its bytes
abbrev pub says : Token → (Bool × ℕ × List ℕ)
says (Number text at) = (true, at, text.now)
says (Name text at) = (false, at, text.now)

abbrev pub token_text : Token → List ℕ
token_text t = (says t).2

-- the bytes of a number's word
abbrev pub number_text : Token → Option (List ℕ)
number_text (Number text at) = Some text.now
number_text (Name text at) = None

-- a token is a number's just when its word begins as one
abbrev pub IsOfItsKind : Token → Type 0
IsOfItsKind t = (says t).0 ≡ begins_number (token_text t)

-- what the words of a line say from a place on
abbrev pub tokens_from : ℕ → List ℕ → List (Bool × ℕ × List ℕ)
tokens_from from line = map saying (words_from true from (drop from line))

-- the words from the next place on
abbrev pub tokens_left : Words → List (Bool × ℕ × List ℕ)
tokens_left w = tokens_from w.from w.line.now
