-- An input as lines, and what the reading of one line takes of it. The byte 10 is a line end.
use Rattle.std.specs.Prelude.{◌≡◌, ◌≢◌, ℕ, Bool, true, false, cond, List, [], ◌∷◌, ◌++◌, take, ◌==◌, All, OnSome, Option, Some, None, Result, Ok, Err}
use Rattle.std.specs.List.{onto_first}
use Rattle.std.specs.Io.KnownBytes.{Consumes, IsAtEnd}
use Rattle.lines.specs.declared.inputs.Line.{Line}
use Rattle.lines.specs.declared.inputs.Reach.{Reach}
use Rattle.lines.specs.declared.inputs.Reach.TheVariants.{Within, LineEnd, InputEnd}

-- the lines of an input: what stands before each line end, and what stands behind the last one if
-- that is not empty
abbrev pub lines_of : List ℕ → List (List ℕ)
lines_of [] = []
lines_of (b ∷ bs) = cond (b == 10) ([] ∷ lines_of bs) (onto_first b (lines_of bs))

-- what is kept of a line: one byte more than a line may have, so that a longer one stays too long
abbrev pub kept_of : List ℕ → List ℕ
kept_of line = take 81 line

-- `line.bytes()`
abbrev pub line_bytes : Line → List ℕ
line_bytes l = l.kept.items

-- `line.is_last()`
abbrev pub is_last_line : Line → Bool
is_last_line l = l.is_last

-- bytes of one line
abbrev pub InOneLine : List ℕ → Type 0
InOneLine bs = All (λ b. b ≢ 10) bs

-- Of a reader that had a left before and has b left now, where it tells: these were its last bytes.
abbrev pub TakesAll : Option (List ℕ) → Option (List ℕ) → List ℕ → Type 0
TakesAll a b bs = Consumes a b bs × OnSome a (IsAtEnd b)

-- a line of these bytes was taken: with its line end, or, as the last one, without
abbrev pub TakesLine : Option (List ℕ) → Option (List ℕ) → List ℕ → Bool → Type 0
TakesLine a b line false = Consumes a b (line ++ 10 ∷ [])
TakesLine a b line true = TakesAll a b line × (line ≢ [])

-- The reading of a line, however long it is; none is left at the end of the input.
-- Where the reader fails, it has given a part of a line.
abbrev pub ReadsLine : {E : Type 0} →
    Option (List ℕ) → Option (List ℕ) → Result (Option Line) E → Type 0
ReadsLine a b (Ok (Some l)) =
    (line : List ℕ) × InOneLine line × TakesLine a b line (is_last_line l)
    × (line_bytes l ≡ kept_of line)
ReadsLine a b (Ok None) = TakesAll a b []
ReadsLine a b (Err e) = (part : List ℕ) × InOneLine part × Consumes a b part

-- a step of it: a part was taken, nothing behind it, or its line end, or nothing is left behind it
abbrev pub Reaches : Option (List ℕ) → Option (List ℕ) → List ℕ → Reach → Type 0
Reaches a b part Within = Consumes a b part
Reaches a b part LineEnd = Consumes a b (part ++ 10 ∷ [])
Reaches a b part InputEnd = TakesAll a b part

-- the same with what is kept, where `line` was taken before; not a byte more where the reader fails
abbrev pub TakesPart : {E : Type 0} →
    List ℕ → Option (List ℕ) → Option (List ℕ) → Result Reach E → List ℕ → Type 0
TakesPart line a b (Ok reach) now =
    (part : List ℕ) × InOneLine part × Reaches a b part reach × (now ≡ kept_of (line ++ part))
TakesPart line a b (Err e) now = Consumes a b []
