use Rattle.std.proofs.Common.{◌≡◌, ℕ, List}
use Rattle.std.specs.Io.KnownBytes.{Consumes}
use Rattle.lines.specs.Inputs.{InOneLine, kept_of}
use Rattle.lines.proofs.inputs.read_line.Given as goal

-- bytes of the line were taken, none of them a line end
abbrev pub invariant-loop : goal.invariant-loop
invariant-loop g l = (line : List ℕ) × InOneLine line × Consumes (g.R.Read.remaining l.fn.input) (g.R.Read.remaining l.input) line × (l.kept.items ≡ kept_of line)
