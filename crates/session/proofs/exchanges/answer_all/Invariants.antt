use Rattle.std.proofs.Common.{◌≡◌, ℕ, List, length}
use Rattle.lines.specs.declared.answers.Answer.{Answer}
use Rattle.lines.specs.Inputs.{lines_of}
use Rattle.session.specs.Exchanges.{Exchanges, IsWhole, output_of}
use Rattle.session.specs.Held.{exchange}
use Rattle.session.proofs.exchanges.answer_all.Given as goal

-- whole lines were read and answered, as many as the counter says
abbrev pub invariant-loop : goal.invariant-loop
invariant-loop g l =
    (read : List ℕ) × (answers : List Answer) × IsWhole read × (length answers ≡ l.counter)
    × Exchanges (exchange l.fn.session (g.R.Read.remaining l.fn.input) (g.W.Write.contents l.fn.output)) read (lines_of read) answers (output_of answers)
    (exchange l.session (g.R.Read.remaining l.input) (g.W.Write.contents l.output))
