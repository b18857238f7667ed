use Rattle.std.proofs.Common.{◌≡◌, true, [], ◌∷◌, ◌++◌, take, sym, refl, ◌∙◌, subst, arith}
use Rattle.lines.specs.Inputs.{TakesLine, is_last_line, line_bytes}
use Rattle.lines.specs.Outputs.{answer_line}
use Rattle.session.specs.Held.{exchange}
use Rattle.session.proofs.Answering.{nothing_yet, part_more, with_end, one_more, answered_more, at_the_end, to_an_end, whole-more, length-more}
use Rattle.session.proofs.exchanges.answer_all.Goals as goal

-- of the exchange: x is it before the call, y before the line, z behind it

pub loop-init : goal.loop-init
loop-init g c =
    let x = exchange c.args.session.now (g.R.Read.remaining c.args.input.now) (g.W.Write.contents c.args.output.now) in
    ([], [], λ some. absurd (omega arith), refl, nothing_yet x)

pub returns-in-Err : goal.returns-in-Err
returns-in-Err g c =
    let x = exchange c.args.session.now (g.R.Read.remaining c.args.input.now) (g.W.Write.contents c.args.output.now) in
    let y = exchange c.loop.session (g.R.Read.remaining c.loop.input) (g.W.Write.contents c.loop.output) in
    let so_far = c.loop.invariant in
    let failed = c.in-Err.ensures in
    (so_far.0, failed.0, so_far.1, so_far.2, failed.1, part_more x y (g.R.Read.remaining c.read_line.new.input) so_far.0 failed.0 so_far.1 so_far.4 failed.2)

pub returns-in-Err-write_answer : goal.returns-in-Err-write_answer
returns-in-Err-write_answer g c =
    let x = exchange c.args.session.now (g.R.Read.remaining c.args.input.now) (g.W.Write.contents c.args.output.now) in
    let y = exchange c.loop.session (g.R.Read.remaining c.loop.input) (g.W.Write.contents c.loop.output) in
    let z = exchange c.answer-answer.new.self (g.R.Read.remaining c.read_line.new.input) (g.W.Write.contents c.write_answer.new.output) in
    let so_far = c.loop.invariant in
    let line = rw c.in-Ok-Some.field-0-is at c.in-Ok-Some.ensures in
    let last = is_last_line c.in-Ok-Some.line in
    let a = c.answer-answer.result in
    let failed = c.in-Err-write_answer.ensures in (
      so_far.0 ++ with_end line.0 last,
      so_far.1,
      a,
      failed.0,
      to_an_end x y z so_far.0 line.0 last so_far.4.reads line.2,
      one_more x y z so_far.0 line.0 c.bytes.result.now (line_bytes c.in-Ok-Some.line) so_far.1 a (take failed.0 (answer_line a)) last so_far.2 so_far.4
          line.1 line.2 c.bytes.ensures line.3 c.answer-answer.ensures failed.1,
    )

pub returns-then-is_last : goal.returns-then-is_last
returns-then-is_last g c =
    let x = exchange c.args.session.now (g.R.Read.remaining c.args.input.now) (g.W.Write.contents c.args.output.now) in
    let y = exchange c.loop.session (g.R.Read.remaining c.loop.input) (g.W.Write.contents c.loop.output) in
    let z = exchange c.answer-answer.new.self (g.R.Read.remaining c.read_line.new.input) (g.W.Write.contents c.write_answer.new.output) in
    let so_far = c.loop.invariant in
    let line = rw c.in-Ok-Some.field-0-is at c.in-Ok-Some.ensures in
    let last = is_last_line c.in-Ok-Some.line in
    let a = c.answer-answer.result in
    let is_last : last ≡ true = sym c.is_last.ensures ∙ c.if-is_last.true in (
      so_far.0 ++ with_end line.0 last,
      so_far.1 ++ a ∷ [],
      at_the_end x y z so_far.0 line.0 so_far.4.reads (subst (TakesLine y.left z.left line.0) is_last line.2),
      answered_more x y z so_far.0 line.0 c.bytes.result.now (line_bytes c.in-Ok-Some.line) so_far.1 a last so_far.2 so_far.4 line.1 line.2 c.bytes.ensures line.3
          c.answer-answer.ensures c.in_default.ensures,
    )

pub loop-preserved : goal.loop-preserved
loop-preserved g c =
    let x = exchange c.args.session.now (g.R.Read.remaining c.args.input.now) (g.W.Write.contents c.args.output.now) in
    let y = exchange c.loop.session (g.R.Read.remaining c.loop.input) (g.W.Write.contents c.loop.output) in
    let z = exchange c.answer-answer.new.self (g.R.Read.remaining c.read_line.new.input) (g.W.Write.contents c.write_answer.new.output) in
    let so_far = c.loop.invariant in
    let line = rw c.in-Ok-Some.field-0-is at c.in-Ok-Some.ensures in
    let last = is_last_line c.in-Ok-Some.line in
    let a = c.answer-answer.result in (
      so_far.0 ++ with_end line.0 last,
      so_far.1 ++ a ∷ [],
      whole-more so_far.0 line.0 last (sym c.is_last.ensures ∙ c.if-is_last.false),
      length-more so_far.1 a c.loop.counter so_far.3,
      answered_more x y z so_far.0 line.0 c.bytes.result.now (line_bytes c.in-Ok-Some.line) so_far.1 a last so_far.2 so_far.4 line.1 line.2 c.bytes.ensures line.3
          c.answer-answer.ensures c.in_default.ensures,
    )
