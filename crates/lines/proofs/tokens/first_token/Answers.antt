use Rattle.std.proofs.Common.{◌≡◌, true, [], map, sym, ap, ◌∙◌}
use Rattle.lines.specs.Words.{words_from, saying}
use Rattle.lines.specs.Tokens.{tokens_from}
use Rattle.lines.proofs.Cuts.{no_word, cut_word, to_the_end}
use Rattle.lines.proofs.tokens.first_token.Goals as goal

pub returns-in_err-gap : goal.returns-in_err-gap
returns-in_err-gap c =
    let rest = c.in_ok-rest.ensures.lookup.0.2 ∙ to_the_end c.args.line.now c.args.from in
    let left : tokens_from c.args.from c.args.line.now ≡ [] =
    ap (λ xs. map saying (words_from true c.args.from xs)) (sym rest) ∙ ap (map saying) (no_word c.args.from c.in_ok-rest.rest.now (sym c.in_err-gap.ensures)) in
    rw c.from_residual-in_err-gap.ensures left

pub returns : goal.returns
returns c =
    let rest = c.in_ok-rest.ensures.lookup.0.2 ∙ to_the_end c.args.line.now c.args.from in
    let e = cut_word c.args.line.now c.in_ok-rest.rest.now c.args.from c.in_ok-gap.gap c.word_len.result rest (sym c.in_ok-gap.ensures) c.word_len.ensures in
    rw c.token_at.ensures (ap (map saying) e)
