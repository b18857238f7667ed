use Rattle.std.proofs.Common.{ap, sym, ◌∙◌}
use Rattle.lines.specs.Words.{words}
use Rattle.lines.specs.Tokens.{says, token_text}
use Rattle.lines.specs.Commands.{alone, with_one, with_two, with_three}
use Rattle.lines.proofs.Lines.{command_by, of_their_kind, then}
use Rattle.lines.proofs.commands.of_words.Goals as goal

pub returns-in_err-next : goal.returns-in_err-next
returns-in_err-next c =
    c.from_residual.ensures ∙ command_by c.args.line.now _ (sym c.new-words.ensures.tokens ∙ c.in_err-next.ensures.steps.0)

pub returns-in_default : goal.returns-in_default
returns-in_default c =
    let all = then (says c.in_ok-next.field-0) (sym c.new-words.ensures.tokens ∙ c.in_ok-next.ensures.steps) c.in_default.ensures.steps.0 in
    c.of_one_word.ensures ∙ ap alone c.text-verb.ensures ∙ command_by c.args.line.now _ all

pub of_two_words-requires : goal.of_two_words-requires
of_two_words-requires c =
    let all = then (says c.in_ok-next.field-0) (sym c.new-words.ensures.tokens ∙ c.in_ok-next.ensures.steps) c.in-Some.ensures.steps in
    (of_their_kind (words c.args.line.now) _ all).1.0

pub returns-in_default-next : goal.returns-in_default-next
returns-in_default-next c =
    let more = then (says c.in-Some.first) c.in-Some.ensures.steps c.in_default-next.ensures.steps.0 in
    let all = then (says c.in_ok-next.field-0) (sym c.new-words.ensures.tokens ∙ c.in_ok-next.ensures.steps) more in
    c.of_two_words.ensures ∙ ap (λ w. with_one w (token_text c.in-Some.first)) c.text-verb.ensures ∙ command_by c.args.line.now _ all

pub of_three_words-requires : goal.of_three_words-requires
of_three_words-requires c =
    let more = then (says c.in-Some.first) c.in-Some.ensures.steps c.in-Some-next.ensures.steps in
    let all = then (says c.in_ok-next.field-0) (sym c.new-words.ensures.tokens ∙ c.in_ok-next.ensures.steps) more in
    (of_their_kind (words c.args.line.now) _ all).1.1.0

pub returns-in_default-next-2 : goal.returns-in_default-next-2
returns-in_default-next-2 c =
    let last = then (says c.in-Some-next.second) c.in-Some-next.ensures.steps c.in_default-next-2.ensures.steps.0 in
    let more = then (says c.in-Some.first) c.in-Some.ensures.steps last in
    let all = then (says c.in_ok-next.field-0) (sym c.new-words.ensures.tokens ∙ c.in_ok-next.ensures.steps) more in
    c.of_three_words.ensures ∙ ap (λ w. with_two w (token_text c.in-Some.first) (token_text c.in-Some-next.second)) c.text-verb.ensures
    ∙ command_by c.args.line.now _ all

pub of_four_words-requires-clause-charge : goal.of_four_words-requires-clause-charge
of_four_words-requires-clause-charge c =
    let all = then (says c.in_ok-next.field-0) (sym c.new-words.ensures.tokens ∙ c.in_ok-next.ensures.steps) c.in-Some.ensures.steps in
    (of_their_kind (words c.args.line.now) _ all).1.0

pub of_four_words-requires-clause-residue : goal.of_four_words-requires-clause-residue
of_four_words-requires-clause-residue c =
    let more = then (says c.in-Some.first) c.in-Some.ensures.steps c.in-Some-next.ensures.steps in
    let all = then (says c.in_ok-next.field-0) (sym c.new-words.ensures.tokens ∙ c.in_ok-next.ensures.steps) more in
    (of_their_kind (words c.args.line.now) _ all).1.1.0

pub of_four_words-requires-clause-pattern : goal.of_four_words-requires-clause-pattern
of_four_words-requires-clause-pattern c =
    let last = then (says c.in-Some-next.second) c.in-Some-next.ensures.steps c.in-Some-next-2.ensures.steps in
    let more = then (says c.in-Some.first) c.in-Some.ensures.steps last in
    let all = then (says c.in_ok-next.field-0) (sym c.new-words.ensures.tokens ∙ c.in_ok-next.ensures.steps) more in
    (of_their_kind (words c.args.line.now) _ all).1.1.1.0

pub returns-in-None : goal.returns-in-None
returns-in-None c =
    let fourth = then (says c.in-Some-next-2.third) c.in-Some-next-2.ensures.steps c.in-None.ensures.steps.0 in
    let last = then (says c.in-Some-next.second) c.in-Some-next.ensures.steps fourth in
    let more = then (says c.in-Some.first) c.in-Some.ensures.steps last in
    let all = then (says c.in_ok-next.field-0) (sym c.new-words.ensures.tokens ∙ c.in_ok-next.ensures.steps) more in
    c.of_four_words.ensures
    ∙ ap (λ w. with_three w (token_text c.in-Some.first) (token_text c.in-Some-next.second) (token_text c.in-Some-next-2.third)) c.text-verb.ensures
    ∙ command_by c.args.line.now _ all

pub returns-in-Some-next-3 : goal.returns-in-Some-next-3
returns-in-Some-next-3 c =
    let fourth = then (says c.in-Some-next-2.third) c.in-Some-next-2.ensures.steps c.in-Some-next-3.ensures.steps in
    let last = then (says c.in-Some-next.second) c.in-Some-next.ensures.steps fourth in
    let more = then (says c.in-Some.first) c.in-Some.ensures.steps last in
    let all = then (says c.in_ok-next.field-0) (sym c.new-words.ensures.tokens ∙ c.in_ok-next.ensures.steps) more in
    command_by c.args.line.now _ all
