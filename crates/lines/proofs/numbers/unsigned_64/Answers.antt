use Rattle.std.proofs.Common.{sym, ◌∙◌, arith}
use Rattle.lines.proofs.Digits.{overflows, at_the_end}
use Rattle.lines.proofs.numbers.unsigned_64.Goals as goal

pub returns-in_err-checked_mul : goal.returns-in_err-checked_mul
returns-in_err-checked_mul c =
    let e =
    overflows 18446744073709551615 c.loop-byte.value c.loop-byte.byte-index c.in_ok-digit.digit c.args.word.now (omega arith)
    c.in_ok-digit.ensures (omega (arith, c.in_err-checked_mul.ensures)) in
    c.from_residual-in_err-checked_mul.ensures ∙ sym e ∙ c.loop-byte.invariant.same

pub returns-in_err-value : goal.returns-in_err-value
returns-in_err-value c =
    let e =
    overflows 18446744073709551615 c.loop-byte.value c.loop-byte.byte-index c.in_ok-digit.digit c.args.word.now (omega arith)
    c.in_ok-digit.ensures (omega (arith, c.in_ok-checked_mul.ensures, c.from.ensures, c.in_err-value.ensures)) in
    c.from_residual-in_err-value.ensures ∙ sym e ∙ c.loop-byte.invariant.same

pub returns : goal.returns
returns c = sym (at_the_end 18446744073709551615 c.loop-byte.value c.loop-byte.byte-index c.args.word.now (omega arith) (omega arith)) ∙ c.loop-byte.invariant.same
