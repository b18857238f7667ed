use Rattle.std.proofs.Common.{◌≡◌, ◌+◌, ◌-◌, ◌<◌, ◌≤◌, drop, get_or, sym, ◌∙◌, subst, arith}
use Rattle.std.proofs.lemmas.Bool.{cond-true}
use Rattle.flash.specs.declared.units.Unit.TheVariants.{Blank}
use Rattle.layout.specs.Held.{pairs_of}
use Rattle.journal.specs.Views.{shown, meanings_shown}
use Rattle.journal.proofs.Sound.{record_admitted}
use Rattle.journal.proofs.Gathering.{Gathered, gathered_none, gathered_more, gathered_low, gathered_other, gathered_all, said_after, meaning_at}
use Rattle.journal.proofs.views.BankView.records.Goals as goal

pub loop-unit-init : goal.loop-unit-init
loop-unit-init g c =
    let ms = meanings_shown g.F.Flash c.args.self.now in
    let z : 0 ≡ c.args.from - c.args.from = omega arith in
    (omega arith, subst (Gathered (drop c.args.from ms) c.args.count (pairs_of c.new-pairs.result) 0) z (gathered_none (drop c.args.from ms) c.args.count (pairs_of c.new-pairs.result) c.new-pairs.ensures))

pub returns-then-pair-last : goal.returns-then-pair-last
returns-then-pair-last g c =
    let ms = meanings_shown g.F.Flash c.args.self.now in
    let i = c.loop-unit.unit - c.args.from in
    let h : i < c.args.count = omega (arith, c.from.ensures, c.loop-unit-test.true, c.loop-unit.invariant.0) in
    gathered_low (drop c.args.from ms) c.args.count (pairs_of c.loop-unit.pairs) c.loop-unit.last i c.loop-unit.invariant.1
    c.in-Record.pair h (said_after ms c.args.from c.loop-unit.unit c.loop-unit.invariant.0 ∙ sym c.in-Record.ensures) c.if-pair-last.true

pub loop-unit-preserved : goal.loop-unit-preserved
loop-unit-preserved g c =
    let us = shown g.F.Flash c.args.self.now in
    let ms = meanings_shown g.F.Flash c.args.self.now in
    let i = c.loop-unit.unit - c.args.from in
    let h : i < c.args.count = omega (arith, c.from.ensures, c.loop-unit-test.true, c.loop-unit.invariant.0) in
    let n : i + 1 ≡ c.loop-unit.unit + 1 - c.args.from = omega (arith, c.loop-unit.invariant.0) in
    let p = c.in-Record.pair in
    let a = record_admitted (get_or us c.loop-unit.unit Blank) p (c.in-Record.ensures ∙ meaning_at us c.loop-unit.unit) in
    let e = said_after ms c.args.from c.loop-unit.unit c.loop-unit.invariant.0 ∙ sym c.in-Record.ensures in (
      omega (arith, c.loop-unit.invariant.0),
      subst (Gathered (drop c.args.from ms) c.args.count (pairs_of c.lay.new.self) p.key) n
          (subst (λ ps. Gathered (drop c.args.from ms) c.args.count ps p.key (i + 1)) (sym (c.lay.ensures.pairs ∙ cond-true _ _ _ a))
          (gathered_more (drop c.args.from ms) c.args.count (pairs_of c.loop-unit.pairs) c.loop-unit.last i c.loop-unit.invariant.1 p h e c.if-pair-last.false)),
    )

pub returns-in_default : goal.returns-in_default
returns-in_default g c =
    let ms = meanings_shown g.F.Flash c.args.self.now in
    let i = c.loop-unit.unit - c.args.from in
    let h : i < c.args.count = omega (arith, c.from.ensures, c.loop-unit-test.true, c.loop-unit.invariant.0) in
    gathered_other (drop c.args.from ms) c.args.count (pairs_of c.loop-unit.pairs) c.loop-unit.last i c.loop-unit.invariant.1 h
    (λ p e. c.in_default.not-Record p (c.meaning.ensures ∙ sym (said_after ms c.args.from c.loop-unit.unit c.loop-unit.invariant.0) ∙ e))

pub returns : goal.returns
returns g c =
    let ms = meanings_shown g.F.Flash c.args.self.now in
    let i = c.loop-unit.unit - c.args.from in
    let h : c.args.count ≤ i = omega (arith, c.from.ensures, c.loop-unit-test.false, c.loop-unit.auto.unit-end) in
    gathered_all (drop c.args.from ms) c.args.count (pairs_of c.loop-unit.pairs) c.loop-unit.last i c.loop-unit.invariant.1 h
