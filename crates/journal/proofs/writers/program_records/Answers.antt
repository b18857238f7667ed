use Rattle.std.proofs.Common.{◌≡◌, ℕ, ◌+◌, [], ◌∷◌, ◌++◌, Err, Result, sym, ap, ◌∙◌, subst, rules, arith}
use Rattle.std.proofs.lemmas.List.{append_assoc, length-append}
use Rattle.flash.specs.Seen.{seen}
use Rattle.layout.specs.Held.{pairs_of, pairs_left}
use Rattle.journal.specs.Commit.{records}
use Rattle.journal.specs.Writes.{Performed}
use Rattle.journal.proofs.Performing.{Onward, onward_none, record_done, record_stopped, records_end}
use Rattle.journal.proofs.Chaining.{OnwardItself, itself_none, itself_end, itself_done, itself_stopped}
use Rattle.journal.proofs.writers.program_records.Goals as goal

pub loop-i-init : goal.loop-i-init
loop-i-init g c =
    let ws = records c.args.bank c.args.from (pairs_of c.args.pairs.now) in
    let s = seen g.F.Flash c.args.flash.now in
    let begins : c.args.from + 0 ≡ c.args.from = omega arith in
    let all : ws ≡ records c.args.bank (c.args.from + 0) _ = λ i. records c.args.bank (sym begins i) (sym c.iter-pair-items.ensures i) in
    record {
      next = search rules;
      fits = search rules;
      rest = c.iter-pair-items.ensures;
      onward = subst (λ l. Onward g.F.Fault.FlashFault ℕ ws s l s) all (onward_none g.F.Fault.FlashFault ℕ ws s);
      itself = subst (λ l. OnwardItself g.F.Flash g.F.Fault.FlashFault ws c.args.flash.now l c.args.flash.now) all (itself_none g.F.Flash g.F.Fault.FlashFault ws c.args.flash.now);
      plan = search rules;
    }

pub returns-in_err-program-clause-writes : goal.returns-in_err-program-clause-writes
returns-in_err-program-clause-writes g c =
    let t = g.F.Fault.FlashFault in
    let ws = records c.args.bank c.args.from (pairs_of c.args.pairs.now) in
    let s = seen g.F.Flash c.args.flash.now in
    let s' = seen g.F.Flash c.program.new.self in
    let e = c.in_err-program.field-0.0 in
    let is : c.from_residual.result ≡ Err e = search rules in
    subst (λ (r : Result ℕ g.row.F-Fault.Denot). Performed t ws s s' r) (sym is)
    (record_stopped t ℕ ws s c.args.bank (c.args.from + c.loop-i.i) _ c.in-Some.pair _ (seen g.F.Flash c.loop-i.flash) s' c.in-Some.ensures.steps c.encode_record.result
    c.encode_record.ensures.value c.loop-i.invariant.onward e c.in_err-program.ensures.programs)

pub loop-i-preserved : goal.loop-i-preserved
loop-i-preserved g c =
    let t = g.F.Fault.FlashFault in
    let ws = records c.args.bank c.args.from (pairs_of c.args.pairs.now) in
    let s = seen g.F.Flash c.args.flash.now in
    let given = c.loop-i.yielded in
    let p = c.in-Some.pair in
    let left = pairs_left c.next.new.self in
    let at = c.args.from + c.loop-i.i in
    let further : at + 1 ≡ c.args.from + (c.loop-i.i + 1) = omega arith in
    record {
      next = omega (arith, c.loop-i.invariant.next, length-append given (p ∷ []));
      fits = search rules;
      rest = append_assoc given (p ∷ []) left ∙ ap (λ l. given ++ l) (sym c.in-Some.ensures.steps) ∙ c.loop-i.invariant.rest;
      onward =
          subst (λ u. Onward t ℕ ws s (records c.args.bank u left) (seen g.F.Flash c.program.new.self)) further
          (record_done t ℕ ws s c.args.bank at _ p left (seen g.F.Flash c.loop-i.flash) (seen g.F.Flash c.program.new.self) c.in-Some.ensures.steps
          c.encode_record.result c.encode_record.ensures.value c.loop-i.invariant.onward c.in_ok-program.ensures.programs);
      itself =
          subst (λ u. OnwardItself g.F.Flash t ws c.args.flash.now (records c.args.bank u left) c.program.new.self) further
          (itself_done g.F.Flash t ws c.args.flash.now c.args.bank at _ p left c.loop-i.flash c.program.new.self c.in-Some.ensures.steps
          c.encode_record.result c.encode_record.ensures.value c.loop-i.invariant.itself c.in_ok-program.ensures.programmed c.in_ok-program.ensures.programs);
      plan = c.in_ok-program.ensures.plan ∙ c.loop-i.invariant.plan;
    }

pub returns-clause-writes : goal.returns-clause-writes
returns-clause-writes g c =
    records_end g.F.Fault.FlashFault ℕ (records c.args.bank c.args.from (pairs_of c.args.pairs.now)) (seen g.F.Flash c.args.flash.now) c.args.bank (c.args.from + c.loop-i.i) _
    (seen g.F.Flash c.loop-i.flash) (c.args.from + c.len.result) c.in-None.ensures.steps.0 c.loop-i.invariant.onward

pub returns-in_err-program-clause-itself : goal.returns-in_err-program-clause-itself
returns-in_err-program-clause-itself g c =
    itself_stopped g.F.Flash g.F.Fault.FlashFault (records c.args.bank c.args.from (pairs_of c.args.pairs.now)) c.args.flash.now c.args.bank (c.args.from + c.loop-i.i) _ c.in-Some.pair _
    c.loop-i.flash c.program.new.self c.in-Some.ensures.steps c.encode_record.result c.encode_record.ensures.value c.loop-i.invariant.itself c.in_err-program.ensures.programmed
    c.in_err-program.field-0.0 c.in_err-program.ensures.programs c.in_err-program.ensures.untouched

pub returns-clause-itself : goal.returns-clause-itself
returns-clause-itself g c =
    itself_end g.F.Flash g.F.Fault.FlashFault (records c.args.bank c.args.from (pairs_of c.args.pairs.now)) c.args.flash.now c.args.bank (c.args.from + c.loop-i.i) _ c.loop-i.flash
    c.in-None.ensures.steps.0 c.loop-i.invariant.itself
