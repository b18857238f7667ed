use Rattle.std.proofs.Common.{◌≡◌, ◌+◌, ◌≤◌, true, List, [], ◌∷◌, ◌++◌, length, ℤ, w32, vec_items, Ok, sym, ap, ◌∙◌, arith}
use Rattle.std.proofs.lemmas.Int.{to_z-of_z}
use Rattle.std.proofs.lemmas.List.{append_assoc, length-append}
use Rattle.layout.specs.declared.meanings.Pair.{Pair}
use Rattle.layout.specs.Held.{pairs_of, pairs_left}
use Rattle.layout.specs.Catalogue.{admits}
use Rattle.layout.specs.PairLists.{all_admitted}
use Rattle.layout.proofs.WellFormed.{admitted_among, well_formed_parts, well_formed_few, admits_fits}
use Rattle.store.specs.declared.entries.Entry.TheVariants.{Put as did_put}
use Rattle.runs.specs.declared.requests.Request.TheVariants.{Put}
use Rattle.every_cut.specs.declared.asking.ExpectedCall.{ExpectedCall}
use Rattle.every_cut.specs.Asked.{expected_call, open_calls}
use Rattle.every_cut.proofs.Asked.{open_calls-push}
use Rattle.every_cut.proofs.asking.open.Goals as goal

pub overflow_add-count : goal.overflow_add-count
overflow_add-count c =
    let given = c.loop-key.yielded in
    let few = well_formed_few (pairs_of c.args.pairs.now) c.args.pairs.now.ok in
    let long : length given ≤ length (pairs_of c.args.pairs.now) =
    omega (arith, sym (length-append given (pairs_left c.loop-key.key-iterator)), ap length c.loop-key.invariant.rest) in
    omega (arith, few, long, c.loop-key.invariant.counted)

pub loop-key-preserved : goal.loop-key-preserved
loop-key-preserved c =
    let given = c.loop-key.yielded in
    let p = c.in-Some.field-0 in
    let left = pairs_left c.next.new.self in
    let rest : given ++ p ∷ left ≡ pairs_of c.args.pairs.now =
    ap (λ (ps : List Pair). given ++ ps) (sym c.in-Some.ensures.steps) ∙ c.loop-key.invariant.rest in
    let ticket = c.args.ticket in
    let count = c.loop-key.count + 1 in
    let counted : count ≡ length given + 1 = omega (arith, c.loop-key.invariant.counted) in
    let call = expected_call (Put ticket p.key p.value) (did_put ticket p.key p.value (Ok count)) in
    -- a value that the catalogue admits has 32 bits
    let admitted : admits p ≡ true =
    admitted_among given p left (ap all_admitted rest ∙ (well_formed_parts (pairs_of c.args.pairs.now) c.args.pairs.now.ok).1) in
    let same = to_z-of_z w32 p.value (admits_fits p admitted) in
    let pushed : vec_items c.push-in-loop-key.new.self ≡ vec_items c.loop-key.calls ++ call ∷ [] =
    c.in_ok-push-2.ensures.items
    ∙ ap (λ (v : ℤ). vec_items c.loop-key.calls ++ expected_call (Put ticket p.key v) (did_put ticket p.key v (Ok count)) ∷ []) same in
    record {
      counted = omega (arith, c.loop-key.invariant.counted, length-append given (p ∷ []));
      asked = pushed ∙ ap (λ (cs : List ExpectedCall). cs ++ call ∷ []) c.loop-key.invariant.asked
          ∙ append_assoc (vec_items c.args.calls.now) (open_calls ticket given) (call ∷ [])
          ∙ ap (λ (cs : List ExpectedCall). vec_items c.args.calls.now ++ cs) (sym (open_calls-push ticket count given p counted));
      rest = append_assoc given (p ∷ []) left ∙ rest;
    }
