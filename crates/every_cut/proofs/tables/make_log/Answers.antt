use Rattle.std.proofs.Common.{◌≡◌, ◌≤◌, List, length, drop, true, vec_items, sym, ap, ◌∙◌, subst, arith}
use Rattle.std.specs.List.{starts_with}
use Rattle.std.specs.Option.{option_eq}
use Rattle.std.proofs.lemmas.List.{take_all}
use Rattle.simulator.specs.contracts.simulators.calls.SimulatorFlash.TheImpl.{ghosts}
use Rattle.runs.specs.States.{store_state}
use Rattle.runs.specs.Whole.{WholeRun}
use Rattle.runs.specs.declared.requests.Request.{Request}
use Rattle.every_cut.specs.Asked.{calls_before, requests, expected_log}
use Rattle.every_cut.proofs.Entries.{same, begins, numbered_calls_before}
use Rattle.every_cut.proofs.tables.make_log.Goals as goal

pub returns : goal.returns
returns c =
    let way = c.args.way in
    let made = c.in_ok-asked.asked in
    let asked : c.deref.result.now ≡ requests way = c.deref.ensures.value ∙ c.in_ok-asked.ensures.requests in
    let room : length c.deref.result.now ≤ c.in_ok-room.room.most =
    omega (arith, c.in_ok-room.ensures, c.len.ensures, made.requests.ok.0, ap length c.deref.ensures.value) in
    let log = vec_items c.in-Ok.log in
    let expected : starts_with (option_eq same) log (expected_log way) ≡ true =
    (λ i. starts_with (option_eq same) (sym c.deref-2.ensures.value i) (sym (c.deref-3.ensures.value ∙ c.in_ok-asked.ensures.expected) i))
    ∙ sym c.starts_with.ensures.value ∙ c.if-not-starts_with.false in
    record {
      store = store_state ghosts c.in_ok-store.store;
      blank = c.in_ok-store.ensures;
      after = store_state ghosts c.format_and_make_calls.new.store;
      run = subst (λ (qs : List Request). WholeRun ghosts (store_state ghosts c.in_ok-store.store) qs log (store_state ghosts c.format_and_make_calls.new.store))
          (take_all c.in_ok-room.room.most c.deref.result.now room ∙ asked) c.in-Ok.ensures.run;
      rest = drop (length (expected_log way)) log;
      begins = begins (calls_before way) log (numbered_calls_before way) expected;
    }
