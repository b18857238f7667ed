use Rattle.std.proofs.Common.{rules}
use Rattle.runs.specs.States.{store_state}
use Rattle.runs.proofs.Wholes.{whole_run}
use Rattle.runs.proofs.running.format_and_make_calls.Goals as goal

pub returns-in-Ok-clause-run : goal.returns-in-Ok-clause-run
returns-in-Ok-clause-run g c =
    whole_run g.F.Flash (store_state g.F.Flash c.args.store.now) (store_state g.F.Flash c.format.new.self) _ _ (store_state g.F.Flash c.make_calls.new.store) c.format.result c.in-Ok.field-0 (search rules)
    c.format.ensures.does c.format.ensures.flash c.format.ensures.past c.make_calls.ensures.run
