use Rattle.std.proofs.Common.{sym, subst, rules}
use Rattle.flash.specs.Seen.{seen}
use Rattle.store.specs.Stops.{FormatWrites}
use Rattle.store.proofs.Stopping.{format_writes, stopped_is}
use Rattle.store.proofs.flashes.power_up_and_format.Goals as goal

pub returns : goal.returns
returns g c =
    let t = g.F.Fault.FlashFault in
    let p = seen g.F.Flash c.power_up.new.self in
    let s' = seen g.F.Flash c.format_banks.new.flash in
    let r = c.format_banks.result in
    record {
      powered = c.power_up.new.self;
      power_up = record { powered = c.power_up.ensures.powered; meaning = c.power_up.ensures.powers; plan = c.power_up.ensures.plan };
      run = subst (λ x. FormatWrites p x s') (sym (stopped_is t _ (λ e why p. search rules) r c.map_err.result c.map_err.ensures.cases))
          (format_writes t p s' r c.format_banks.ensures.writes c.format_banks.ensures.empty);
      writes = c.format_banks.ensures.itself;
      plan = c.format_banks.ensures.plan;
    }
