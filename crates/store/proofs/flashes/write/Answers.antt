use Rattle.std.proofs.Common.{ℕ, sym, subst, rules}
use Rattle.flash.specs.Seen.{seen}
use Rattle.layout.specs.Held.{pairs_of}
use Rattle.journal.specs.Log.{reading_of}
use Rattle.journal.specs.Writes.{Performed, WroteThrough}
use Rattle.journal.specs.Commit.{commit_writes}
use Rattle.journal.specs.Outcomes.{WholeOrAbsentAfter}
use Rattle.store.specs.Stops.{CommitRun}
use Rattle.store.proofs.Stopping.{commit_run, stopped_is}
use Rattle.store.proofs.flashes.write.Goals as goal

pub returns-clause-run : goal.returns-clause-run
returns-clause-run g c =
    let t = g.F.Fault.FlashFault in
    let s = seen g.F.Flash c.args.flash.now in
    let s' = seen g.F.Flash c.write_change.new.flash in
    let r = reading_of c.args.standing.now in
    let ps = pairs_of c.args.change.now in
    let a = c.write_change.result in
    subst (λ x. CommitRun s r ps x s') (sym (stopped_is t _ (λ e why p. search rules) a c.map_err.result c.map_err.ensures.cases))
    (commit_run t s r ps s' a
    (subst (λ (n : ℕ). Performed t (commit_writes s.width r ps n) s s' a) c.requires c.write_change.ensures.writes)
    (subst (λ (n : ℕ). WholeOrAbsentAfter t s r ps n s' a) c.requires c.write_change.ensures.whole_or_absent))

pub returns-clause-itself : goal.returns-clause-itself
returns-clause-itself g c =
    let f = c.args.flash.now in
    let ws = commit_writes (g.F.Flash.width f) (reading_of c.args.standing.now) (pairs_of c.args.change.now) in
    record {
      writes = subst (λ (n : ℕ). WroteThrough g.F.Flash (ws n) f c.write_change.new.flash) c.requires c.write_change.ensures.itself;
      plan = c.write_change.ensures.plan;
    }
