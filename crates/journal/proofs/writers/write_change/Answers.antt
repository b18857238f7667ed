use Rattle.std.proofs.Common.{rules}
use Rattle.flash.specs.Seen.{seen}
use Rattle.layout.specs.Held.{pairs_of}
use Rattle.journal.specs.Log.{reading_of}
use Rattle.journal.proofs.Charging.{commit_outcome}
use Rattle.journal.proofs.writers.write_change.Goals as goal

pub returns-then-is_room-clause-whole_or_absent : goal.returns-then-is_room-clause-whole_or_absent
returns-then-is_room-clause-whole_or_absent g c =
    commit_outcome g.F.Fault.FlashFault (seen g.F.Flash c.args.flash.now) (g.met.F.Flash.formed c.args.flash.now) (reading_of c.args.standing.now) (pairs_of c.args.change.now)
    c.args.number (seen g.F.Flash c.append.new.flash) c.append.result c.args.change.now.ok c.ranges.number.fits (search rules)

pub returns-else-is_room-clause-whole_or_absent : goal.returns-else-is_room-clause-whole_or_absent
returns-else-is_room-clause-whole_or_absent g c =
    commit_outcome g.F.Fault.FlashFault (seen g.F.Flash c.args.flash.now) (g.met.F.Flash.formed c.args.flash.now) (reading_of c.args.standing.now) (pairs_of c.args.change.now)
    c.args.number (seen g.F.Flash c.rewrite.new.flash) c.rewrite.result c.args.change.now.ok c.ranges.number.fits (search rules)
