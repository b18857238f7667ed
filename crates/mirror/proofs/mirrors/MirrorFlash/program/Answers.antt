use Rattle.std.proofs.Common.{◌≡◌, sym, ◌∙◌}
use Rattle.flash.specs.declared.units.Unit.TheVariants.{Blank}
use Rattle.flash.specs.FlashState.{unit_at}
use Rattle.flash.specs.Seen.{seen}
use Rattle.mirror.specs.Mirrored.{mirrored}
use Rattle.mirror.proofs.Mirroring.{program_by_sides, program_let_through, program_untouched, programmed_through}
use Rattle.mirror.proofs.mirrors.MirrorFlash.program.Goals as goal

pub returns-in-Blank : goal.returns-in-Blank
returns-in-Blank g c =
    let a = seen g.A.Flash c.args.self.now.first in
    let b = seen g.B.Flash c.args.self.now.second in
    let read = c.in_ok-read.ensures.reads in
    let free : unit_at (mirrored a b) c.args.bank c.args.unit ≡ Blank = sym read.value ∙ c.in-Blank.is in
    let wa = g.met.A.Flash.formed c.args.self.now.first in
    let wb = g.met.B.Flash.formed c.args.self.now.second in
    let through = program_let_through a b c.args.bank c.args.unit c.args.value wa wb read.accepted free in
    let both = program_by_sides g.A.Fault.FlashFault g.B.Fault.FlashFault a b c.args.bank c.args.unit c.args.value wa wb read.accepted free
    (seen g.A.Flash c.program_sides.new.self.first) (seen g.B.Flash c.program_sides.new.self.second) c.program_sides.result c.program_sides.ensures.sides in
    record {
      programs = both.0;
      sides = c.program_sides.ensures.sides;
      cuts = both.1;
      untouched = program_untouched g.A.Fault.FlashFault g.B.Fault.FlashFault c.args.self.now c.program_sides.new.self c.program_sides.result both.1 c.program_sides.ensures.left;
      programmed = (programmed_through g.A.Flash g.B.Flash c.args.self.now.first c.args.self.now.second c.args.bank c.program_sides.new.self.first c.program_sides.new.self.second c.args.unit c.args.value through c.program_sides.ensures.programmed, c.program_sides.ensures.plans);
      left = c.program_sides.ensures.left;
      plans = c.program_sides.ensures.plans;
    }
