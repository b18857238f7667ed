use Rattle.std.proofs.Common.{◌≡◌, ◌<◌, true, length, sym, ◌∙◌, arith}
use Rattle.std.proofs.lemmas.Bool.{and_from}
use Rattle.flash.specs.Seen.{seen}
use Rattle.mirror.specs.Mirrored.{mirrored}
use Rattle.mirror.proofs.Mirroring.{erase_by_sides, erase_let_through, erase_untouched, erased_through}
use Rattle.mirror.proofs.mirrors.MirrorFlash.erase.Goals as goal

pub returns : goal.returns
returns g c =
    let a = seen g.A.Flash c.args.self.now.first in
    let b = seen g.B.Flash c.args.self.now.second in
    let on : (mirrored a b).on ≡ true = and_from a.on b.on (sym c.is_on.ensures ∙ c.if-not-is_on.false) (sym c.is_on-else-not-is_on.ensures ∙ c.if-not-is_on-2.false) in
    let there : c.args.bank < length (mirrored a b).units = omega (arith, c.banks.ensures.count, c.if-bank-banks.false) in
    let wa = g.met.A.Flash.formed c.args.self.now.first in
    let wb = g.met.B.Flash.formed c.args.self.now.second in
    let through = erase_let_through a b c.args.bank wa wb on there in
    let both = erase_by_sides g.A.Fault.FlashFault g.B.Fault.FlashFault a b c.args.bank wa wb on there
    (seen g.A.Flash c.erase_sides.new.self.first) (seen g.B.Flash c.erase_sides.new.self.second) c.erase_sides.result c.erase_sides.ensures.sides in
    record {
      erases = both.0;
      sides = c.erase_sides.ensures.sides;
      cuts = both.1;
      untouched = erase_untouched g.A.Fault.FlashFault g.B.Fault.FlashFault c.args.self.now c.erase_sides.new.self c.erase_sides.result both.1 c.erase_sides.ensures.left;
      erased = (erased_through g.A.Flash g.B.Flash c.args.self.now.first c.args.self.now.second c.args.bank c.erase_sides.new.self.first c.erase_sides.new.self.second through c.erase_sides.ensures.erased, c.erase_sides.ensures.plans);
      left = c.erase_sides.ensures.left;
      plans = c.erase_sides.ensures.plans;
    }
