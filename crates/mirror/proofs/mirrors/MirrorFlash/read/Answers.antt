use Rattle.std.proofs.Common.{◌≡◌, true, false, sym, ap, ◌∙◌, arith}
use Rattle.flash.specs.Seen.{seen}
use Rattle.flash.specs.FlashState.{unit_at}
use Rattle.mirror.specs.Mirrored.{mixed}
use Rattle.mirror.proofs.Mirroring.{mirror_accepts, mirror_holds, sides_accept, reads_ok, reads_unit}
use Rattle.mirror.proofs.mirrors.MirrorFlash.read.Goals as goal

-- a side does not refuse a read that the mirror lets through
pub returns-in_err-a : goal.returns-in_err-a
returns-in_err-a g c =
    let a = seen g.A.Flash c.args.self.now.first in
    let b = seen g.B.Flash c.args.self.now.second in
    let accepted = mirror_accepts a b c.args.bank c.args.unit (sym c.is_on.ensures ∙ c.if-not-is_on.false) (sym c.is_on-else-not-is_on.ensures ∙ c.if-not-is_on-2.false)
    (omega (arith, c.banks.ensures.count, c.if-bank-banks.false)) (omega (arith, c.units_per_bank.ensures.count, c.if-unit-units_per_bank.false)) in
    let sides = sides_accept a b c.args.bank c.args.unit accepted in
    let read = reads_ok g.A.Fault.FlashFault a c.args.bank c.args.unit c.read.result c.read.ensures.reads sides.0 in
    let none : false ≡ true = c.in_err-a.ensures.variant ∙ read in
    cc none

pub returns-in_err-b : goal.returns-in_err-b
returns-in_err-b g c =
    let a = seen g.A.Flash c.args.self.now.first in
    let b = seen g.B.Flash c.args.self.now.second in
    let accepted = mirror_accepts a b c.args.bank c.args.unit (sym c.is_on.ensures ∙ c.if-not-is_on.false) (sym c.is_on-else-not-is_on.ensures ∙ c.if-not-is_on-2.false)
    (omega (arith, c.banks.ensures.count, c.if-bank-banks.false)) (omega (arith, c.units_per_bank.ensures.count, c.if-unit-units_per_bank.false)) in
    let sides = sides_accept a b c.args.bank c.args.unit accepted in
    let read = reads_ok g.B.Fault.FlashFault b c.args.bank c.args.unit c.read-2.result c.read-2.ensures.reads sides.1 in
    let none : false ≡ true = c.in_err-b.ensures.variant ∙ read in
    cc none

pub returns : goal.returns
returns g c =
    let a = seen g.A.Flash c.args.self.now.first in
    let b = seen g.B.Flash c.args.self.now.second in
    let accepted = mirror_accepts a b c.args.bank c.args.unit (sym c.is_on.ensures ∙ c.if-not-is_on.false) (sym c.is_on-else-not-is_on.ensures ∙ c.if-not-is_on-2.false)
    (omega (arith, c.banks.ensures.count, c.if-bank-banks.false)) (omega (arith, c.units_per_bank.ensures.count, c.if-unit-units_per_bank.false)) in
    let sides = sides_accept a b c.args.bank c.args.unit accepted in
    let x = reads_unit g.A.Fault.FlashFault a c.args.bank c.args.unit _ c.read.result c.map_err.result c.in_ok-a.a c.read.ensures.reads sides.0 c.map_err.ensures.cases c.in_ok-a.was in
    let y = reads_unit g.B.Fault.FlashFault b c.args.bank c.args.unit _ c.read-2.result c.map_err-2.result c.in_ok-b.b c.read-2.ensures.reads sides.1 c.map_err-2.ensures.cases c.in_ok-b.was in
    let held = mirror_holds a b c.args.bank c.args.unit (g.met.A.Flash.formed c.args.self.now.first) (g.met.B.Flash.formed c.args.self.now.second) accepted in
    let mix : c.mix.result ≡ mixed (unit_at a c.args.bank c.args.unit) (unit_at b c.args.bank c.args.unit) = c.mix.ensures ∙ ap (λ z. mixed z c.in_ok-b.b) x ∙ ap (mixed _) y in
    record { reads = record { accepted = accepted; value = mix ∙ sym held }; sides = mix }
