use Rattle.std.proofs.Common.{[], ◌∷◌, subst, rules}
use Rattle.flash.specs.Seen.{seen}
use Rattle.journal.specs.Writes.{WroteThrough, program, erase}
use Rattle.journal.proofs.Charging.{format_outcome}
use Rattle.journal.proofs.Chaining.{erase_goes_on, program_alone}
use Rattle.journal.proofs.writers.format_banks.Goals as goal

pub returns-clause-empty : goal.returns-clause-empty
returns-clause-empty g c =
    format_outcome g.F.Fault.FlashFault (seen g.F.Flash c.args.flash.now) (g.met.F.Flash.formed c.args.flash.now) (seen g.F.Flash c.program.new.self) c.program.result (search rules)

pub returns-clause-itself : goal.returns-clause-itself
returns-clause-itself g c =
    let t = g.F.Fault.FlashFault in
    let one = c.erase.new.self in
    let two = c.erase-2.new.self in
    let f' = c.program.new.self in
    let v = c.encode_header.result in
    let last = program 0 0 v ∷ [] in
    subst (λ x. WroteThrough g.F.Flash (erase 0 ∷ erase 1 ∷ program 0 0 x ∷ []) c.args.flash.now f') c.encode_header.ensures.value
    (erase_goes_on g.F.Flash t 0 (erase 1 ∷ last) c.args.flash.now one f' c.in_ok-erase.ensures.erases c.in_ok-erase.ensures.erased
    (erase_goes_on g.F.Flash t 1 last one two f' c.in_ok-erase-2.ensures.erases c.in_ok-erase-2.ensures.erased
    (program_alone g.F.Flash t 0 0 v two f' c.program.result c.program.ensures.programs c.program.ensures.programmed c.program.ensures.untouched)))
