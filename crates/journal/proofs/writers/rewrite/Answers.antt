use Rattle.std.proofs.Common.{◌≡◌, ℕ, [], ◌∷◌, ◌++◌, length, Err, Result, sym, ap, ◌∙◌, subst, rules}
use Rattle.flash.specs.Seen.{seen}
use Rattle.layout.specs.Codec.{header_value}
use Rattle.layout.specs.Held.{pairs_of}
use Rattle.journal.specs.Commit.{records, moving}
use Rattle.journal.specs.Writes.{Performed, WroteThrough, program, erase}
use Rattle.journal.proofs.Performing.{program_performed, performed_append, performed_short, erase_then}
use Rattle.journal.proofs.Chaining.{erase_goes_on, program_alone, chain_append, chain_short}
use Rattle.journal.proofs.writers.rewrite.Goals as goal

pub returns-in_err-program_records-clause-writes : goal.returns-in_err-program_records-clause-writes
returns-in_err-program_records-clause-writes g c =
    let ps = pairs_of c.args.pairs.now in
    let t = g.F.Fault.FlashFault in
    let b = c.args.bank in
    let s = seen g.F.Flash c.args.flash.now in
    let k = seen g.F.Flash c.erase.new.self in
    let s' = seen g.F.Flash c.program_records.new.flash in
    let e = c.in_err-program_records.field-0.0 in
    let top = program b 0 (header_value (length ps) c.args.number) ∷ [] in
    let is : c.from_residual-in_err-program_records.result ≡ Err e = search rules in
    subst (λ (r : Result (Unit {0}) g.row.F-Fault.Denot). Performed t (moving b ps c.args.number) s s' r) (sym is)
    (erase_then t s b k (records b 1 ps ++ top) s' (Err e) c.in_ok-erase.ensures.erases
    (performed_short t ℕ (Unit {0}) (records b 1 ps) top k s' e c.in_err-program_records.ensures.writes))

pub returns-clause-writes : goal.returns-clause-writes
returns-clause-writes g c =
    let ps = pairs_of c.args.pairs.now in
    let t = g.F.Fault.FlashFault in
    let b = c.args.bank in
    let s = seen g.F.Flash c.args.flash.now in
    let k = seen g.F.Flash c.erase.new.self in
    let m = seen g.F.Flash c.program_records.new.flash in
    let s' = seen g.F.Flash c.program.new.self in
    let v = c.encode_header.result in
    let e : v ≡ header_value (length ps) c.args.number = c.encode_header.ensures.value ∙ ap (λ j. header_value j c.args.number) c.len.ensures.len in
    subst (λ x. Performed t (erase b ∷ records b 1 ps ++ program b 0 x ∷ []) s s' c.program.result) e
    (erase_then t s b k (records b 1 ps ++ program b 0 v ∷ []) s' c.program.result c.in_ok-erase.ensures.erases
    (performed_append t (records b 1 ps) (program b 0 v ∷ []) k m s' _ c.program.result
    c.in_ok-program_records.ensures.writes (program_performed t m b 0 v s' c.program.result c.program.ensures.programs)))

pub returns-in_err-program_records-clause-itself : goal.returns-in_err-program_records-clause-itself
returns-in_err-program_records-clause-itself g c =
    let ps = pairs_of c.args.pairs.now in
    let t = g.F.Fault.FlashFault in
    let b = c.args.bank in
    let f' = c.program_records.new.flash in
    let top = program b 0 (header_value (length ps) c.args.number) ∷ [] in
    erase_goes_on g.F.Flash t b (records b 1 ps ++ top) c.args.flash.now c.erase.new.self f' c.in_ok-erase.ensures.erases c.in_ok-erase.ensures.erased
    (chain_short g.F.Flash t ℕ (records b 1 ps) top c.erase.new.self f' c.in_err-program_records.field-0.0
    c.in_err-program_records.ensures.writes c.in_err-program_records.ensures.itself)

pub returns-clause-itself : goal.returns-clause-itself
returns-clause-itself g c =
    let ps = pairs_of c.args.pairs.now in
    let t = g.F.Fault.FlashFault in
    let b = c.args.bank in
    let k = c.erase.new.self in
    let m = c.program_records.new.flash in
    let f' = c.program.new.self in
    let v = c.encode_header.result in
    let e : v ≡ header_value (length ps) c.args.number = c.encode_header.ensures.value ∙ ap (λ j. header_value j c.args.number) c.len.ensures.len in
    subst (λ x. WroteThrough g.F.Flash (erase b ∷ records b 1 ps ++ program b 0 x ∷ []) c.args.flash.now f') e
    (erase_goes_on g.F.Flash t b (records b 1 ps ++ program b 0 v ∷ []) c.args.flash.now k f' c.in_ok-erase.ensures.erases c.in_ok-erase.ensures.erased
    (chain_append g.F.Flash t (records b 1 ps) (program b 0 v ∷ []) k m f' _ c.in_ok-program_records.ensures.writes c.in_ok-program_records.ensures.itself
    (program_alone g.F.Flash t b 0 v m f' c.program.result c.program.ensures.programs c.program.ensures.programmed c.program.ensures.untouched)))
