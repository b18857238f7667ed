use Rattle.std.proofs.Common.{arith, ◌∙◌, sym}
use Rattle.std.proofs.lemmas.Bool.Decides.{nat_tests}
use Rattle.image.proofs.ImageNumbers.{be_2, short_unmarked, other_mark, mark_then_version}
use Rattle.image.proofs.headers.is_marked.Goals as goal
use Rattle.image.proofs.headers.is_marked.Goals.{then-bytes-ge-HEADER_SIZE, else-bytes-ge-HEADER_SIZE}

pub returns-then-starts_with : goal.returns-then-starts_with
returns-then-starts_with c =
    let bs = c.args.bytes.now in
    let part = (rw c.unwrap.ensures at c.try_into.ensures.1).same in
    let version = (rw part at c.from_be_bytes.ensures) ∙ be_2 bs 3 c.type_inv.bytes in
    elim c.if-bytes-ge-HEADER_SIZE.branch [
      | then-bytes-ge-HEADER_SIZE w ↦ mark_then_version bs c.type_inv.bytes w.if-bytes-ge-HEADER_SIZE.true w.starts_with.result w.starts_with.ensures.value (sym w.value-is ∙ c.if-starts_with.true) c.from_be_bytes.result version
      | else-bytes-ge-HEADER_SIZE w ↦ absurd (let h = sym w.value-is ∙ c.if-starts_with.true in let l = w.if-bytes-ge-HEADER_SIZE.false in grind (arith, nat_tests))
    ]

pub returns-else-starts_with : goal.returns-else-starts_with
returns-else-starts_with c =
    let bs = c.args.bytes.now in
    elim c.if-bytes-ge-HEADER_SIZE.branch [
      | then-bytes-ge-HEADER_SIZE w ↦ c.if-starts_with.false ∙ other_mark bs c.type_inv.bytes w.if-bytes-ge-HEADER_SIZE.true w.starts_with.result w.starts_with.ensures.value (sym w.value-is ∙ c.if-starts_with.false)
      | else-bytes-ge-HEADER_SIZE w ↦ c.if-starts_with.false ∙ short_unmarked bs w.if-bytes-ge-HEADER_SIZE.false
    ]
