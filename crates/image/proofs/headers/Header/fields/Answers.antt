use Rattle.std.proofs.Common.{arith, ◌≡◌, ◌∙◌, sym}
use Rattle.image.specs.ImageStates.{image_banks, image_width, image_charge, image_supply}
use Rattle.image.proofs.ImageNumbers.{be_1, be_2, be_4}
use Rattle.image.proofs.headers.Header.fields.Goals as goal

pub returns : goal.returns
returns c =
    let bs = c.args.bytes.now in
    let banks : c.from.result ≡ image_banks bs = c.from.ensures ∙ sym (be_1 bs 5 (omega (arith, c.type_inv.bytes 5))) in
    let width : c.from-2.result ≡ image_width bs = c.from-2.ensures ∙ (rw (rw c.unwrap.ensures at c.try_into.ensures.1).same at c.from_be_bytes.ensures) ∙ be_2 bs 6 c.type_inv.bytes in
    let charge : c.from_be_bytes-2.result ≡ image_charge bs = (rw (rw c.unwrap-2.ensures at c.try_into-2.ensures.1).same at c.from_be_bytes-2.ensures) ∙ be_4 bs 8 c.type_inv.bytes in
    let supply : c.from_be_bytes-3.result ≡ image_supply bs = (rw (rw c.unwrap-3.ensures at c.try_into-3.ensures.1).same at c.from_be_bytes-3.ensures) ∙ be_4 bs 12 c.type_inv.bytes in
    rw (banks, width, charge, supply)
