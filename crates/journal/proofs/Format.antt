-- Format, with charge for its three writes.
use Rattle.std.proofs.Common.{◌≡◌, ℕ, suc, ◌-◌, ◌<◌, ◌≤◌, List, [], ◌∷◌, length, get_or, set, replicate, Some, sym, refl, ap, ◌∙◌, subst, inl, arith}
use Rattle.std.proofs.lemmas.List.{length-set}
use Rattle.flash.specs.declared.units.Unit.{Unit as Cell}
use Rattle.flash.specs.declared.units.Unit.TheVariants.{Blank, Programmed}
use Rattle.layout.specs.declared.meanings.Meaning.TheVariants.{Noise}
use Rattle.layout.specs.Codec.{header_value}
use Rattle.layout.proofs.Decoding.{header_read}
use Rattle.journal.specs.Reading.{meanings, Opening, opening, end_of, Banks, bank, reads}
use Rattle.journal.specs.Writes.{program, erase, done}
use Rattle.journal.specs.Commit.{formatting, formatted}
use Rattle.journal.proofs.Charges.{Leaves, AllReady}
use Rattle.journal.proofs.Growth.{steps_noise}
use Rattle.journal.proofs.Programs.{bank_same, bank_other, leaves_all, meanings_blank}
use Rattle.journal.proofs.End.{end_blank}
use Rattle.journal.proofs.Move.{fresh_opens}
use Rattle.journal.proofs.Active.{Loses, Active, active_reads}

module _ (size : ℕ) (bs : Banks) (two : 2 ≤ length bs) (enough : 64 ≤ size) where
  blank : List Cell
  blank = replicate size Blank

  once : Banks
  once = done size (erase 0) bs

  twice : Banks
  twice = done size (erase 1) once

  thrice : Banks
  thrice = done size (program 0 0 (header_value 0 0)) twice

  once_0 : bank 0 once ≡ blank
  unfolding once blank
  once_0 = bank_same bs 0 (replicate size Blank) (omega arith)

  once_long : length once ≡ length bs
  unfolding once
  once_long = length-set bs 0 (replicate size Blank)

  twice_long : length twice ≡ length bs
  unfolding twice
  twice_long = length-set once 1 (replicate size Blank) ∙ once_long

  twice_0 : bank 0 twice ≡ blank
  unfolding twice
  twice_0 = bank_other once 1 0 (replicate size Blank) (omega arith) ∙ once_0

  twice_1 : bank 1 twice ≡ blank
  unfolding twice blank
  twice_1 = bank_same once 1 (replicate size Blank) (omega (arith, once_long))

  blank_is : blank ≡ Blank ∷ replicate (size - 1) Blank
  unfolding blank
  blank_is = let e : size ≡ suc (size - 1) = omega arith in ap (λ n. replicate n Blank) e

  thrice_0 : bank 0 thrice ≡ Programmed (header_value 0 0) ∷ replicate (size - 1) Blank
  unfolding thrice
  thrice_0 =
      bank_same twice 0 (set (bank 0 twice) 0 (Programmed (header_value 0 0))) (omega (arith, twice_long))
      ∙ ap (λ us. set us 0 (Programmed (header_value 0 0))) (twice_0 ∙ blank_is)

  thrice_1 : bank 1 thrice ≡ Blank ∷ replicate (size - 1) Blank
  unfolding thrice
  thrice_1 = bank_other twice 0 1 (set (bank 0 twice) 0 (Programmed (header_value 0 0))) (omega arith) ∙ twice_1 ∙ blank_is

  pub format_ready : AllReady size formatting bs
  unfolding once twice
  format_ready =
      let first : 0 < size = omega arith in
      let is_blank : get_or (bank 0 twice) 0 Blank ≡ Blank = ap (λ us. get_or us 0 Blank) (twice_0 ∙ blank_is) in
      let in-0 : 0 < length bs = omega arith in
      let in-1 : 1 < length once = omega (arith, once_long) in
      let in-2 : 0 < length twice = omega (arith, twice_long) in
      (in-0, (in-1, ((in-2, first, is_blank), tt)))

  abbrev empty : Opening
  empty = record { number = 0; pairs = []; rest = replicate (size - 1) Noise }

  thrice_active : Active thrice 0 empty
  thrice_active = record {
    which = inl refl;
    opens =
        ap (λ us. opening (meanings us)) thrice_0
        ∙ (λ i. opening (header_read 0 0 (omega arith) (omega arith) i ∷ meanings_blank (size - 1) i))
        ∙ fresh_opens 0 [] (size - 1) refl;
    loses = subst (λ us. Loses 0 (opening (meanings us)) empty) (sym thrice_1) tt;
  }

  thrice_reads : reads thrice ≡ Some formatted
  thrice_reads =
      let q = steps_noise (size - 1) (record { number = 0; pairs = []; run = [] }) in
      let ends : end_of (bank 0 thrice) ≡ 1 = ap end_of thrice_0 ∙ ap suc (end_blank (size - 1)) in
      active_reads thrice 0 empty thrice_active ∙ ap Some (λ i. record { active = 0; pairs = q.1 i; number = q.0 i; end = ends i })

  pub format_done : (charge : ℕ) (after : Banks) → Leaves size charge formatting bs after → 3 ≤ charge → reads after ≡ Some formatted
  unfolding once twice thrice
  format_done charge after l h = ap reads (leaves_all size charge formatting bs after h l) ∙ thrice_reads
