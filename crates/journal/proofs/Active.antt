-- The active bank, by its own header and the other bank's.
use Rattle.std.proofs.Common.{◌≡◌, ℕ, zero, suc, ◌<◌, ◌≤◌, Bool, true, false, cond, ltb, ◌⊎◌, List, Some, None, Option, sym, refl, ap, ◌∙◌, subst, inl, inr}
use Rattle.std.proofs.lemmas.Bool.{lt-ltb, le-ltb, ltb-true, ltb-false, cond-true, cond-false}
use Rattle.flash.specs.declared.units.Unit.{Unit as Cell}
use Rattle.std.specs.Option.{option_map}
use Rattle.journal.specs.Reading.{active_bank, header_number, reads_bank, meanings, Opening, opening, Banks, bank, Reading, reading_in, reads}
use Rattle.journal.specs.Commit.{other}
use Rattle.journal.proofs.Growth.{none_some, some_inj}

-- bank a's header, lawful with o, wins over what the other bank has
abbrev pub Loses : ℕ → Option Opening → Opening → Type 0
Loses a None o = Unit {0}
Loses zero (Some y) o = y.number ≤ o.number
Loses (suc a) (Some y) o = y.number < o.number

pub record Active (bs : Banks) (a : ℕ) (o : Opening) : Type 0 where
  pub which : (a ≡ 0) ⊎ (a ≡ 1)
  pub opens : opening (meanings (bank a bs)) ≡ Some o
  pub loses : Loses a (opening (meanings (bank (other a) bs))) o

header_some : (us : List Cell) (o : Opening) → opening (meanings us) ≡ Some o → header_number us ≡ Some o.number
header_some us o e = ap (option_map (λ (x : Opening). x.number)) e

active_0 : (y : Option Opening) (o : Opening) → Loses 0 y o → active_bank (Some o.number) (option_map (λ (x : Opening). x.number) y) ≡ Some 0
active_0 None o l = refl
active_0 (Some y) o l = cond-false (ltb o.number y.number) (Some 1) (Some 0) (le-ltb o.number y.number l)

active_1 : (x : Option Opening) (o : Opening) → Loses 1 x o → active_bank (option_map (λ (y : Opening). y.number) x) (Some o.number) ≡ Some 1
active_1 None o l = refl
active_1 (Some x) o l = cond-true (ltb x.number o.number) (Some 1) (Some 0) (lt-ltb x.number o.number l)

reads_0 : (bs : Banks) (o : Opening) → opening (meanings (bank 0 bs)) ≡ Some o → Loses 0 (opening (meanings (bank 1 bs))) o → reads bs ≡ Some (reading_in bs 0 o)
unfolding reads
reads_0 bs o e l =
    ap (λ x. reads_bank bs (active_bank x (header_number (bank 1 bs)))) (header_some (bank 0 bs) o e)
    ∙ ap (reads_bank bs) (active_0 (opening (meanings (bank 1 bs))) o l) ∙ ap (option_map (reading_in bs 0)) e

reads_1 : (bs : Banks) (o : Opening) → opening (meanings (bank 1 bs)) ≡ Some o → Loses 1 (opening (meanings (bank 0 bs))) o → reads bs ≡ Some (reading_in bs 1 o)
unfolding reads
reads_1 bs o e l =
    ap (λ y. reads_bank bs (active_bank (header_number (bank 0 bs)) y)) (header_some (bank 1 bs) o e)
    ∙ ap (reads_bank bs) (active_1 (opening (meanings (bank 0 bs))) o l) ∙ ap (option_map (reading_in bs 1)) e

abbrev ReadsAt : Banks → Opening → ℕ → Type 0
ReadsAt bs o a =
    opening (meanings (bank a bs)) ≡ Some o → Loses a (opening (meanings (bank (other a) bs))) o → reads bs ≡ Some (reading_in bs a o)

pub active_reads : (bs : Banks) (a : ℕ) (o : Opening) → Active bs a o → reads bs ≡ Some (reading_in bs a o)
active_reads bs a o h = go h.which h.opens h.loses
  where
    go : (a ≡ 0) ⊎ (a ≡ 1) → ReadsAt bs o a
    go (inl e) = subst (ReadsAt bs o) (sym e) (reads_0 bs o)
    go (inr e) = subst (ReadsAt bs o) (sym e) (reads_1 bs o)

-- and back
pub record Found (bs : Banks) (r : Reading) : Type 0 where
  pub o : Opening
  pub active : Active bs r.active o
  pub is : reading_in bs r.active o ≡ r

found_at : (bs : Banks) (r : Reading) (b : ℕ) (o : Opening) → Active bs b o → reading_in bs b o ≡ r → Found bs r
found_at bs r b o a q =
    let s : b ≡ r.active = ap (λ x. x.active) q in
    record { o = o; active = subst (λ c. Active bs c o) s a; is = subst (λ c. reading_in bs c o ≡ r) s q }

-- by what the two banks open with
found : (bs : Banks) (r : Reading) (x y : Option Opening) → opening (meanings (bank 0 bs)) ≡ x → opening (meanings (bank 1 bs)) ≡ y →
    reads_bank bs (active_bank (option_map (λ (o : Opening). o.number) x) (option_map (λ (o : Opening). o.number) y)) ≡ Some r → Found bs r
found bs r None None p q e = none_some _ e
found bs r (Some x) None p q e =
    found_at bs r 0 x (record { which = inl refl; opens = p; loses = subst (λ z. Loses 0 z x) (sym q) tt })
    (some_inj (sym (ap (option_map (reading_in bs 0)) p) ∙ e))
found bs r None (Some y) p q e =
    found_at bs r 1 y (record { which = inr refl; opens = q; loses = subst (λ z. Loses 1 z y) (sym p) tt })
    (some_inj (sym (ap (option_map (reading_in bs 1)) q) ∙ e))
found bs r (Some x) (Some y) p q e = go (ltb x.number y.number) refl e
  where
    go : (b : Bool) → ltb x.number y.number ≡ b → reads_bank bs (cond b (Some 1) (Some 0)) ≡ Some r → Found bs r
    go true t e' =
        found_at bs r 1 y (record { which = inr refl; opens = q; loses = subst (λ z. Loses 1 z y) (sym p) (ltb-true x.number y.number t) })
        (some_inj (sym (ap (option_map (reading_in bs 1)) q) ∙ e'))
    go false t e' =
        found_at bs r 0 x (record { which = inl refl; opens = p; loses = subst (λ z. Loses 0 z x) (sym q) (ltb-false x.number y.number t) })
        (some_inj (sym (ap (option_map (reading_in bs 0)) p) ∙ e'))

pub reads_found : (bs : Banks) (r : Reading) → reads bs ≡ Some r → Found bs r
unfolding reads
reads_found bs r e = found bs r (opening (meanings (bank 0 bs))) (opening (meanings (bank 1 bs))) refl refl e
