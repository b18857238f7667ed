-- A cut erase makes no header lawful: a header that is lawful after it was so before, with the same number.
use Rattle.std.proofs.Common.{◌≡◌, ℕ, ◌≤◌, Bool, true, false, cond, leb, ◌⊎◌, List, [], ◌∷◌, ◌++◌, length, take, Some, None, sym, refl, ap, ◌∙◌, subst, inl, inr, arith}
use Rattle.std.proofs.lemmas.List.{length-append, take-append-le}
use Rattle.std.proofs.lemmas.Bool.{and_parts, and_from, le-leb, leb-true, cond-true}
use Rattle.flash.specs.declared.units.Unit.{Unit as Cell}
use Rattle.flash.specs.Calls.{EraseResidue}
use Rattle.std.specs.List.{AllZip}
use Rattle.layout.specs.declared.meanings.Pair.{Pair}
use Rattle.layout.specs.declared.meanings.Meaning.{Meaning}
use Rattle.layout.specs.declared.meanings.Meaning.TheVariants.{Noise, Record, Commit, Header}
use Rattle.layout.specs.PairLists.{rising}
use Rattle.layout.specs.Codec.{meaning_of}
use Rattle.journal.specs.Reading.{meanings, leading, lawful, Opening, opening}
use Rattle.journal.proofs.Growth.{none_some, some_inj}

-- each unit says the same or nothing
abbrev pub Faded : List Meaning → List Meaning → Type 0
Faded [] [] = Unit {0}
Faded [] (x ∷ xs) = ⊥
Faded (m ∷ ms) [] = ⊥
Faded (m ∷ ms) (x ∷ xs) = ((x ≡ m) ⊎ (x ≡ Noise)) × Faded ms xs

pub faded : (us xs : List Cell) → AllZip EraseResidue us xs → Faded (meanings us) (meanings xs)
faded [] [] c = tt
faded [] (x ∷ xs) c = c
faded (u ∷ us) [] c = c
faded (u ∷ us) (x ∷ xs) (inl e, c) = (inl (ap meaning_of e), faded us xs c)
faded (u ∷ us) (x ∷ xs) (inr (inl e), c) = (inr (ap meaning_of e), faded us xs c)
faded (u ∷ us) (x ∷ xs) (inr (inr e), c) = (inr (ap meaning_of e), faded us xs c)

abbrev Front : List Meaning → List Meaning → Type 0
Front ms xs = (z : List Pair) × (leading ms ≡ leading xs ++ z)

front_same : (m : Meaning) (ms xs : List Meaning) → Front ms xs → Front (m ∷ ms) (m ∷ xs)
front_same Noise ms xs f = ([], refl)
front_same (Record p) ms xs f = (f.0, ap (λ l. p ∷ l) f.1)
front_same (Commit c n) ms xs f = ([], refl)
front_same (Header c n) ms xs f = ([], refl)

front : (ms xs : List Meaning) → Faded ms xs → Front ms xs
front [] [] f = ([], refl)
front [] (x ∷ xs) f = absurd f
front (m ∷ ms) [] f = absurd f
front (m ∷ ms) (x ∷ xs) (inl e, f) = subst (λ y. Front (m ∷ ms) (y ∷ xs)) (sym e) (front_same m ms xs (front ms xs f))
front (m ∷ ms) (x ∷ xs) (inr e, f) = subst (λ y. Front (m ∷ ms) (y ∷ xs)) (sym e) (leading (m ∷ ms), refl)

lawful_before : (c : ℕ) (ms xs : List Meaning) → Faded ms xs → lawful c xs ≡ true → lawful c ms ≡ true
lawful_before c ms xs f h =
    let hs = and_parts (leb c (length (leading xs))) _ h in
    let w = front ms xs f in
    let few : c ≤ length (leading xs) = leb-true c (length (leading xs)) hs.0 in
    let long : c ≤ length (leading ms) = omega (arith, ap length w.1, length-append (leading xs) w.0) in
    let same : take c (leading ms) ≡ take c (leading xs) = ap (take c) w.1 ∙ take-append-le c (leading xs) w.0 few in
    and_from _ _ (le-leb _ _ long) (ap rising same ∙ hs.1)

-- there was a lawful header of this number
abbrev pub Was : List Meaning → ℕ → Type 0
Was ms n = (o : Opening) × (opening ms ≡ Some o) × (o.number ≡ n)

was_cond : (b : Bool) (c n : ℕ) (ms : List Meaning) (o p : Opening) → (b ≡ true → lawful c ms ≡ true) → p.number ≡ n →
    cond b (Some p) None ≡ Some o → Was (Header c n ∷ ms) o.number
was_cond true c n ms o p g q e = (_, cond-true _ _ _ (g refl), sym q ∙ ap (λ x. x.number) (some_inj e))
was_cond false c n ms o p g q e = none_some _ e

was_same : (m : Meaning) (ms xs : List Meaning) (o : Opening) → Faded ms xs → opening (m ∷ xs) ≡ Some o → Was (m ∷ ms) o.number
was_same Noise ms xs o f e = none_some _ e
was_same (Record p) ms xs o f e = none_some _ e
was_same (Commit c n) ms xs o f e = none_some _ e
was_same (Header c n) ms xs o f e = was_cond (lawful c xs) c n ms o _ (lawful_before c ms xs f) refl e

pub was : (ms xs : List Meaning) (o : Opening) → Faded ms xs → opening xs ≡ Some o → Was ms o.number
was [] [] o f e = none_some _ e
was [] (x ∷ xs) o f e = absurd f
was (m ∷ ms) [] o f e = absurd f
was (m ∷ ms) (x ∷ xs) o (inl q, f) e = was_same m ms xs o f (subst (λ y. opening (y ∷ xs) ≡ Some o) q e)
was (m ∷ ms) (x ∷ xs) o (inr q, f) e = none_some _ (subst (λ y. opening (y ∷ xs) ≡ Some o) q e)
