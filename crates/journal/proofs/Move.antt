-- A commit into the other bank, whole or cut.
use Rattle.std.proofs.Common.{◌≡◌, ℕ, zero, suc, ◌+◌, ◌-◌, ◌^◌, ◌<◌, ◌≤◌, true, ◌≢◌, ◌⊎◌, List, [], ◌∷◌, ◌++◌, map, length, get_or, take, set, replicate, Some, None, Option, sym, refl, ap, ◌∙◌, subst, inl, inr, arith}
use Rattle.std.proofs.lemmas.List.{length-append, length-map, length-set, set-set, take_all, drop_at}
use Rattle.std.proofs.lemmas.Bool.{and_from, le-leb, cond-true}
use Rattle.flash.specs.declared.units.Unit.{Unit as Cell}
use Rattle.flash.specs.declared.units.Unit.TheVariants.{Blank, Programmed}
use Rattle.flash.specs.Calls.{ProgramResidue, EraseResidue}
use Rattle.std.specs.List.{AllZip}
use Rattle.layout.specs.declared.meanings.Pair.{Pair}
use Rattle.layout.specs.declared.meanings.Meaning.{Meaning}
use Rattle.layout.specs.declared.meanings.Meaning.TheVariants.{Noise, Record, Header}
use Rattle.layout.specs.PairLists.{rising}
use Rattle.layout.specs.Codec.{record_value, header_value}
use Rattle.layout.proofs.Decoding.{header_read}
use Rattle.journal.specs.Reading.{meanings, leading, lawful, Opening, opening, end_of, Banks, bank, Reading, reading_in, reads}
use Rattle.journal.specs.Writes.{program, erase, done}
use Rattle.journal.specs.Commit.{programs, moving, other, Holds}
use Rattle.journal.proofs.Charges.{Leaves, AllReady}
use Rattle.journal.proofs.Growth.{leading_noise, steps_noise, steps_number}
use Rattle.journal.proofs.Sound.{Good}
use Rattle.journal.proofs.Faded.{faded, was}
use Rattle.journal.proofs.Programs.{bank_same, bank_other, done_all, leaves_all, leaves_append, ready_append, done_append, length_programs, meanings_append, meanings_blank, meanings_programmed, Room, SetTo, programs_ready, programs_done, programs_cut}
use Rattle.journal.proofs.End.{end_programmed}
use Rattle.journal.proofs.Active.{Loses, Active, active_reads, Found}
use Rattle.journal.proofs.Append.{decoded_records, other_not}

leading_pairs : (ps : List Pair) → leading (map Record ps) ≡ ps
leading_pairs [] = refl
leading_pairs (p ∷ ps) = ap (λ l. p ∷ l) (leading_pairs ps)

-- a header before its records, and blank units after them
abbrev pub freshly : ℕ → List Pair → ℕ → List Meaning
freshly n ps t = Header (length ps) n ∷ (map Record ps ++ replicate t Noise)

pub fresh_opens : (n : ℕ) (ps : List Pair) (t : ℕ) → rising ps ≡ true →
    opening (freshly n ps t) ≡ Some (record { number = n; pairs = ps; rest = replicate t Noise })
fresh_opens n ps t h =
    let lead : leading (map Record ps ++ replicate t Noise) ≡ ps = leading_noise (map Record ps) t ∙ leading_pairs ps in
    let all : take (length ps) (leading (map Record ps ++ replicate t Noise)) ≡ ps =
    ap (take (length ps)) lead ∙ take_all (length ps) ps (omega arith) in
    let long : length ps ≤ length (leading (map Record ps ++ replicate t Noise)) = omega (arith, ap length lead) in
    let good : lawful (length ps) (map Record ps ++ replicate t Noise) ≡ true = and_from _ _ (le-leb _ _ long) (ap rising all ∙ h) in
    cond-true _ _ _ good
    ∙ ap Some (λ i. record { number = n; pairs = all i; rest = drop_at (map Record ps) (replicate t Noise) (length ps) (length-map ps Record) i })

other_other : (a : ℕ) → (a ≡ 0) ⊎ (a ≡ 1) → other (other a) ≡ a
other_other a w = omega arith

other_which : (a : ℕ) → (a ≡ 0) ⊎ (a ≡ 1) → (other a ≡ 0) ⊎ (other a ≡ 1)
other_which a (inl e) = inr (omega arith)
other_which a (inr e) = inl (omega arith)

loses_below : (a : ℕ) (x y : Opening) → x.number < y.number → Loses a (Some x) y
loses_below zero x y h = omega arith
loses_below (suc a) x y h = h

loses_equal : (a : ℕ) (x y o : Opening) → x.number ≡ y.number → Loses a (Some x) o → Loses a (Some y) o
loses_equal zero x y o e l = omega arith
loses_equal (suc a) x y o e l = omega arith

-- a cut erase of the other bank keeps it losing
loses_faded : (a : ℕ) (o : Opening) (us xs : List Cell) → AllZip EraseResidue us xs → Loses a (opening (meanings us)) o → Loses a (opening (meanings xs)) o
loses_faded a o us xs c l = go (opening (meanings xs)) refl
  where
    go : (y : Option Opening) → opening (meanings xs) ≡ y → Loses a y o
    go None e = tt
    go (Some y) e =
        let w = was (meanings us) (meanings xs) y (faded us xs c) e in
        loses_equal a w.0 y o w.2 (subst (λ z. Loses a z o) w.1 l)

module _ (bs : Banks) (r : Reading) (f : Found bs r) (there : other r.active < length bs) where
  -- with a losing other bank the reading stays
  unmoved : (after : Banks) (us : List Cell) → SetTo (other r.active) bs after us →
      Loses r.active (opening (meanings us)) f.o → Holds after r.pairs r.number
  unmoved after us e l =
      let a : ℕ = r.active in
      let act = f.active in
      let b≢ : other a ≢ a = other_not a act.which in
      let own : bank a after ≡ bank a bs = ap (bank a) e ∙ bank_other bs (other a) a us (λ q. b≢ (sym q)) in
      let theirs : bank (other a) after ≡ us = ap (bank (other a)) e ∙ bank_same bs (other a) us there in
      let still : Active after a f.o = record {
        which = act.which;
        opens = ap (λ vs. opening (meanings vs)) own ∙ act.opens;
        loses = subst (λ vs. Loses a (opening (meanings vs)) f.o) (sym theirs) l;
      } in
      record {
        found = reading_in after a f.o;
        read = active_reads after a f.o still;
        same_pairs = ap (λ x. x.pairs) f.is;
        same_number = ap (λ x. x.number) f.is;
      }

  module _ (ps : List Pair) (good : Good ps) (few : length ps ≤ 13) (small : r.number + 1 < 2 ^ 32)
      (size : ℕ) (long : length (bank (other r.active) bs) ≡ size) (enough : 64 ≤ size) where
    values : List ℕ
    values = map record_value ps

    top : ℕ
    top = header_value (length ps) (r.number + 1)

    -- the other bank with unit 0 as x, then the records
    laid : Cell → ℕ → List Cell
    laid x t = x ∷ (map Programmed values ++ replicate t Blank)

    says_laid : (t : ℕ) → meanings (laid (Programmed top) t) ≡ freshly (r.number + 1) ps t
    unfolding laid values top
    says_laid t =
        let h32 : r.number + 1 < 2 ^ 32 = omega arith in
        let h48 : length ps ≤ 48 = omega arith in
        let rest : meanings (map Programmed values ++ replicate t Blank) ≡ map Record ps ++ replicate t Noise =
        meanings_append (map Programmed values) (replicate t Blank)
        ∙ (λ i. (meanings_programmed values ∙ decoded_records ps good.admits) i ++ meanings_blank t i) in
        λ i. header_read (length ps) (r.number + 1) h48 h32 i ∷ rest i

    -- with the header in its place the other bank is read
    moved : (after : Banks) (t : ℕ) → SetTo (other r.active) bs after (laid (Programmed top) t) →
        reads after ≡ Some (record { active = other r.active; pairs = ps; number = r.number + 1; end = length ps + 1 })
    unfolding laid values
    moved after t e =
        let a : ℕ = r.active in
        let b : ℕ = other r.active in
        let act = f.active in
        let us : List Cell = laid (Programmed top) t in
        let b≢ : b ≢ a = other_not a act.which in
        let own : bank a after ≡ bank a bs = ap (bank a) e ∙ bank_other bs b a us (λ q. b≢ (sym q)) in
        let theirs : bank b after ≡ us = ap (bank b) e ∙ bank_same bs b us there in
        let p : Opening = record { number = r.number + 1; pairs = ps; rest = replicate t Noise } in
        let opens : opening (meanings (bank b after)) ≡ Some p =
        ap (λ vs. opening (meanings vs)) theirs ∙ ap opening (says_laid t) ∙ fresh_opens (r.number + 1) ps t good.rises in
        let old : opening (meanings (bank (other b) after)) ≡ Some f.o =
        ap (λ c. opening (meanings (bank c after))) (other_other a act.which) ∙ ap (λ vs. opening (meanings vs)) own ∙ act.opens in
        let older : f.o.number < p.number =
        omega (arith, steps_number (record { number = f.o.number; pairs = f.o.pairs; run = [] }) f.o.rest, ap (λ x. x.number) f.is) in
        let now-active : Active after b p = record {
          which = other_which a act.which;
          opens = opens;
          loses = subst (λ z. Loses b z p) (sym old) (loses_below b f.o p older);
        } in
        let q = steps_noise t (record { number = r.number + 1; pairs = ps; run = [] }) in
        let ends : end_of (bank b after) ≡ length ps + 1 =
        ap end_of theirs ∙ ap suc (end_programmed values t ∙ length-map ps record_value) ∙ omega arith in
        active_reads after b p now-active
        ∙ ap Some (λ i. record { active = b; pairs = q.1 i; number = q.0 i; end = ends i })

    erased : Banks
    erased = done size (erase (other r.active)) bs

    room : Room size (other r.active) 1 erased (Blank ∷ []) (size - 1)
    unfolding erased
    room =
        let b : ℕ = other r.active in
        let us : List Cell = replicate size Blank in
        let one : size ≡ suc (size - 1) = omega arith in
        record {
          there = omega (arith, length-set bs b us, there);
          holds = bank_same bs b us there ∙ ap (λ n. replicate n Blank) one;
          long = refl;
          fit = omega arith;
        }

    fewer : length values ≤ size - 1
    unfolding values
    fewer = omega (arith, length-map ps record_value)

    -- what is set in the erased banks is set in the banks before
    set_before : (after : Banks) (us : List Cell) → SetTo (other r.active) erased after us → SetTo (other r.active) bs after us
    unfolding erased
    set_before after us e = e ∙ set-set bs (other r.active) (replicate size Blank) us

    recorded : Banks
    recorded = done_all size (programs (other r.active) 1 values) erased

    recorded_is : (t : ℕ) × SetTo (other r.active) bs recorded (laid Blank t)
    unfolding recorded laid
    recorded_is = let w = programs_done size values (size - 1) room fewer in (w.0, set_before recorded (laid Blank w.0) w.1)

    recorded_bank : bank (other r.active) recorded ≡ laid Blank recorded_is.0
    recorded_bank =
        ap (bank (other r.active)) recorded_is.1 ∙ bank_same bs (other r.active) (laid Blank recorded_is.0) there

    -- unit 0 set in the recorded banks
    set_top : (after : Banks) (x : Cell) → after ≡ set recorded (other r.active) (set (bank (other r.active) recorded) 0 x) →
        SetTo (other r.active) bs after (laid x recorded_is.0)
    unfolding laid
    set_top after x e =
        let b : ℕ = other r.active in
        let t : ℕ = recorded_is.0 in
        e ∙ (λ i. set (recorded_is.1 i) b (set (recorded_bank i) 0 x)) ∙ set-set bs b (laid Blank t) (laid x t)

    pub move_ready : AllReady size (moving (other r.active) ps (r.number + 1)) bs
    unfolding values top erased recorded laid
    move_ready =
        let b : ℕ = other r.active in
        let inside : b < length recorded = omega (arith, ap length recorded_is.1, length-set bs b (laid Blank recorded_is.0), there) in
        let first : 0 < size = omega arith in
        let blank : get_or (bank b recorded) 0 Blank ≡ Blank = ap (λ us. get_or us 0 Blank) recorded_bank in (
          there,
          ready_append size (programs b 1 values) (program b 0 top ∷ []) erased (programs_ready size values (size - 1) room fewer)
              ((inside, first, blank), tt),
        )

    abbrev New : Reading
    New = record { active = other r.active; pairs = ps; number = r.number + 1; end = length ps + 1 }

    length_moving : length (moving (other r.active) ps (r.number + 1)) ≡ suc (length values + 1)
    unfolding values top
    length_moving =
        let b : ℕ = other r.active in
        ap suc (length-append (programs b 1 values) (program b 0 top ∷ []) ∙ ap (λ n. n + 1) (length_programs b 1 values))

    pub move_whole : (k : ℕ) (after : Banks) → Leaves size k (moving (other r.active) ps (r.number + 1)) bs after →
        length (moving (other r.active) ps (r.number + 1)) ≤ k → reads after ≡ Some New
    unfolding values top erased recorded
    move_whole k after l h =
        let b : ℕ = other r.active in
        let e : after ≡ done_all size (program b 0 top ∷ []) recorded =
        leaves_all size k (moving b ps (r.number + 1)) bs after h l ∙ done_append size (programs b 1 values) (program b 0 top ∷ []) erased in
        moved after recorded_is.0 (set_top after (Programmed top) e)

    abbrev Outcome : ℕ → Banks → Type 0
    Outcome k after =
        Holds after r.pairs r.number
        ⊎ ((suc k ≡ length (moving (other r.active) ps (r.number + 1))) × Holds after ps (r.number + 1))

    holds_new : (after : Banks) → reads after ≡ Some New → Holds after ps (r.number + 1)
    holds_new after e = record { found = New; read = e; same_pairs = refl; same_number = refl }

    -- the last write cut
    top_cut : (k : ℕ) (after : Banks) → suc k ≡ length (moving (other r.active) ps (r.number + 1)) → (x : Cell) → ProgramResidue top x →
        SetTo (other r.active) bs after (laid x recorded_is.0) → Outcome k after
    unfolding laid
    top_cut k after n x (inl c) e =
        inl (unmoved after (laid x recorded_is.0) e (subst (λ y. Loses r.active (opening (meanings (laid y recorded_is.0))) f.o) (sym c) tt))
    top_cut k after n x (inr (inl c)) e =
        inr (n, holds_new after (moved after recorded_is.0 (subst (λ y. SetTo (other r.active) bs after (laid y recorded_is.0)) c e)))
    top_cut k after n x (inr (inr c)) e =
        inl (unmoved after (laid x recorded_is.0) e (subst (λ y. Loses r.active (opening (meanings (laid y recorded_is.0))) f.o) (sym c) tt))

    pub move_cut : (k : ℕ) (after : Banks) → Leaves size k (moving (other r.active) ps (r.number + 1)) bs after →
        k < length (moving (other r.active) ps (r.number + 1)) → Outcome k after
    unfolding values top erased recorded
    move_cut zero after l h = inl (unmoved after l.residue l.is (loses_faded r.active f.o (bank (other r.active) bs) l.residue l.allowed f.active.loses))
    move_cut (suc k) after l h = go (leaves_append size k (programs b 1 values) (program b 0 top ∷ []) erased after l)
      where
        b : ℕ
        b = other r.active

        go : ((k < length (programs b 1 values)) × Leaves size k (programs b 1 values) erased after)
            ⊎ ((j : ℕ) × (k ≡ length (programs b 1 values) + j) × Leaves size j (program b 0 top ∷ []) recorded after) → Outcome (suc k) after
        go (inl (q, m)) =
            let q' : k < length values = omega (arith, length_programs b 1 values) in
            let t = programs_cut size values (size - 1) k room fewer q' m in
            inl (unmoved after (Blank ∷ t.behind) (set_before after (Blank ∷ t.behind) t.sets) tt)
        go (inr (zero, e, m)) =
            top_cut (suc k) after (omega (arith, length_moving, length_programs b 1 values)) m.residue m.allowed (set_top after m.residue m.is)
        go (inr (suc j, e, m)) = absurd (omega (arith, length_moving, length_programs b 1 values))
