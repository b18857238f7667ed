-- A power cut anywhere in a commit leaves the units reading as before, or with the whole change.
use Rattle.std.proofs.Common.{◌≡◌, ℕ, suc, ◌+◌, ◌^◌, ◌<◌, ◌≤◌, Bool, true, false, cond, ◌⊎◌, List, [], ◌∷◌, ◌++◌, map, length, Some, sym, refl, ap, ◌∙◌, subst, inl, inr, arith}
use Rattle.std.proofs.lemmas.List.{length-append, length-map}
use Rattle.std.proofs.lemmas.Bool.{leb-true, and_from}
use Rattle.layout.specs.declared.meanings.Pair.{Pair}
use Rattle.layout.specs.PairLists.{well_formed, merged}
use Rattle.layout.specs.Codec.{record_value, commit_value, header_value}
use Rattle.layout.proofs.WellFormed.{well_formed_parts, well_formed_merged, well_formed_few}
use Rattle.journal.specs.Reading.{Banks, bank, Reading, reads}
use Rattle.journal.specs.Writes.{Write, program}
use Rattle.journal.specs.Commit.{records, appending, moving, other, fits, commit_writes, writes_needed, Change, Holds}
use Rattle.journal.proofs.Charges.{AllReady, Leaves, Roomy, WholeOrAbsent}
use Rattle.journal.proofs.Sound.{Good, good_closing, closing_bits}
use Rattle.journal.proofs.Programs.{length_programs}
use Rattle.journal.proofs.Active.{reads_found}
use Rattle.journal.proofs.Append.{append_ready, append_whole, append_cut}
use Rattle.journal.proofs.Move.{move_ready, move_whole, move_cut}

-- how many writes there are
pub length_appending : (b e : ℕ) (change : List Pair) (n : ℕ) → length (appending b e change n) ≡ length change + 1
length_appending b e change n =
    length_programs b e (map record_value change ++ commit_value (length change) n ∷ [])
    ∙ length-append (map record_value change) (commit_value (length change) n ∷ []) ∙ ap (λ k. k + 1) (length-map change record_value)

pub length_moving : (b : ℕ) (ps : List Pair) (n : ℕ) → length (moving b ps n) ≡ length ps + 2
length_moving b ps n =
    ap suc (length-append (records b 1 ps) (program b 0 (header_value (length ps) n) ∷ [])
    ∙ ap (λ k. k + 1) (length_programs b 1 (map record_value ps) ∙ length-map ps record_value)) ∙ omega arith

needed_by : (b : Bool) (width : ℕ) (r : Reading) (change : List Pair) (n : ℕ) →
    length (cond b (appending r.active r.end change n) (moving (other r.active) (merged r.pairs change) n))
    ≡ cond b (length change + 1) (length (merged r.pairs change) + 2)
needed_by true width r change n = length_appending r.active r.end change n
needed_by false width r change n = length_moving (other r.active) (merged r.pairs change) n

pub needed : (width : ℕ) (r : Reading) (change : List Pair) (n : ℕ) → length (commit_writes width r change n) ≡ writes_needed width r change
needed width r change n = needed_by (fits width r change) width r change n

record Outcome (width : ℕ) (bs : Banks) (r : Reading) (change : List Pair) (ws : List Write) (new : Reading) : Type 0 where
  ready : AllReady width ws bs
  whole : (charge : ℕ) (after : Banks) → Leaves width charge ws bs after → length ws ≤ charge → reads after ≡ Some new
  cut :
      (charge : ℕ) (after : Banks) → Leaves width charge ws bs after → charge < length ws →
      Holds after r.pairs r.number ⊎ ((suc charge ≡ length ws) × Holds after (merged r.pairs change) (r.number + 1))

bank_long : (width : ℕ) (bs : Banks) (a : ℕ) → length (bank 0 bs) ≡ width → length (bank 1 bs) ≡ width → (a ≡ 0) ⊎ (a ≡ 1) → length (bank a bs) ≡ width
bank_long width bs a p q (inl e) = ap (λ b. length (bank b bs)) e ∙ p
bank_long width bs a p q (inr e) = ap (λ b. length (bank b bs)) e ∙ q

other_which : (a : ℕ) → (a ≡ 0) ⊎ (a ≡ 1) → (other a ≡ 0) ⊎ (other a ≡ 1)
other_which a (inl e) = inr (omega arith)
other_which a (inr e) = inl (omega arith)

module _ (width : ℕ) (bs : Banks) (r : Reading) (d : Roomy width bs) (read : reads bs ≡ Some r) where
  -- what is read is well-formed
  read_good : Good r.pairs
  read_good =
      let f = reads_found bs r read in
      subst (λ (x : Reading). Good x.pairs) f.is (good_closing (bank r.active bs) f.o f.active.opens)

  read_formed : well_formed r.pairs ≡ true
  read_formed = and_from _ _ read_good.rises read_good.admits

  pub read_bits : r.number < 2 ^ 32
  read_bits =
      let f = reads_found bs r read in
      omega (arith, closing_bits (bank r.active bs) f.o f.active.opens, ap (λ x. x.number) f.is)

  module _ (change : List Pair) (c : Change change) (small : r.number + 1 < 2 ^ 32) where
    outcome : (b : Bool) → fits width r change ≡ b →
        Outcome width bs r change (cond b (appending r.active r.end change (r.number + 1)) (moving (other r.active) (merged r.pairs change) (r.number + 1)))
        (cond b
        (record { active = r.active; pairs = merged r.pairs change; number = r.number + 1; end = r.end + length change + 1 })
        (record { active = other r.active; pairs = merged r.pairs change; number = r.number + 1; end = length (merged r.pairs change) + 1 }))
    outcome true e =
        let f = reads_found bs r read in
        let which = f.active.which in
        let fit : r.end + length change + 1 ≤ width = leb-true (r.end + length change + 1) width e in
        let long : length (bank r.active bs) ≡ width = bank_long width bs r.active d.first d.second which in
        let there : r.active < length bs = omega (arith, d.two, which) in
        record {
          ready = append_ready bs r change f c small width fit long there;
          whole = append_whole bs r change f c small width fit long there;
          cut = append_cut bs r change f c small width fit long there;
        }
    outcome false e =
        let f = reads_found bs r read in
        let which = f.active.which in
        let long : length (bank (other r.active) bs) ≡ width = bank_long width bs (other r.active) d.first d.second (other_which r.active which) in
        let there : other r.active < length bs = omega (arith, d.two) in
        let formed = well_formed_merged r.pairs change read_formed c.formed in
        let parts = well_formed_parts (merged r.pairs change) formed in
        let good : Good (merged r.pairs change) = record { rises = parts.0; admits = parts.1 } in
        let few : length (merged r.pairs change) ≤ 13 = well_formed_few (merged r.pairs change) formed in
        record {
          ready = move_ready bs r f there (merged r.pairs change) good few small width long d.enough;
          whole = move_whole bs r f there (merged r.pairs change) good few small width long d.enough;
          cut = move_cut bs r f there (merged r.pairs change) good few small width long d.enough;
        }

    pub whole_or_absent : WholeOrAbsent width bs r change (r.number + 1)
    whole_or_absent =
        let o = outcome (fits width r change) refl in
        let n = needed width r change (r.number + 1) in
        record {
          ready = o.ready;
          whole = λ k after l h. o.whole k after l (subst (λ m. m ≤ k) (sym n) h);
          cut = λ k after l h.
              subst (λ m. Holds after r.pairs r.number ⊎ ((suc k ≡ m) × Holds after (merged r.pairs change) (r.number + 1))) n
              (o.cut k after l (subst (λ m. k < m) (sym n) h));
        }
