-- A commit at the end of the active bank, whole or cut.
use Rattle.std.proofs.Common.{◌≡◌, ℕ, zero, suc, ◌+◌, ◌^◌, ◌<◌, ◌≤◌, true, ◌≢◌, ◌⊎◌, List, [], ◌∷◌, ◌++◌, map, length, take, replicate, Some, None, Option, sym, refl, ap, ◌∙◌, subst, inl, inr, arith}
use Rattle.std.proofs.lemmas.List.{length-append, length-map, map-append, take-append-le, take-map, take_all}
use Rattle.std.proofs.lemmas.Bool.{and_parts, cases_lt}
use Rattle.flash.specs.declared.units.Unit.{Unit as Cell}
use Rattle.flash.specs.declared.units.Unit.TheVariants.{Blank, Programmed}
use Rattle.layout.specs.declared.meanings.Pair.{Pair}
use Rattle.layout.specs.declared.meanings.Meaning.{Meaning}
use Rattle.layout.specs.declared.meanings.Meaning.TheVariants.{Noise, Record, Commit}
use Rattle.layout.specs.Catalogue.{admits}
use Rattle.layout.specs.PairLists.{rising, all_admitted, merged}
use Rattle.layout.specs.Codec.{record_value, commit_value, decoded}
use Rattle.layout.proofs.Decoding.{record_read, commit_read}
use Rattle.layout.proofs.WellFormed.{well_formed_parts}
use Rattle.journal.specs.Reading.{meanings, Progress, steps, Opening, opening, closing, end_of, Banks, bank, Reading, reading_in, reads}
use Rattle.journal.specs.Commit.{appending, other, Change, Holds}
use Rattle.journal.proofs.Charges.{Leaves, AllReady}
use Rattle.journal.proofs.Growth.{grown, steps_append, steps_noise, steps_pairs, steps_change}
use Rattle.journal.proofs.Programs.{bank_same, bank_other, leaves_all, length_programs, meanings_append, meanings_blank, meanings_programmed, Room, SetTo, programs_ready, programs_done, programs_cut}
use Rattle.journal.proofs.End.{Split, split, end_append, end_programmed}
use Rattle.journal.proofs.Active.{Loses, Active, active_reads, Found}

-- what the records and the commit unit of a change say
abbrev pub change_meanings : List Pair → ℕ → List Meaning
change_meanings change n = map Record change ++ Commit (length change) (n + 1) ∷ []

pub decoded_records : (ps : List Pair) → all_admitted ps ≡ true → map decoded (map record_value ps) ≡ map Record ps
decoded_records [] h = refl
decoded_records (p ∷ ps) h =
    let hs = and_parts (admits p) (all_admitted ps) h in
    λ i. record_read p hs.0 i ∷ decoded_records ps hs.1 i

pub decoded_change : (change : List Pair) (n : ℕ) → Change change → n + 1 < 2 ^ 32 →
    map decoded (map record_value change ++ commit_value (length change) (n + 1) ∷ []) ≡ change_meanings change n
decoded_change change n c h =
    let h32 = h in
    map-append decoded (map record_value change) (commit_value (length change) (n + 1) ∷ [])
    ∙ (λ i. decoded_records change (well_formed_parts change c.formed).1 i ++ commit_read (length change) (n + 1) c.few h32 i ∷ [])

-- a part of it changes nothing
pub says_part : (change : List Pair) (n : ℕ) (s : Progress) (j t : ℕ) → j ≤ length change →
    ((steps s (take j (change_meanings change n) ++ replicate t Noise)).number ≡ s.number)
    × ((steps s (take j (change_meanings change n) ++ replicate t Noise)).pairs ≡ s.pairs)
says_part change n s j t h =
    let few : j ≤ length (map Record change) = omega (arith, length-map change Record) in
    let part : take j (change_meanings change n) ≡ map Record (take j change) =
    take-append-le j (map Record change) (Commit (length change) (n + 1) ∷ []) few ∙ take-map Record j change in
    let u : Progress = steps s (map Record (take j change)) in
    let e : steps s (take j (change_meanings change n) ++ replicate t Noise) ≡ steps u (replicate t Noise) =
    ap (λ l. steps s (l ++ replicate t Noise)) part ∙ steps_append s (map Record (take j change)) (replicate t Noise) in
    let q = steps_noise t u in
    let w = steps_pairs (take j change) s in
    (ap (λ x. x.number) e ∙ q.0 ∙ ap (λ x. x.number) w, ap (λ x. x.pairs) e ∙ q.1 ∙ ap (λ x. x.pairs) w)

-- all of it is the change
pub says_whole : (change : List Pair) (s : Progress) (t : ℕ) → rising change ≡ true →
    ((steps s (change_meanings change s.number ++ replicate t Noise)).number ≡ s.number + 1)
    × ((steps s (change_meanings change s.number ++ replicate t Noise)).pairs ≡ merged s.pairs change)
says_whole change s t h =
    let e = steps_append s (change_meanings change s.number) (replicate t Noise) ∙ ap (λ u. steps u (replicate t Noise)) (steps_change change s h) in
    let q = steps_noise t (record { number = s.number + 1; pairs = merged s.pairs change; run = [] }) in
    (ap (λ x. x.number) e ∙ q.0, ap (λ x. x.pairs) e ∙ q.1)

pub loses_more : (a : ℕ) (y : Option Opening) (o p : Opening) → o.number ≤ p.number → Loses a y o → Loses a y p
loses_more a None o p h l = tt
loses_more zero (Some y) o p h l = omega arith
loses_more (suc a) (Some y) o p h l = omega arith

pub other_not : (a : ℕ) → (a ≡ 0) ⊎ (a ≡ 1) → other a ≢ a
other_not a w = omega arith

-- the active bank with other units behind its front
pub record Longer (bs after : Banks) (a : ℕ) (o : Opening) (m : ℕ) (behind : List Cell) : Type 0 where
  pub kept : List Meaning
  pub was : o.rest ≡ kept ++ replicate m Noise
  pub active : Active after a (record { number = o.number; pairs = o.pairs; rest = kept ++ meanings behind })

pub longer : (size : ℕ) {a u : ℕ} {bs after : Banks} {o : Opening} {front : List Cell} {m : ℕ} → Active bs a o → Room size a u bs front m →
    (behind : List Cell) → SetTo a bs after (front ++ behind) → Longer bs after a o m behind
longer size {a} {u} {bs} {after} {o} {front} {m} act room behind e =
    let before : opening (meanings front ++ replicate m Noise) ≡ Some o =
    ap opening (sym (ap meanings room.holds ∙ meanings_append front (replicate m Blank) ∙ ap (λ l. meanings front ++ l) (meanings_blank m)))
    ∙ act.opens in
    let g = grown (meanings front) (meanings behind) m o before in
    let own : bank a after ≡ front ++ behind = ap (bank a) e ∙ bank_same bs a (front ++ behind) room.there in
    let theirs : bank (other a) after ≡ bank (other a) bs =
    ap (bank (other a)) e ∙ bank_other bs a (other a) (front ++ behind) (other_not a act.which) in
    let p : Opening = record { number = o.number; pairs = o.pairs; rest = g.kept ++ meanings behind } in
    record {
      kept = g.kept;
      was = g.was;
      active = record {
        which = act.which;
        opens = ap (λ us. opening (meanings us)) own ∙ ap opening (meanings_append front behind) ∙ g.opens;
        loses =
            subst (λ us. Loses a (opening (meanings us)) p) (sym theirs)
            (loses_more a (opening (meanings (bank (other a) bs))) o p (omega arith) act.loses);
      };
    }

start : Opening → Progress
start o = record { number = o.number; pairs = o.pairs; run = [] }

module _ (bs : Banks) (r : Reading) (change : List Pair) (f : Found bs r) (c : Change change) (small : r.number + 1 < 2 ^ 32)
    (size : ℕ) (fit : r.end + length change + 1 ≤ size) (long : length (bank r.active bs) ≡ size) (there : r.active < length bs) where
  cut_in : Split (bank r.active bs) r.end
  cut_in = subst (Split (bank r.active bs)) (ap (λ x. x.end) f.is) (split (bank r.active bs))

  room : Room size r.active r.end bs cut_in.front cut_in.free
  room = record { there = there; holds = cut_in.parts; long = cut_in.long; fit = omega (arith, cut_in.size, long) }

  values : List ℕ
  values = map record_value change ++ commit_value (length change) (r.number + 1) ∷ []

  count : length values ≡ length change + 1
  unfolding values
  count = length-append (map record_value change) (commit_value (length change) (r.number + 1) ∷ []) ∙ ap (λ n. n + 1) (length-map change record_value)

  enough : length values ≤ cut_in.free
  enough = omega (arith, count, cut_in.size, long)

  pub append_ready : AllReady size (appending r.active r.end change (r.number + 1)) bs
  unfolding values
  append_ready = programs_ready size values cut_in.free room enough

  -- what the bank says up to the units behind its front
  standing : (after : Banks) (behind : List Cell) → Longer bs after r.active f.o cut_in.free behind → Progress
  standing after behind l = steps (start f.o) l.kept

  standing_is : (after : Banks) (behind : List Cell) (l : Longer bs after r.active f.o cut_in.free behind) →
      ((standing after behind l).number ≡ r.number) × ((standing after behind l).pairs ≡ r.pairs)
  unfolding standing start
  standing_is after behind l =
      let s : Progress = steps (start f.o) l.kept in
      let e : closing f.o ≡ steps s (replicate cut_in.free Noise) =
      ap (steps (start f.o)) l.was ∙ steps_append (start f.o) l.kept (replicate cut_in.free Noise) in
      let q = steps_noise cut_in.free s in
      (sym q.0 ∙ sym (ap (λ x. x.number) e) ∙ ap (λ x. x.number) f.is, sym q.1 ∙ sym (ap (λ x. x.pairs) e) ∙ ap (λ x. x.pairs) f.is)

  -- the reading, when the units behind the front say ms
  record Reads (after : Banks) (ms : List Meaning) : Type 0 where
    s : Progress
    number_was : s.number ≡ r.number
    pairs_were : s.pairs ≡ r.pairs
    o : Opening
    read : reads after ≡ Some (reading_in after r.active o)
    closes : closing o ≡ steps s ms

  reading : (after : Banks) (behind : List Cell) → SetTo r.active bs after (cut_in.front ++ behind) → Reads after (meanings behind)
  unfolding standing start
  reading after behind e =
      let l = longer size f.active room behind e in
      let q = standing_is after behind l in
      let p : Opening = record { number = f.o.number; pairs = f.o.pairs; rest = l.kept ++ meanings behind } in
      record {
        s = standing after behind l;
        number_was = q.0;
        pairs_were = q.1;
        o = p;
        read = active_reads after r.active p l.active;
        closes = steps_append (start f.o) l.kept (meanings behind);
      }

  abbrev ReadsWhole : Progress → Type 0
  ReadsWhole s =
      (t : ℕ) → ((steps s (change_meanings change r.number ++ replicate t Noise)).number ≡ r.number + 1)
      × ((steps s (change_meanings change r.number ++ replicate t Noise)).pairs ≡ merged r.pairs change)

  reads_whole : (s : Progress) → s.number ≡ r.number → s.pairs ≡ r.pairs → ReadsWhole s
  reads_whole s en ep t =
      let q = says_whole change s t (well_formed_parts change c.formed).0 in (
        ap (λ n. (steps s (change_meanings change n ++ replicate t Noise)).number) (sym en) ∙ q.0 ∙ ap (λ n. n + 1) en,
        ap (λ n. (steps s (change_meanings change n ++ replicate t Noise)).pairs) (sym en) ∙ q.1 ∙ ap (λ ps. merged ps change) ep,
      )

  pub append_whole : (k : ℕ) (after : Banks) → Leaves size k (appending r.active r.end change (r.number + 1)) bs after → length (appending r.active r.end change (r.number + 1)) ≤ k →
      reads after ≡ Some (record { active = r.active; pairs = merged r.pairs change; number = r.number + 1; end = r.end + length change + 1 })
  unfolding values
  append_whole k after l h =
      let w = programs_done size values cut_in.free room enough in
      let behind : List Cell = map Programmed values ++ replicate w.0 Blank in
      let sets : SetTo r.active bs after (cut_in.front ++ behind) = leaves_all size k (appending r.active r.end change (r.number + 1)) bs after h l ∙ w.1 in
      let d = reading after behind sets in
      let says : meanings behind ≡ change_meanings change r.number ++ replicate w.0 Noise =
      meanings_append (map Programmed values) (replicate w.0 Blank)
      ∙ (λ i. (meanings_programmed values ∙ decoded_change change r.number c small) i ++ meanings_blank w.0 i) in
      let closes : closing d.o ≡ steps d.s (change_meanings change r.number ++ replicate w.0 Noise) = d.closes ∙ ap (steps d.s) says in
      let q = reads_whole d.s d.number_was d.pairs_were w.0 in
      let own : bank r.active after ≡ cut_in.front ++ behind = ap (bank r.active) sets ∙ bank_same bs r.active (cut_in.front ++ behind) there in
      let e₁ : end_of behind ≡ suc (length change) = end_programmed values w.0 ∙ count ∙ omega arith in
      let e₂ : end_of (bank r.active after) ≡ r.end + length change + 1 =
      ap end_of own ∙ end_append cut_in.front behind (length change) e₁ ∙ omega (arith, cut_in.long) in
      d.read
      ∙ ap Some (λ i. record {
        active = r.active;
        pairs = (ap (λ x. x.pairs) closes ∙ q.1) i;
        number = (ap (λ x. x.number) closes ∙ q.0) i;
        end = e₂ i;
      })

  pub append_cut : (k : ℕ) (after : Banks) → Leaves size k (appending r.active r.end change (r.number + 1)) bs after → k < length (appending r.active r.end change (r.number + 1)) →
      Holds after r.pairs r.number
      ⊎ ((suc k ≡ length (appending r.active r.end change (r.number + 1))) × Holds after (merged r.pairs change) (r.number + 1))
  unfolding values
  append_cut k after l h =
      let n : length (appending r.active r.end change (r.number + 1)) ≡ length change + 1 = length_programs r.active r.end values ∙ count in
      let h' : k < length values = omega (arith, length_programs r.active r.end values) in
      let t = programs_cut size values cut_in.free k room enough h' l in
      let d = reading after t.behind t.sets in
      let says : meanings t.behind ≡ take t.standing (change_meanings change r.number) ++ replicate t.blank Noise =
      t.says
      ∙ ap (λ l. l ++ replicate t.blank Noise) (sym (take-map decoded t.standing values) ∙ ap (take t.standing) (decoded_change change r.number c small)) in
      let closes : closing d.o ≡ steps d.s (take t.standing (change_meanings change r.number) ++ replicate t.blank Noise) =
      d.closes ∙ ap (steps d.s) says in
      let old : t.standing ≤ length change → Holds after r.pairs r.number =
      λ j. let q = says_part change r.number d.s t.standing t.blank j in
      record {
        found = reading_in after r.active d.o;
        read = d.read;
        same_pairs = ap (λ x. x.pairs) closes ∙ q.1 ∙ d.pairs_were;
        same_number = ap (λ x. x.number) closes ∙ q.0 ∙ d.number_was;
      } in
      let new : length change < t.standing → Holds after (merged r.pairs change) (r.number + 1) =
      λ j. let all : take t.standing (change_meanings change r.number) ≡ change_meanings change r.number =
      take_all t.standing (change_meanings change r.number)
      (omega (arith, length-append (map Record change) (Commit (length change) (r.number + 1) ∷ []), length-map change Record)) in
      let closed = closes ∙ ap (λ l. steps d.s (l ++ replicate t.blank Noise)) all in
      let q = reads_whole d.s d.number_was d.pairs_were t.blank in
      record {
        found = reading_in after r.active d.o;
        read = d.read;
        same_pairs = ap (λ x. x.pairs) closed ∙ q.1;
        same_number = ap (λ x. x.number) closed ∙ q.0;
      } in
      let go : (length change < t.standing) ⊎ (t.standing ≤ length change) →
      Holds after r.pairs r.number
      ⊎ ((suc k ≡ length (appending r.active r.end change (r.number + 1))) × Holds after (merged r.pairs change) (r.number + 1)) =
      elim [ inl j ↦ inr (omega (arith, t.which), new j) | inr j ↦ inl (old j) ] in
      go (cases_lt (length change) t.standing)
