-- The run is the longest stretch of valid records directly before a place, from the mark on.
use Rattle.std.proofs.Common.{◌≡◌, ℕ, suc, ◌+◌, ◌-◌, ◌<◌, ◌≤◌, Bool, true, false, cond, leb, ◌⊎◌, List, [], ◌∷◌, ◌++◌, map, reverse, length, take, drop, Some, None, sym, refl, ap, ◌∙◌, subst, inl, inr, arith}
use mathlib.Core.List.{reverse-cons}
use Rattle.std.proofs.lemmas.List.{append_assoc, append-nil, map-append, length-append, length-map, length-reverse, length_push, reverse-append, length-drop, take-append-drop, drop_at, drop-append-le, drop-map}
use Rattle.std.proofs.lemmas.Bool.{cond-true, cond-false, le-leb, lt-leb, cases_lt}
use Rattle.layout.specs.declared.meanings.Pair.{Pair}
use Rattle.layout.specs.declared.meanings.Meaning.{Meaning}
use Rattle.layout.specs.declared.meanings.Meaning.TheVariants.{Noise, Record, Commit, Header}
use Rattle.journal.specs.Reading.{Progress, newest, counts, taken, passed, step, steps}
use Rattle.journal.specs.Stretch.{cons_to, all_records, directly, mark_after, marks, fresh, RunStandsDirectlyBefore}

abbrev NoPair : Meaning → Type 0
NoPair Noise = Unit {0}
NoPair (Record p) = ⊥
NoPair (Commit c n) = Unit {0}
NoPair (Header c n) = Unit {0}

record Quiet (before : List Meaning) : Type 0 where
  rest : List Meaning
  last : Meaning
  is : before ≡ rest ++ last ∷ []
  no_pair : NoPair last

record Stretch (front : List Meaning) (run : List Pair) (mark : ℕ) : Type 0 where
  before : List Meaning
  parts : front ≡ before ++ map Record (reverse run)
  after_mark : mark ≤ length before
  stops : (length before ≡ mark) ⊎ Quiet before

-- a stretch grows by a record, and starts anew behind any other unit
stretch_pair : (front : List Meaning) (run : List Pair) (mark : ℕ) (p : Pair) → Stretch front run mark → Stretch (front ++ Record p ∷ []) (p ∷ run) mark
stretch_pair front run mark p s = record {
  before = s.before;
  parts =
      ap (λ l. l ++ Record p ∷ []) s.parts ∙ append_assoc s.before (map Record (reverse run)) (Record p ∷ [])
      ∙ ap (λ l. s.before ++ l) (sym (map-append Record (reverse run) (p ∷ [])) ∙ ap (map Record) (sym (reverse-cons p run)));
  after_mark = s.after_mark;
  stops = s.stops;
}

stretch_other : (front : List Meaning) (mark : ℕ) (m : Meaning) → NoPair m → mark ≤ length front → Stretch (front ++ m ∷ []) [] mark
stretch_other front mark m h l = record {
  before = front ++ m ∷ [];
  parts = sym (append-nil (front ++ m ∷ []));
  after_mark = omega (arith, length_push front m);
  stops = inr (record { rest = front; last = m; is = refl; no_pair = h });
}

stretch_taken : (front : List Meaning) (m : Meaning) → Stretch (front ++ m ∷ []) [] (length front + 1)
stretch_taken front m = record {
  before = front ++ m ∷ [];
  parts = sym (append-nil (front ++ m ∷ []));
  after_mark = omega (arith, length_push front m);
  stops = inl (length_push front m);
}

mark_in : (front : List Meaning) (run : List Pair) (mark : ℕ) → Stretch front run mark → mark ≤ length front
mark_in front run mark s = omega (arith, s.after_mark, ap length s.parts, length-append s.before (map Record (reverse run)))

stretch_step : (s : Progress) (front : List Meaning) (mark : ℕ) (m : Meaning) → Stretch front s.run mark →
    Stretch (front ++ m ∷ []) (step s m).run (mark_after s m (length front) mark)
stretch_step s front mark Noise h = stretch_other front mark Noise tt (mark_in front s.run mark h)
stretch_step s front mark (Record p) h = stretch_pair front s.run mark p h
stretch_step s front mark (Commit c n) h = go (counts c n s)
  where
    go : (b : Bool) → Stretch (front ++ Commit c n ∷ []) (cond b (taken c n s) (passed s)).run (cond b (length front + 1) mark)
    go true = stretch_taken front (Commit c n)
    go false = stretch_other front mark (Commit c n) tt (mark_in front s.run mark h)
stretch_step s front mark (Header c n) h = stretch_other front mark (Header c n) tt (mark_in front s.run mark h)

stretches : (s : Progress) (front ms : List Meaning) (place mark : ℕ) → length front ≡ place → Stretch front s.run mark →
    Stretch (front ++ ms) (steps s ms).run (marks s ms place mark)
stretches s front [] place mark e h = subst (λ l. Stretch l s.run mark) (sym (append-nil front)) h
stretches s front (m ∷ ms) place mark e h =
    let more : Stretch (front ++ m ∷ []) (step s m).run (mark_after s m place mark) =
    subst (λ k. Stretch (front ++ m ∷ []) (step s m).run (mark_after s m k mark)) e (stretch_step s front mark m h) in
    subst (λ l. Stretch l (steps (step s m) ms).run (marks (step s m) ms (place + 1) (mark_after s m place mark))) (append_assoc front (m ∷ []) ms)
    (stretches (step s m) (front ++ m ∷ []) ms (place + 1) (mark_after s m place mark) (omega (arith, length_push front m)) more)

-- the pairs of a part of a stretch
pairs_in : (ps : List Pair) → all_records (map Record ps) ≡ Some ps
pairs_in [] = refl
pairs_in (p ∷ ps) = ap (cons_to p) (pairs_in ps)

none_single : (m : Meaning) (ys : List Meaning) → NoPair m → all_records (m ∷ ys) ≡ None
none_single Noise ys h = refl
none_single (Record p) ys h = absurd h
none_single (Commit c n) ys h = refl
none_single (Header c n) ys h = refl

none_in : (xs : List Meaning) (m : Meaning) (ys : List Meaning) → NoPair m → all_records (xs ++ m ∷ ys) ≡ None
none_in [] m ys h = none_single m ys h
none_in (Noise ∷ xs) m ys h = refl
none_in (Record p ∷ xs) m ys h = ap (cons_to p) (none_in xs m ys h)
none_in (Commit c n ∷ xs) m ys h = refl
none_in (Header c n ∷ xs) m ys h = refl

drop_reverse : (c : ℕ) (run : List Pair) → c ≤ length run → drop (length run - c) (reverse run) ≡ reverse (take c run)
drop_reverse c run h =
    ap (λ l. drop (length run - c) (reverse l)) (sym (take-append-drop c run))
    ∙ ap (drop (length run - c)) (reverse-append (take c run) (drop c run))
    ∙ drop_at (reverse (drop c run)) (reverse (take c run)) (length run - c) (length-reverse (drop c run) ∙ length-drop c run)

module _ (front : List Meaning) (run : List Pair) (mark : ℕ) (s : Stretch front run mark) (c : ℕ) where
  long : length front ≡ length s.before + length run
  long = ap length s.parts ∙ length-append s.before (map Record (reverse run)) ∙ ap (λ n. length s.before + n) (length-map (reverse run) Record ∙ length-reverse run)

  inside : c ≤ length run → directly c mark front ≡ Some (newest c run)
  inside h =
      let fit : mark + c ≤ length front = omega (arith, long, s.after_mark) in
      let k : length front - c ≡ length s.before + (length run - c) = omega (arith, long) in
      let part : drop (length front - c) front ≡ map Record (reverse (take c run)) =
      (λ i. drop (k i) (s.parts i)) ∙ skip s.before (map Record (reverse run)) (length run - c)
      ∙ drop-map Record (length run - c) (reverse run) ∙ ap (map Record) (drop_reverse c run h) in
      cond-true _ (all_records (drop (length front - c) front)) None (le-leb (mark + c) (length front) fit) ∙ ap all_records part ∙ pairs_in (reverse (take c run))
    where
      skip : (xs ys : List Meaning) (n : ℕ) → drop (length xs + n) (xs ++ ys) ≡ drop n ys
      skip [] ys n = let e : 0 + n ≡ n = omega arith in ap (λ j. drop j ys) e
      skip (x ∷ xs) ys n = let e : suc (length xs) + n ≡ suc (length xs + n) = omega arith in ap (λ j. drop j (x ∷ (xs ++ ys))) e ∙ skip xs ys n

  beyond : length run < c → directly c mark front ≡ None
  beyond h = go (cases_lt (length front) (mark + c))
    where
      at_quiet : Quiet s.before → mark + c ≤ length front → all_records (drop (length front - c) front) ≡ None
      at_quiet q fit =
          let all : front ≡ q.rest ++ (q.last ∷ map Record (reverse run)) =
          s.parts ∙ ap (λ l. l ++ map Record (reverse run)) q.is ∙ append_assoc q.rest (q.last ∷ []) (map Record (reverse run)) in
          let few : length front - c ≤ length q.rest = omega (arith, long, ap length q.is, length_push q.rest q.last) in
          ap all_records (ap (drop (length front - c)) all ∙ drop-append-le (length front - c) q.rest (q.last ∷ map Record (reverse run)) few)
          ∙ none_in (drop (length front - c) q.rest) q.last (map Record (reverse run)) q.no_pair

      stopped : (length s.before ≡ mark) ⊎ Quiet s.before → mark + c ≤ length front → all_records (drop (length front - c) front) ≡ None
      stopped (inl e) fit = absurd (omega (arith, long))
      stopped (inr q) fit = at_quiet q fit

      go : (length front < mark + c) ⊎ (mark + c ≤ length front) → directly c mark front ≡ None
      go (inl e) = cond-false _ (all_records (drop (length front - c) front)) None (lt-leb (mark + c) (length front) e)
      go (inr e) = cond-true _ (all_records (drop (length front - c) front)) None (le-leb (mark + c) (length front) e) ∙ stopped s.stops e

  directly_is : directly c mark front ≡ cond (leb c (length run)) (Some (newest c run)) None
  directly_is = go (cases_lt (length run) c)
    where
      go : (length run < c) ⊎ (c ≤ length run) → directly c mark front ≡ cond (leb c (length run)) (Some (newest c run)) None
      go (inl e) = beyond e ∙ sym (cond-false _ (Some (newest c run)) None (lt-leb c (length run) e))
      go (inr e) = inside e ∙ sym (cond-true _ (Some (newest c run)) None (le-leb c (length run) e))

pub run_stands_directly_before : RunStandsDirectlyBefore
run_stands_directly_before n ps front c =
    let start : Stretch [] [] 0 = record { before = []; parts = refl; after_mark = omega arith; stops = inl refl } in
    directly_is front (steps (fresh n ps) front).run (marks (fresh n ps) front 0 0) (stretches (fresh n ps) [] front 0 0 refl start) c
