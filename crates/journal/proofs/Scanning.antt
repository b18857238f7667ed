-- The walk by places keeps the number and the pairs of the reading, and the run that it counts stands directly before.
use Rattle.std.proofs.Common.{◌≡◌, ℕ, suc, ◌+◌, ◌-◌, ◌<◌, ◌≤◌, ◌^◌, Bool, true, false, cond, ◌&&◌, eqb, leb, List, [], ◌∷◌, ◌++◌, map, reverse, length, get_or, take, drop, Some, None, sym, refl, ap, ◌∙◌, subst, add-one, arith}
use mathlib.Core.List.{reverse-cons}
use Rattle.std.proofs.lemmas.List.{append_assoc, append-nil, map-append, length-append, length-map, length-reverse, length-take-le, length-drop, reverse-append, take-append-drop, take_more, take_at, drop_more, drop_all, drop_at, drop-append-le, drop-map}
use Rattle.std.proofs.lemmas.Bool.{leb-true, le-leb}
use Rattle.std.specs.declared.ops.Range.{Range}
use Rattle.std.specs.Fn.{Called, Takes}
use Rattle.std.specs.Iterator.{Yields, FoldTurn, FoldsItems, CallableInFold}
use Rattle.std.specs.List.{FoldsTo}
use Rattle.std.proofs.iter.Yields.{nat_range_steps}
use denote.Param.Members.{Mut}
use Rattle.layout.specs.declared.meanings.Pair.{Pair}
use Rattle.layout.specs.declared.meanings.Meaning.{Meaning}
use Rattle.layout.specs.declared.meanings.Meaning.TheVariants.{Noise, Record, Commit, Header}
use Rattle.layout.specs.PairLists.{rising}
use Rattle.journal.specs.Reading.{Progress, newest, counts, taken, passed, step, steps, leading, lawful}
use Rattle.layout.specs.Held.{pairs_of}
use Rattle.journal.specs.declared.logs.Log.{Log}
use Rattle.journal.specs.declared.logs.Start.{Start}
use Rattle.journal.specs.Log.{records_of, Tally, tally, counted_at, tally_with, tally_step}

abbrev tally_of : Progress → Tally
tally_of s = record { number = s.number; pairs = s.pairs; run = length s.run }

record Scanned (ms : List Meaning) (s₀ : Progress) (from unit : ℕ) (t : Tally) : Type 0 where
  s : Progress
  is : t ≡ tally_of s
  onward : steps s (drop unit ms) ≡ steps s₀ (drop from ms)
  front : List Meaning
  behind : take unit ms ≡ front ++ map Record (reverse s.run)
  few : t.run ≤ unit

-- the walk that a lawful header begins
abbrev pub begun : Start → Progress
begun o = record { number = o.log.number; pairs = pairs_of o.log.pairs; run = [] }

scanned_none : (ms : List Meaning) (o : Start) → Scanned ms (begun o) o.next o.next (tally o.log)
scanned_none ms o = record {
  s = begun o;
  is = λ i. record { number = o.log.number; pairs = pairs_of o.log.pairs; run = o.fresh i };
  onward = refl;
  front = take o.next ms;
  behind = sym (append-nil (take o.next ms));
  few = omega (arith, o.fresh);
}

skip : (xs ys : List Meaning) (n : ℕ) → drop (length xs + n) (xs ++ ys) ≡ drop n ys
skip [] ys n = let e : 0 + n ≡ n = omega arith in ap (λ j. drop j ys) e
skip (x ∷ xs) ys n = let e : suc (length xs) + n ≡ suc (length xs + n) = omega arith in ap (λ j. drop j (x ∷ (xs ++ ys))) e ∙ skip xs ys n

drop_reverse : (c : ℕ) (run : List Pair) → c ≤ length run → drop (length run - c) (reverse run) ≡ reverse (take c run)
drop_reverse c run h =
    ap (λ l. drop (length run - c) (reverse l)) (sym (take-append-drop c run))
    ∙ ap (drop (length run - c)) (reverse-append (take c run) (drop c run))
    ∙ drop_at (reverse (drop c run)) (reverse (take c run)) (length run - c) (length-reverse (drop c run) ∙ length-drop c run)

leading_records : (ps : List Pair) (ms : List Meaning) → leading (map Record ps ++ ms) ≡ ps ++ leading ms
leading_records [] ms = refl
leading_records (p ∷ ps) ms = ap (λ l. p ∷ l) (leading_records ps ms)

-- records that stand at the front
records_front : (ps : List Pair) (rest : List Meaning) → records_of (length ps) (map Record ps ++ rest) ≡ cond (rising ps) (Some ps) None
records_front ps rest =
    let lead = leading_records ps rest in
    let all : take (length ps) (leading (map Record ps ++ rest)) ≡ ps = ap (take (length ps)) lead ∙ take_at ps (leading rest) (length ps) refl in
    let long : length ps ≤ length (leading (map Record ps ++ rest)) = omega (arith, ap length lead, length-append ps (leading rest)) in
    let good : lawful (length ps) (map Record ps ++ rest) ≡ rising ps =
    ap (λ b. b && rising (take (length ps) (leading (map Record ps ++ rest)))) (le-leb _ _ long) ∙ ap rising all in
    λ i. cond (good i) (Some (all i)) None

module _ (ms : List Meaning) (s₀ : Progress) (from unit : ℕ) (t : Tally) (x : Scanned ms s₀ from unit t) (inside : unit < length ms) where
  long : unit ≡ length x.front + length x.s.run
  long =
      sym (length-take-le unit ms (omega arith)) ∙ ap length x.behind ∙ length-append x.front (map Record (reverse x.s.run))
      ∙ ap (λ n. length x.front + n) (length-map (reverse x.s.run) Record ∙ length-reverse x.s.run)

  -- the newest of the run stand directly before the unit
  directly : (c : ℕ) → c ≤ length x.s.run → drop (unit - c) ms ≡ map Record (newest c x.s.run) ++ drop unit ms
  directly c h =
      let run = x.s.run in
      let k : unit - c ≡ length x.front + (length run - c) = omega (arith, long) in
      let all : ms ≡ x.front ++ (map Record (reverse run) ++ drop unit ms) =
      sym (take-append-drop unit ms) ∙ ap (λ l. l ++ drop unit ms) x.behind ∙ append_assoc x.front (map Record (reverse run)) (drop unit ms) in
      let few' : length run - c ≤ length (map Record (reverse run)) = omega (arith, length-map (reverse run) Record, length-reverse run) in
      ap (λ j. drop j ms) k ∙ ap (drop (length x.front + (length run - c))) all
      ∙ skip x.front (map Record (reverse run) ++ drop unit ms) (length run - c)
      ∙ drop-append-le (length run - c) (map Record (reverse run)) (drop unit ms) few'
      ∙ ap (λ l. l ++ drop unit ms) (drop-map Record (length run - c) (reverse run) ∙ ap (map Record) (drop_reverse c run h))

  length_newest : (c : ℕ) → c ≤ length x.s.run → length (newest c x.s.run) ≡ c
  length_newest c h = length-reverse (take c x.s.run) ∙ length-take-le c x.s.run h

  counted_is : (c n : ℕ) → tally_with (counted_at ms unit c n (tally_of x.s)) n (tally_of x.s) ≡ tally_of (step x.s (Commit c n))
  counted_is c n = go (eqb n (x.s.number + 1)) (leb c (length x.s.run)) refl
    where
      by_rising : (b : Bool) → tally_with (cond b (Some (newest c x.s.run)) None) n (tally_of x.s) ≡ tally_of (cond b (taken c n x.s) (passed x.s))
      by_rising true = refl
      by_rising false = refl

      go : (a b : Bool) → leb c (length x.s.run) ≡ b →
          tally_with (cond (a && b) (records_of c (drop (unit - c) ms)) None) n (tally_of x.s) ≡ tally_of (cond (a && (b && rising (newest c x.s.run))) (taken c n x.s) (passed x.s))
      go false b e = refl
      go true false e = refl
      go true true e =
          let h = leb-true c (length x.s.run) e in
          let ps = newest c x.s.run in
          let r : records_of c (drop (unit - c) ms) ≡ cond (rising ps) (Some ps) None =
          ap (records_of c) (directly c h) ∙ ap (λ k. records_of k (map Record ps ++ drop unit ms)) (sym (length_newest c h)) ∙ records_front ps (drop unit ms) in
          ap (λ o. tally_with o n (tally_of x.s)) r ∙ by_rising (rising ps)

  more : (m : Meaning) → get_or ms unit Noise ≡ m → take (unit + 1) ms ≡ take unit ms ++ m ∷ []
  more m e = take_more ms unit Noise inside ∙ ap (λ y. take unit ms ++ y ∷ []) e

  rest : (m : Meaning) → get_or ms unit Noise ≡ m → steps (step x.s m) (drop (unit + 1) ms) ≡ steps s₀ (drop from ms)
  rest m e = sym (ap (steps x.s) (drop_more ms unit Noise inside ∙ ap (λ y. y ∷ drop (unit + 1) ms) e)) ∙ x.onward

  -- after a unit that leaves no run
  quiet : (m : Meaning) → get_or ms unit Noise ≡ m → (step x.s m).run ≡ [] → (t' : Tally) → t' ≡ tally_of (step x.s m) → Scanned ms s₀ from (unit + 1) t'
  quiet m e none t' q = record {
    s = step x.s m;
    is = q;
    onward = rest m e;
    front = take (unit + 1) ms;
    behind = sym (append-nil (take (unit + 1) ms)) ∙ ap (λ l. take (unit + 1) ms ++ map Record (reverse l)) (sym none);
    few = omega (arith, ap (λ (z : Tally). z.run) q, ap length none);
  }

  commit_run : (c n : ℕ) → (step x.s (Commit c n)).run ≡ []
  commit_run c n = go (counts c n x.s)
    where
      go : (b : Bool) → (cond b (taken c n x.s) (passed x.s)).run ≡ []
      go true = refl
      go false = refl

  scanned_more : (m : Meaning) → get_or ms unit Noise ≡ m → (t' : Tally) → t' ≡ tally_step ms unit t m → Scanned ms s₀ from (unit + 1) t'
  scanned_more Noise e t' q = quiet Noise e refl t' (q ∙ ap (λ z. tally_step ms unit z Noise) x.is)
  scanned_more (Header c n) e t' q = quiet (Header c n) e refl t' (q ∙ ap (λ z. tally_step ms unit z (Header c n)) x.is)
  scanned_more (Commit c n) e t' q =
      quiet (Commit c n) e (commit_run c n) t' (q ∙ ap (λ z. tally_step ms unit z (Commit c n)) x.is ∙ counted_is c n)
  scanned_more (Record p) e t' q =
      let run = x.s.run in
      let q' = q ∙ ap (λ z. tally_step ms unit z (Record p)) x.is ∙ ap (λ k. record { number = x.s.number; pairs = x.s.pairs; run = k }) (add-one (length run)) in
      record {
        s = step x.s (Record p);
        is = q';
        onward = rest (Record p) e;
        front = x.front;
        behind =
            more (Record p) e ∙ ap (λ l. l ++ Record p ∷ []) x.behind ∙ append_assoc x.front (map Record (reverse run)) (Record p ∷ [])
            ∙ ap (λ l. x.front ++ l) (sym (map-append Record (reverse run) (p ∷ [])) ∙ ap (map Record) (sym (reverse-cons p run)));
        few = omega (arith, ap (λ (z : Tally). z.run) q, x.few);
      }

scanned_all : (ms : List Meaning) (s₀ : Progress) (from unit : ℕ) (t : Tally) → Scanned ms s₀ from unit t → length ms ≤ unit →
    (t.pairs ≡ (steps s₀ (drop from ms)).pairs) × (t.number ≡ (steps s₀ (drop from ms)).number)
scanned_all ms s₀ from unit t x h =
    let e : x.s ≡ steps s₀ (drop from ms) = sym (ap (steps x.s) (drop_all unit ms h)) ∙ x.onward in
    (ap (λ (z : Tally). z.pairs) x.is ∙ ap (λ (z : Progress). z.pairs) e, ap (λ (z : Tally). z.number) x.is ∙ ap (λ (z : Progress). z.number) e)

-- The same for a fold over places, by calls that each take a log one unit further.
module _ {F : Type 0} {g : Mut F (Log × (ℕ × Unit {0})) Log} (ms : List Meaning) (o : Start) (f : F)
    (one : (l : Log) (x : ℕ) (r : Log) (q : F) → Called g f (l, (x, tt)) r q → (q ≡ f) × (tally r ≡ tally_step ms x (tally l) (get_or ms x Noise))) where
  -- the log has come to the first of the places left
  record At (s : Range ℕ) (p : F × Log) : Type 0 where
    same : p.0 ≡ f
    end : s.end ≡ length ms
    log : Scanned ms (begun o) o.next s.start (tally p.1)

  folded : (xs : List ℕ) (s t : Range ℕ) (p q : F × Log) → At s p → Yields nat_range_steps s xs t → FoldsTo (FoldTurn g) p xs q → At t q
  folded [] s t p q a y c = subst (λ z. At z q) y (subst (At s) c a)
  folded (x ∷ xs) s t p q a (m, step, y) (k, call, c) =
      let d = one p.1 x k.1 k.0 (subst (λ z. Called g z (p.1, (x, tt)) k.1 k.0) a.same call) in
      let here : x ≡ s.start = step.1.1 in
      let next : m.start ≡ x + 1 = omega (arith, here, step.1.2) in
      let h : x < length ms = omega (arith, a.end, here, step.1.0) in
      let l : Scanned ms (begun o) o.next x (tally p.1) = subst (λ n. Scanned ms (begun o) o.next n (tally p.1)) (sym here) a.log in
      folded xs m t k q
      (record {
        same = d.0;
        end = step.0 ∙ a.end;
        log = subst (λ n. Scanned ms (begun o) o.next n (tally k.1)) (sym next) (scanned_more ms (begun o) o.next x (tally p.1) l h _ refl (tally k.1) d.1);
      }) y c

  module _ (end : ℕ) (e : end ≡ length ms) where
    from_header : At (record { start = o.next; end = end }) (f, o.log)
    from_header = record { same = refl; end = e; log = scanned_none ms o }

    pub fold_callable : length ms ≤ 4096 → ((l : Log) (x : ℕ) → l.run ≤ x → x < 2 ^ 63 → Takes g f (l, (x, tt))) →
        CallableInFold nat_range_steps g (record { start = o.next; end = end }) f o.log
    fold_callable few may = record {
      at = λ xs t q x u y c step.
          let a = folded xs _ t _ q from_header y c in
          subst (λ z. Takes g z (q.1, (x, tt))) (sym a.same) (may q.1 x (omega (arith, a.log.few, step.1.1)) (omega (arith, few, a.end, step.1.0, step.1.1)));
    }

    pub fold_all : (r : Log) → FoldsItems nat_range_steps g (record { start = o.next; end = end }) f o.log r →
        (pairs_of r.pairs ≡ (steps (begun o) (drop o.next ms)).pairs) × (r.number ≡ (steps (begun o) (drop o.next ms)).number)
    fold_all r (xs, f', (u, w), c) =
        let a = folded xs _ w.0 _ (f', r) from_header w.1 c in
        scanned_all ms (begun o) o.next w.0.start (tally r) a.log (omega (arith, a.end, w.2.1.0))
