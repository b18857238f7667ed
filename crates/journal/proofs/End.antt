-- The end of a bank: before it stands its front, after it only blank units.
use Rattle.std.proofs.Common.{◌≡◌, ◌≢◌, ℕ, zero, suc, ◌+◌, ◌-◌, Bool, true, false, None, Some, Option, ◌<◌, ◌≤◌, List, [], ◌∷◌, ◌++◌, map, length, get_or, take, replicate, sym, refl, ap, ◌∙◌, subst, arith}
use Rattle.std.proofs.lemmas.List.{nil_from_length, take_all, take_more, length-take-le}
use Rattle.flash.specs.declared.units.Unit.{Unit as Cell}
use Rattle.flash.specs.declared.units.Unit.TheVariants.{Blank, Programmed, Unreadable}
use Rattle.std.specs.declared.iter.Rev.{Rev}
use Rattle.std.specs.declared.ops.Range.{Range}
use Rattle.std.specs.Range.{range_steps_back}
use Rattle.std.specs.Bool.{⊤}
use Rattle.std.specs.Fn.{CalledAt}
use Rattle.std.specs.Iterator.{Yields, YieldsThen}
use Rattle.std.specs.List.{FoldsTo}
use Rattle.std.specs.Option.{MatchOption}
use denote.Ref.{Bor}
use denote.Param.Members.{Mut}
use Rattle.journal.specs.Reading.{end_after, end_of}

pub record Split (us : List Cell) (e : ℕ) : Type 0 where
  pub front : List Cell
  pub free : ℕ
  pub parts : us ≡ front ++ replicate free Blank
  pub long : length front ≡ e
  pub size : length us ≡ e + free

split_used : (u : Cell) (us : List Cell) (e : ℕ) → Split us e → Split (u ∷ us) (suc e)
split_used u us e s = record {
  front = u ∷ s.front;
  free = s.free;
  parts = ap (λ l. u ∷ l) s.parts;
  long = ap suc s.long;
  size = omega (arith, s.size);
}

split_blank : (us : List Cell) → Split us zero → Split (Blank ∷ us) zero
split_blank us s = record {
  front = [];
  free = suc s.free;
  parts = ap (λ l. Blank ∷ l) (s.parts ∙ ap (λ l. l ++ replicate s.free Blank) (nil_from_length s.front s.long));
  long = refl;
  size = omega (arith, s.size);
}

split_after : (u : Cell) (us : List Cell) (e : ℕ) → Split us e → Split (u ∷ us) (end_after u e)
split_after Blank us zero s = split_blank us s
split_after Blank us (suc e) s = split_used Blank us (suc e) s
split_after (Programmed v) us e s = split_used (Programmed v) us e s
split_after Unreadable us e s = split_used Unreadable us e s

pub split : (us : List Cell) → Split us (end_of us)
split [] = record { front = []; free = 0; parts = refl; long = refl; size = omega arith }
split (u ∷ us) = split_after u us (end_of us) (split us)

pub end_blank : (t : ℕ) → end_of (replicate t Blank) ≡ 0
end_blank zero = refl
end_blank (suc t) = ap (end_after Blank) (end_blank t)

-- the end behind programmed units
pub end_programmed : (vs : List ℕ) (t : ℕ) → end_of (map Programmed vs ++ replicate t Blank) ≡ length vs
end_programmed [] t = end_blank t
end_programmed (v ∷ vs) t = ap suc (end_programmed vs t)

end_after_suc : (u : Cell) (e : ℕ) → end_after u (suc e) ≡ suc (suc e)
end_after_suc Blank e = refl
end_after_suc (Programmed v) e = refl
end_after_suc Unreadable e = refl

pub end_append : (us xs : List Cell) (e : ℕ) → end_of xs ≡ suc e → end_of (us ++ xs) ≡ suc (length us + e)
end_append [] xs e h = omega arith
end_append (u ∷ us) xs e h =
    let k : suc (length us + e) ≡ length us + suc e = omega arith in
    ap (end_after u) (end_append us xs e h) ∙ end_after_suc u (length us + e) ∙ omega arith

-- one unit more at the end of the units so far
end_push_blank : (us : List Cell) → end_of (us ++ Blank ∷ []) ≡ end_of us
end_push_blank [] = refl
end_push_blank (u ∷ us) = ap (end_after u) (end_push_blank us)

end_push_used : (us : List Cell) (x : Cell) → end_of (x ∷ []) ≡ 1 → end_of (us ++ x ∷ []) ≡ length us + 1
end_push_used us x h = end_append us (x ∷ []) 0 h ∙ omega arith

-- a loop's step over the units us at the index i
end_more_blank : (us : List Cell) (i : ℕ) → i < length us → get_or us i Blank ≡ Blank → end_of (take (i + 1) us) ≡ end_of (take i us)
end_more_blank us i h e =
    ap end_of (take_more us i Blank h ∙ ap (λ x. take i us ++ x ∷ []) e) ∙ end_push_blank (take i us)

end_more_used : (us : List Cell) (i : ℕ) (x : Cell) → i < length us → get_or us i Blank ≡ x → end_of (x ∷ []) ≡ 1 → end_of (take (i + 1) us) ≡ i + 1
end_more_used us i x h e q =
    let in-us : i ≤ length us = omega arith in
    ap end_of (take_more us i Blank h ∙ ap (λ y. take i us ++ y ∷ []) e) ∙ end_push_used (take i us) x q ∙ ap (λ n. n + 1) (length-take-le i us in-us)

end_one : (x : Cell) → x ≢ Blank → end_of (x ∷ []) ≡ 1
end_one Blank ne = absurd (ne refl)
end_one (Programmed v) ne = refl
end_one Unreadable ne = refl

-- A search of a bank's units from its end back, by calls that answer whether the unit at a place is in use.
abbrev down_steps : Rev (Range ℕ) → Option ℕ → Rev (Range ℕ) → Type 0
down_steps s r t = range_steps_back (λ a b. b - a) (λ a b. b ≡ a + 1) s.iter r t.iter

module _ {F : Type 0} {g : Mut F (Bor ℕ × Unit {0}) Bool} (us : List Cell) (f : F)
    (used : (x : ℕ) (q : F) → CalledAt g f x true q → get_or us x Blank ≢ Blank)
    (unused : (x : ℕ) (q : F) → CalledAt g f x false q → (q ≡ f) × (get_or us x Blank ≡ Blank)) where
  -- the units behind the places left are blank
  record Back (s : Rev (Range ℕ)) : Type 0 where
    start : s.iter.start ≡ 0
    inside : s.iter.end ≤ length us
    blank : end_of us ≡ end_of (take s.iter.end us)

  back : (xs : List ℕ) (s t : Rev (Range ℕ)) (p j : F) → p ≡ f → Back s → Yields down_steps s xs t → FoldsTo (λ p x q. CalledAt g p x false q) p xs j → (j ≡ f) × Back t
  back [] s t p j e b y c = (sym c ∙ e, subst Back y b)
  back (x ∷ xs) s t p j e b (m, step, y) (q, call, c) =
      let k = unused x q (subst (λ z. CalledAt g z x false q) e call) in
      let here : s.iter.end ≡ x + 1 = omega (arith, step.1.1, step.1.2) in
      let h : x < length us = omega (arith, b.inside, here) in
      back xs m t q j k.0
      (record {
        start = step.0 ∙ b.start;
        inside = omega (arith, h, step.1.1);
        blank = b.blank ∙ ap (λ n. end_of (take n us)) here ∙ end_more_blank us x h k.1 ∙ ap (λ n. end_of (take n us)) step.1.1;
      }) y c

  pub end_from_search : (s u : Rev (Range ℕ)) (r : Option ℕ) → s.iter ≡ record { start = 0; end = length us }
      → (xs : List ℕ) × (j : F) × YieldsThen down_steps s xs r u × FoldsTo (λ p x q. CalledAt g p x false q) f xs j × MatchOption r ⊤ (λ x. (h : F) × CalledAt g j x true h)
      → MatchOption r (end_of us ≡ 0) (λ i. i + 1 ≡ end_of us)
  end_from_search s u r e (xs, j, (t, y, step), c, last) = by r step last
    where
      all : s.iter.end ≡ length us
      all = ap (λ (k : Range ℕ). k.end) e

      left : (j ≡ f) × Back t
      left =
          back xs s t f j refl (record { start = ap (λ (k : Range ℕ). k.start) e; inside = omega (arith, all); blank = ap end_of (sym (take_all (length us) us (omega arith))) ∙ ap (λ n. end_of (take n us)) (sym all) }) y c

      by : (r : Option ℕ) → down_steps t r u → MatchOption r ⊤ (λ x. (h : F) × CalledAt g j x true h) → MatchOption r (end_of us ≡ 0) (λ i. i + 1 ≡ end_of us)
      by None step last =
          let z : t.iter.end ≡ 0 = omega (arith, left.1.start, step.1.0) in
          left.1.blank ∙ ap (λ n. end_of (take n us)) z
      by (Some i) step last =
          let here : t.iter.end ≡ i + 1 = omega (arith, step.1.1, step.1.2) in
          let h : i < length us = omega (arith, left.1.inside, here) in
          sym (left.1.blank ∙ ap (λ n. end_of (take n us)) here ∙ end_more_used us i _ h refl (end_one _ (used i last.0 (subst (λ z. CalledAt g z i true last.0) left.0 last.1))))
