-- Units read one by one as records with rising keys.
use Rattle.std.proofs.Common.{◌≡◌, ℕ, zero, suc, ◌+◌, ◌-◌, ◌<◌, ◌≤◌, Bool, true, false, cond, ◌&&◌, ltb, leb, List, [], ◌∷◌, ◌++◌, length, get_or, take, drop, Some, None, Option, sym, refl, ap, ◌∙◌, subst, ⊎_elim, append_assoc, append-nil, add-one, arith}
use Rattle.std.specs.Option.{option_map}
use Rattle.std.specs.List.{AllByRecursion}
use Rattle.std.proofs.ByRecursion.{All-push, All-weaker}
use Rattle.std.proofs.lemmas.Bool.Decides.{nat_tests}
use Rattle.std.proofs.lemmas.Bool.{cases_Bool, cond-true, cond-false, lt-ltb, le-ltb, le-leb, lt-leb, and_left, and_from}
use Rattle.flash.specs.declared.units.Unit.{Unit as Cell}
use Rattle.flash.specs.declared.units.Unit.TheVariants.{Blank}
use Rattle.layout.specs.declared.meanings.Pair.{Pair}
use Rattle.layout.specs.declared.meanings.Meaning.{Meaning}
use Rattle.layout.specs.declared.meanings.Meaning.TheVariants.{Noise, Record, Commit, Header}
use Rattle.layout.specs.PairLists.{rising_above, with_pair}
use Rattle.layout.specs.Codec.{meaning_of}
use Rattle.journal.specs.Reading.{meanings, leading}
use Rattle.journal.specs.Log.{records_of}

join_record : ℕ → Meaning → (ℕ → Option (List Pair)) → Option (List Pair)
join_record b Noise rest = None
join_record b (Record p) rest = cond (ltb b p.key) (option_map (λ ps. p ∷ ps) (rest p.key)) None
join_record b (Commit c n) rest = None
join_record b (Header c n) rest = None

-- the c units at the front, if they are valid records with rising keys above b
records_above : ℕ → ℕ → List Meaning → Option (List Pair)
records_above b zero ms = Some []
records_above b (suc c) [] = None
records_above b (suc c) (m ∷ ms) = join_record b m (λ k. records_above k c ms)

mapped_cond : {A B : Type 0} (f : A → B) (b : Bool) (x : A) → option_map f (cond b (Some x) None) ≡ cond b (Some (f x)) None
mapped_cond f true x = refl
mapped_cond f false x = refl

shorter : (c n : ℕ) (a r : Bool) → a ≡ true → (leb (suc c) (suc n) && (a && r)) ≡ (leb c n && r)
shorter c n a r e = grind (arith, nat_tests)

blocked : (c n : ℕ) (a r : Bool) → a ≡ false → (leb (suc c) (suc n) && (a && r)) ≡ false
blocked c n a r e = grind (arith, nat_tests)

records_are : (b c : ℕ) (ms : List Meaning) →
    records_above b c ms ≡ cond (leb c (length (leading ms)) && rising_above b (take c (leading ms))) (Some (take c (leading ms))) None
unfolding records_above join_record
records_are b zero ms = sym (cond-true (leb 0 (length (leading ms)) && true) (Some []) None (and_from _ _ (le-leb 0 (length (leading ms)) (omega arith)) refl))
records_are b (suc c) [] = sym (cond-false (leb (suc c) 0 && true) (Some []) None (and_left _ _ (lt-leb (suc c) 0 (omega arith))))
records_are b (suc c) (Noise ∷ ms) = sym (cond-false (leb (suc c) 0 && true) (Some []) None (and_left _ _ (lt-leb (suc c) 0 (omega arith))))
records_are b (suc c) (Commit k n ∷ ms) = sym (cond-false (leb (suc c) 0 && true) (Some []) None (and_left _ _ (lt-leb (suc c) 0 (omega arith))))
records_are b (suc c) (Header k n ∷ ms) = sym (cond-false (leb (suc c) 0 && true) (Some []) None (and_left _ _ (lt-leb (suc c) 0 (omega arith))))
records_are b (suc c) (Record p ∷ ms) =
    let xs = take c (leading ms) in
    let a = ltb b p.key in
    let r = rising_above p.key xs in
    ⊎_elim
    (λ (t : a ≡ true).
    cond-true a _ _ t ∙ ap (option_map (λ ps. p ∷ ps)) (records_are p.key c ms)
    ∙ mapped_cond (λ ps. p ∷ ps) (leb c (length (leading ms)) && r) xs
    ∙ ap (λ x. cond x (Some (p ∷ xs)) None) (sym (shorter c (length (leading ms)) a r t)))
    (λ (t : a ≡ false).
    cond-false a _ _ t ∙ ap (λ x. cond x (Some (p ∷ xs)) None) (sym (blocked c (length (leading ms)) a r t)))
    (cases_Bool a)

-- one unit more at the place i
at_place : (b c i : ℕ) (ms : List Meaning) → records_above b (suc c) (drop i ms) ≡ join_record b (get_or ms i Noise) (λ k. records_above k c (drop (suc i) ms))
unfolding records_above join_record
at_place b c zero [] = refl
at_place b c zero (m ∷ ms) = refl
at_place b c (suc i) [] = refl
at_place b c (suc i) (m ∷ ms) = at_place b c i ms

not_record : (b : ℕ) (m : Meaning) (rest : ℕ → Option (List Pair)) → ((p : Pair) → m ≡ Record p → ⊥) → join_record b m rest ≡ None
unfolding join_record
not_record b Noise rest ne = refl
not_record b (Record p) rest ne = absurd (ne p refl)
not_record b (Commit c n) rest ne = refl
not_record b (Header c n) rest ne = refl

-- the first i of the c units gave the pairs ps, of which the last key is `last`
pub record Gathered (ms : List Meaning) (c : ℕ) (ps : List Pair) (last i : ℕ) : Type 0 where
  whole : records_above 0 c ms ≡ option_map (λ rest. ps ++ rest) (records_above last (c - i) (drop i ms))
  under : AllByRecursion (λ (p : Pair). p.key < last + 1) ps

mapped_same : (o : Option (List Pair)) → o ≡ option_map (λ rest. rest) o
mapped_same None = refl
mapped_same (Some x) = refl

mapped_twice : (ps : List Pair) (p : Pair) (o : Option (List Pair)) →
    option_map (λ rest. ps ++ rest) (option_map (λ qs. p ∷ qs) o) ≡ option_map (λ rest. (ps ++ p ∷ []) ++ rest) o
mapped_twice ps p None = refl
mapped_twice ps p (Some qs) = ap Some (sym (append_assoc ps (p ∷ []) qs))

with_last : (p : Pair) (ps : List Pair) → AllByRecursion (λ (q : Pair). q.key < p.key) ps → with_pair p ps ≡ ps ++ p ∷ []
with_last p [] a = refl
with_last p (q ∷ qs) a = cond-true (ltb q.key p.key) _ _ (lt-ltb q.key p.key a.0) ∙ ap (λ xs. q ∷ xs) (with_last p qs a.1)

pub gathered_none : (ms : List Meaning) (c : ℕ) (ps : List Pair) → ps ≡ [] → Gathered ms c ps 0 0
gathered_none ms c ps e =
    let z : c - 0 ≡ c = omega arith in
    subst (λ qs. Gathered ms c qs 0 0) (sym e)
    (record { whole = mapped_same (records_above 0 c ms) ∙ ap (λ k. option_map (λ rest. rest) (records_above 0 k ms)) (sym z); under = tt })

module _ (ms : List Meaning) (c : ℕ) (ps : List Pair) (last i : ℕ) (r : Gathered ms c ps last i) where
  next : i < c → records_above 0 c ms ≡ option_map (λ rest. ps ++ rest) (join_record last (get_or ms i Noise) (λ k. records_above k (c - (i + 1)) (drop (i + 1) ms)))
  next h =
      let q : c - i ≡ suc (c - (i + 1)) = omega arith in
      r.whole ∙ ap (option_map (λ rest. ps ++ rest))
      (ap (λ k. records_above last k (drop i ms)) q ∙ at_place last (c - (i + 1)) i ms
      ∙ ap (λ j. join_record last (get_or ms i Noise) (λ k. records_above k (c - (i + 1)) (drop j ms))) (sym (add-one i)))

  pub gathered_more : (p : Pair) → i < c → get_or ms i Noise ≡ Record p → last < p.key → Gathered ms c (with_pair p ps) p.key (i + 1)
  unfolding join_record
  gathered_more p h e lt =
      let u = All-weaker (λ (q : Pair). q.key < last + 1) (λ (q : Pair). q.key < p.key) (λ q l. omega arith) ps r.under in
      subst (λ qs. Gathered ms c qs p.key (i + 1)) (sym (with_last p ps u))
      (record {
        whole =
            next h
            ∙ ap (option_map (λ rest. ps ++ rest))
            (ap (λ x. join_record last x (λ k. records_above k (c - (i + 1)) (drop (i + 1) ms))) e ∙ cond-true (ltb last p.key) _ _ (lt-ltb last p.key lt))
            ∙ mapped_twice ps p (records_above p.key (c - (i + 1)) (drop (i + 1) ms));
        under = All-push (λ (q : Pair). q.key < p.key + 1) ps p (All-weaker (λ (q : Pair). q.key < p.key) (λ (q : Pair). q.key < p.key + 1) (λ q l. omega arith) ps u) (omega arith);
      })

  pub gathered_low : (p : Pair) → i < c → get_or ms i Noise ≡ Record p → p.key ≤ last → None ≡ records_of c ms
  unfolding join_record
  gathered_low p h e le =
      sym (next h ∙ ap (option_map (λ rest. ps ++ rest))
      (ap (λ x. join_record last x (λ k. records_above k (c - (i + 1)) (drop (i + 1) ms))) e ∙ cond-false (ltb last p.key) _ _ (le-ltb last p.key le)))
      ∙ records_are 0 c ms

  pub gathered_other : i < c → ((p : Pair) → get_or ms i Noise ≡ Record p → ⊥) → None ≡ records_of c ms
  gathered_other h ne =
      sym (next h ∙ ap (option_map (λ rest. ps ++ rest)) (not_record last (get_or ms i Noise) (λ k. records_above k (c - (i + 1)) (drop (i + 1) ms)) ne))
      ∙ records_are 0 c ms

  pub gathered_all : c ≤ i → Some ps ≡ records_of c ms
  unfolding records_above
  gathered_all h =
      let z : c - i ≡ 0 = omega arith in
      sym (r.whole ∙ ap (λ k. option_map (λ rest. ps ++ rest) (records_above last k (drop i ms))) z ∙ ap Some (append-nil ps)) ∙ records_are 0 c ms

-- the meaning of a unit by its place
get_or_meanings : (us : List Cell) (i : ℕ) → get_or (meanings us) i Noise ≡ meaning_of (get_or us i Blank)
get_or_meanings [] i = refl
get_or_meanings (u ∷ us) zero = refl
get_or_meanings (u ∷ us) (suc i) = get_or_meanings us i

get_or_dropped : (k i : ℕ) (ms : List Meaning) → get_or (drop k ms) i Noise ≡ get_or ms (k + i) Noise
get_or_dropped zero i ms = let e : i ≡ 0 + i = omega arith in ap (λ j. get_or ms j Noise) e
get_or_dropped (suc k) i [] = refl
get_or_dropped (suc k) i (m ∷ ms) = let e : suc (k + i) ≡ suc k + i = omega arith in get_or_dropped k i ms ∙ ap (λ j. get_or (m ∷ ms) j Noise) e

-- what a unit says, counted from a place on
pub said_after : (ms : List Meaning) (from unit : ℕ) → from ≤ unit → get_or (drop from ms) (unit - from) Noise ≡ get_or ms unit Noise
said_after ms from unit h =
    let e : from + (unit - from) ≡ unit = omega (arith, h) in
    get_or_dropped from (unit - from) ms ∙ ap (λ j. get_or ms j Noise) e

pub meaning_at : (us : List Cell) (i : ℕ) → get_or (meanings us) i Noise ≡ meaning_of (get_or us i Blank)
meaning_at us i = get_or_meanings us i

pub length_meanings : (us : List Cell) → length (meanings us) ≡ length us
length_meanings [] = refl
length_meanings (u ∷ us) = ap suc (length_meanings us)
