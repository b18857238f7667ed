-- What a bank says when units are added behind it.
use Rattle.std.proofs.Common.{◌≡◌, ℕ, zero, suc, ◌+◌, ◌≤◌, Bool, true, false, cond, eqb, leb, List, [], ◌∷◌, ◌++◌, map, reverse, length, take, drop, replicate, Some, None, Option, sym, refl, ap, ◌∙◌, subst, arith}
use mathlib.Core.List.{reverse_aux}
use Rattle.std.proofs.lemmas.List.{length-append, length-reverse, reverse-reverse, take_at, take-append-le, drop-append-le}
use Rattle.std.proofs.lemmas.Bool.{and_parts, and_from, le-leb, leb-true, eq-eqb, eqb-true, cond-true, cond_both}
use mathlib.Core.List.{reverse_aux-eq}
use Rattle.layout.specs.declared.meanings.Pair.{Pair}
use Rattle.layout.specs.declared.meanings.Meaning.{Meaning}
use Rattle.layout.specs.declared.meanings.Meaning.TheVariants.{Noise, Record, Commit, Header}
use Rattle.layout.specs.PairLists.{rising, merged}
use Rattle.journal.specs.Reading.{Progress, newest, counts, taken, passed, step, steps, leading, lawful, Opening, opening}

pub none_some : {A : Type 0} {o : A} (B : Type 0) → ◌≡◌ {A = Option A} None (Some o) → B
none_some {A} {o} B e = let z : ◌≡◌ {A = ℕ} 0 1 = cc in absurd (omega arith)

pub some_inj : {A : Type 0} {x y : A} → ◌≡◌ {A = Option A} (Some x) (Some y) → x ≡ y
some_inj e = cc

pub steps_append : (s : Progress) (xs ys : List Meaning) → steps s (xs ++ ys) ≡ steps (steps s xs) ys
steps_append s [] ys = refl
steps_append s (x ∷ xs) ys = steps_append (step s x) xs ys

-- noise changes neither number nor pairs
pub steps_noise : (n : ℕ) (s : Progress) → ((steps s (replicate n Noise)).number ≡ s.number) × ((steps s (replicate n Noise)).pairs ≡ s.pairs)
steps_noise zero s = (refl, refl)
steps_noise (suc n) s = steps_noise n (passed s)

-- records alone change only the run
pub steps_pairs : (ps : List Pair) (s : Progress) → steps s (map Record ps) ≡ record { number = s.number; pairs = s.pairs; run = reverse_aux ps s.run }
steps_pairs [] s = refl
steps_pairs (p ∷ ps) s = steps_pairs ps (step s (Record p))

pub newest_run : (ps run : List Pair) → newest (length ps) (reverse_aux ps run) ≡ ps
newest_run ps run =
    ap (λ l. reverse (take (length ps) l)) (reverse_aux-eq ps run)
    ∙ ap reverse (take_at (reverse ps) run (length ps) (length-reverse ps))
    ∙ reverse-reverse ps

pub length_run : (ps run : List Pair) → length (reverse_aux ps run) ≡ length ps + length run
length_run ps run = ap length (reverse_aux-eq ps run) ∙ length-append (reverse ps) run ∙ ap (λ n. n + length run) (length-reverse ps)

-- the records of a change and their commit unit count
pub commit_counts : (ps : List Pair) (s : Progress) → rising ps ≡ true →
    counts (length ps) (s.number + 1) (record { number = s.number; pairs = s.pairs; run = reverse_aux ps s.run }) ≡ true
commit_counts ps s h =
    let l : length ps ≤ length (reverse_aux ps s.run) = omega (arith, length_run ps s.run) in
    and_from _ _ (eq-eqb _ _ refl) (and_from _ _ (le-leb _ _ l) (ap rising (newest_run ps s.run) ∙ h))

pub steps_change : (ps : List Pair) (s : Progress) → rising ps ≡ true →
    steps s (map Record ps ++ Commit (length ps) (s.number + 1) ∷ []) ≡ record { number = s.number + 1; pairs = merged s.pairs ps; run = [] }
steps_change ps s h =
    let t : Progress = record { number = s.number; pairs = s.pairs; run = reverse_aux ps s.run } in
    steps_append s (map Record ps) (Commit (length ps) (s.number + 1) ∷ [])
    ∙ ap (λ u. steps u (Commit (length ps) (s.number + 1) ∷ [])) (steps_pairs ps s)
    ∙ cond-true _ (taken (length ps) (s.number + 1) t) (passed t) (commit_counts ps s h)
    ∙ ap (λ l. record { number = s.number + 1; pairs = merged s.pairs l; run = [] }) (newest_run ps s.run)

-- the records at the front of a bank
pub leading_noise : (f : List Meaning) (m : ℕ) → leading (f ++ replicate m Noise) ≡ leading f
leading_noise [] zero = refl
leading_noise [] (suc m) = refl
leading_noise (Noise ∷ f) m = refl
leading_noise (Record p ∷ f) m = ap (λ l. p ∷ l) (leading_noise f m)
leading_noise (Commit c n ∷ f) m = refl
leading_noise (Header c n ∷ f) m = refl

pub leading_length : (f : List Meaning) → length (leading f) ≤ length f
leading_length [] = omega arith
leading_length (Noise ∷ f) = omega arith
leading_length (Record p ∷ f) = omega (arith, leading_length f)
leading_length (Commit c n ∷ f) = omega arith
leading_length (Header c n ∷ f) = omega arith

pub leading_more : (f x : List Meaning) → (z : List Pair) × (leading (f ++ x) ≡ leading f ++ z)
leading_more [] x = (leading x, refl)
leading_more (Noise ∷ f) x = ([], refl)
leading_more (Record p ∷ f) x = let w = leading_more f x in (w.0, ap (λ l. p ∷ l) w.1)
leading_more (Commit c n ∷ f) x = ([], refl)
leading_more (Header c n ∷ f) x = ([], refl)

-- A bank with m units of noise at its end that a lawful header opens is opened alike when others stand in their place.
pub record Grown (o : Opening) (m : ℕ) (f x : List Meaning) : Type 0 where
  pub kept : List Meaning
  pub was : o.rest ≡ kept ++ replicate m Noise
  pub opens : opening (f ++ x) ≡ Some (record { number = o.number; pairs = o.pairs; rest = kept ++ x })

grown_lawful : (c n : ℕ) (f x : List Meaning) (m : ℕ) → lawful c (f ++ replicate m Noise) ≡ true →
    Grown (record { number = n; pairs = take c (leading (f ++ replicate m Noise)); rest = drop c (f ++ replicate m Noise) }) m (Header c n ∷ f) x
grown_lawful c n f x m h =
    let hs = and_parts (leb c (length (leading (f ++ replicate m Noise)))) _ h in
    let few : c ≤ length (leading f) =
    omega (arith, leb-true c (length (leading (f ++ replicate m Noise))) hs.0, ap length (leading_noise f m)) in
    let in_f : c ≤ length f = omega (arith, leading_length f) in
    let w = leading_more f x in
    let same : take c (leading (f ++ x)) ≡ take c (leading (f ++ replicate m Noise)) =
    ap (take c) w.1 ∙ take-append-le c (leading f) w.0 few ∙ ap (take c) (sym (leading_noise f m)) in
    let long : c ≤ length (leading (f ++ x)) = omega (arith, ap length w.1, length-append (leading f) w.0) in
    let good : lawful c (f ++ x) ≡ true = and_from _ _ (le-leb _ _ long) (ap rising same ∙ hs.1) in
    record {
      kept = drop c f;
      was = drop-append-le c f (replicate m Noise) in_f;
      opens = cond-true _ _ _ good ∙ ap Some (λ i. record { number = n; pairs = same i; rest = drop-append-le c f x in_f i });
    }

grown_cond : (b : Bool) (o p : Opening) (m : ℕ) (f x : List Meaning) → (b ≡ true → Grown p m f x) → cond b (Some p) None ≡ Some o → Grown o m f x
grown_cond true o p m f x g e = subst (λ q. Grown q m f x) (some_inj e) (g refl)
grown_cond false o p m f x g e = none_some (Grown o m f x) e

pub grown : (f x : List Meaning) (m : ℕ) (o : Opening) → opening (f ++ replicate m Noise) ≡ Some o → Grown o m f x
grown [] x zero o e = none_some (Grown o zero [] x) e
grown [] x (suc m) o e = none_some (Grown o (suc m) [] x) e
grown (Noise ∷ f) x m o e = none_some (Grown o m (Noise ∷ f) x) e
grown (Record p ∷ f) x m o e = none_some (Grown o m (Record p ∷ f) x) e
grown (Commit c n ∷ f) x m o e = none_some (Grown o m (Commit c n ∷ f) x) e
grown (Header c n ∷ f) x m o e =
    grown_cond (lawful c (f ++ replicate m Noise)) o _ m (Header c n ∷ f) x (grown_lawful c n f x m) e

-- numbers only grow
step_number : (s : Progress) (m : Meaning) → s.number ≤ (step s m).number
step_number s Noise = omega arith
step_number s (Record p) = omega arith
step_number s (Commit c n) =
    cond_both (counts c n s) (taken c n s) (passed s) (λ t. s.number ≤ t.number)
    (λ e. let q = and_parts (eqb n (s.number + 1)) _ e in omega (arith, eqb-true n (s.number + 1) q.0)) (λ _. omega arith)
step_number s (Header c n) = omega arith

pub steps_number : (s : Progress) (ms : List Meaning) → s.number ≤ (steps s ms).number
steps_number s [] = omega arith
steps_number s (m ∷ ms) = omega (arith, step_number s m, steps_number (step s m) ms)
