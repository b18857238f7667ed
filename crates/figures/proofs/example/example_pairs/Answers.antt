use Rattle.std.proofs.Common.{◌≡◌, ℕ, ◌<◌, true, eqb, List, [], map, length, get_or, ℤ, pos, Ok, Err, to_z, of_z, w32, w64, sym, refl, ap, ◌∙◌, subst, arith, SFits}
use Rattle.std.proofs.lemmas.List.{take_all, get_or-map, length-map}
use Rattle.std.proofs.lemmas.List.Sums.{fold_more}
use Rattle.std.proofs.lemmas.Bool.{cond-true, eq-eqb}
use Rattle.layout.proofs.WellFormed.{admitted_at, admits_fits}
use Rattle.layout.specs.declared.meanings.Pair.{Pair}
use Rattle.layout.specs.Held.{pairs_of}
use Rattle.layout.specs.PairLists.{with_pair, merged, all_admitted}
use Rattle.layout.proofs.Paired.{no_pair}
use Rattle.layout.specs.Catalogue.{admits, pair_of}
use Rattle.readings.specs.Gathered.{coefficients_of}
use Rattle.compensation.specs.Division.{floor_div}
use Rattle.compensation.specs.Formulas.{x1_of, x2_of, t_of, samples_of, s_of, x3_of, b3_of, y3_of, b4_of, b7_of, p_of, last_correction_of, pa_of, up_limit_of}
use Rattle.figures.specs.Figures.{example_pairs, example_line}
use Rattle.store.specs.declared.refusals.Refusal.TheVariants.{OldStep}
use Rattle.figures.proofs.example.example_pairs.Goals as goal

-- a key with its coefficient, as a pair
abbrev pair_from : ℕ × ℤ → Pair
pair_from p = pair_of p.0 p.1

all : all_admitted example_pairs ≡ true
unfolding admits
all = refl

-- the widths that a coefficient goes through leave it as it is
abbrev wide : Pair → Pair
wide q = pair_of q.key (to_z w64 (of_z w64 q.value))

abbrev narrowed : Pair → Pair
narrowed q = pair_of q.key (to_z w32 (of_z w32 (to_z w64 (of_z w64 q.value))))

at : (f : Pair → Pair) → map f example_pairs ≡ example_pairs → (xs : List (ℕ × ℤ)) (i : ℕ) → map pair_from xs ≡ example_pairs → i < 11 →
    f (pair_from (get_or xs i (0, pos 0))) ≡ get_or example_pairs i no_pair
at f same xs i e h =
    let n : i < length xs = omega (arith, h, ap length e, length-map xs pair_from) in
    ap f (sym (get_or-map pair_from xs i (0, pos 0) no_pair n) ∙ ap (λ (qs : List Pair). get_or qs i no_pair) e)
    ∙ sym (get_or-map f example_pairs i no_pair no_pair h) ∙ ap (λ (qs : List Pair). get_or qs i no_pair) same

pub overflow_cast-value : goal.overflow_cast-value
overflow_cast-value c =
    let i = c.loop-key.key-index in
    let h : i < 11 = c.loop-key-test.true in
    subst (λ (q : Pair). SFits w32 q.value) (sym (at wide refl c.keyed_coefficients-key-items.result i c.keyed_coefficients-key-items.ensures h))
    (admits_fits (get_or example_pairs i no_pair) (admitted_at example_pairs i no_pair h all))

pub loop-key-preserved : goal.loop-key-preserved
loop-key-preserved c =
    let i = c.loop-key.key-index in
    let h : i < 11 = c.loop-key-test.true in
    let p = get_or example_pairs i no_pair in
    let here = at narrowed refl c.keyed_coefficients-key-items.result i c.keyed_coefficients-key-items.ensures h in
    let e : pairs_of c.lay.new.self ≡ with_pair p (pairs_of c.loop-key.pairs) =
    c.lay.ensures.pairs ∙ cond-true _ _ _ (ap admits here ∙ admitted_at example_pairs i no_pair h all) ∙ ap (λ (q : Pair). with_pair q (pairs_of c.loop-key.pairs)) here in
    e ∙ ap (with_pair p) c.loop-key.invariant ∙ sym (fold_more (λ ps (q : Pair). with_pair q ps) [] example_pairs i no_pair h)

pub returns : goal.returns
unfolding floor_div x1_of x2_of t_of samples_of s_of x3_of b3_of y3_of b4_of b7_of p_of last_correction_of pa_of up_limit_of coefficients_of admits
returns c =
    record {
      pairs = c.loop-key.invariant ∙ ap (merged []) (take_all c.loop-key.key-index example_pairs c.loop-key-test.false);
      figures =
          record {
            compensation = record { temperature = refl; pressure = refl; hottest = refl; coldest = refl; too_hot = refl; too_cold = refl };
            complete = refl;
            gathered = refl;
            step = λ n. refl;
            line = λ n. cond-true (eqb n n) (Ok example_line) (Err OldStep) (eq-eqb n n refl);
            line_by_law = λ n. cond-true (eqb n n) (Ok example_line) (Err OldStep) (eq-eqb n n refl);
            greatest_ac4 = refl;
            ac4_put = refl;
            ac4_refused = λ change. refl;
            mb_refused = λ change. refl;
            refused_with_8 = refl;
            refused_with_15 = refl;
            mirrored = λ v. refl;
            mirrored_first = λ v. refl;
          };
    }
