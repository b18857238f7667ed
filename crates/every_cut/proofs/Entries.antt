-- What `==` of outcomes says of those that are expected.
use Rattle.std.proofs.Common.{◌≡◌, ℕ, zero, suc, ◌+◌, cond, Bool, true, false, ◌&&◌, eqb, List, [], ◌∷◌, ◌++◌, map, length, drop, Option, Some, None, Result, Ok, Err, refl, sym, ap, ◌∙◌}
use Rattle.std.specs.Result.{result_eq}
use Rattle.std.specs.Option.{option_eq}
use Rattle.std.specs.Ordering.{int_eq}
use Rattle.std.specs.List.{starts_with, count_by}
use Rattle.std.proofs.lemmas.List.Sums.{sum_by-cons}
use Rattle.std.proofs.lemmas.Bool.{both_ways, eqb-true, and_parts}
use Rattle.std.proofs.lemmas.Bool.Decides.{Decides-int_eq}
use Rattle.layout.specs.declared.meanings.Pair.{Pair}
use Rattle.figures.specs.Figures.{example_pairs}
use Rattle.store.specs.declared.entries.Entry.{Entry}
use Rattle.store.specs.declared.entries.Entry.TheVariants.{Recover, Begin, Put, Commit, Get}
use Rattle.store.specs.declared.refusals.Refusal.{Refusal}
use Rattle.store.specs.contracts.entries.EntryPartialEq.TheImpl as the_impl
use Rattle.store.specs.contracts.refusals.RefusalPartialEq.TheImpl as the_refusal
use Rattle.runs.specs.declared.requests.Request.TheVariants.{Recover as the_recover}
use Rattle.every_cut.specs.declared.asking.ExpectedCall.{ExpectedCall}
use Rattle.every_cut.specs.declared.ways.Way.{Way}
use Rattle.every_cut.specs.Asked.{expected_call, outcome_of, put_calls, open_calls, commit_calls, repeated_commits, second_pairs, number_before, calls_before}
use Rattle.every_cut.specs.Cases.{empty_of}
use Rattle.every_cut.specs.Logs.{is_read}

-- accepted, and a call that answers a number
abbrev pub IsNumbered : Entry → Type 0
IsNumbered (Recover (Ok n)) = Unit {0}
IsNumbered (Begin (Ok n)) = Unit {0}
IsNumbered (Put t k v (Ok n)) = Unit {0}
IsNumbered (Commit t (Ok n)) = Unit {0}
IsNumbered _ = ⊥

-- `==` of two entries
abbrev pub same : Entry → Entry → Bool
same = the_impl.eq-value.it

never : {A : Type 0} → false ≡ true → A
never h = absurd (both_ways false refl h)

-- `==` of two refusals
abbrev same_refusal : Refusal → Refusal → Bool
same_refusal = the_refusal.eq-value.it

same_number : (n : ℕ) (r : Result ℕ Refusal) → result_eq eqb same_refusal (Ok n) r ≡ true → r ≡ Ok n
same_number n (Ok m) h = ap Ok (sym (eqb-true n m h))
same_number n (Err why) h = never h

pub same_entry : (e x : Entry) → IsNumbered e → same e x ≡ true → x ≡ e
same_entry (Recover (Ok n)) (Recover r) p h = ap Recover (same_number n r h)
same_entry (Recover (Ok n)) _ p h = never h
same_entry (Begin (Ok n)) (Begin r) p h = ap Begin (same_number n r h)
same_entry (Begin (Ok n)) _ p h = never h
same_entry (Put t k v (Ok n)) (Put t' k' v' r) p h =
    let number = result_eq eqb same_refusal (Ok n) r in
    let a = and_parts (eqb t t') (eqb k k' && (int_eq v v' && number)) h in
    let b = and_parts (eqb k k') (int_eq v v' && number) a.1 in
    let d = and_parts (int_eq v v') number b.1 in
    λ i. Put (sym (eqb-true t t' a.0) i) (sym (eqb-true k k' b.0) i) (sym ((Decides-int_eq v v').0 d.0) i) (same_number n r d.1 i)
same_entry (Put t k v (Ok n)) _ p h = never h
same_entry (Commit t (Ok n)) (Commit t' r) p h =
    let a = and_parts (eqb t t') (result_eq eqb same_refusal (Ok n) r) h in
    λ i. Commit (sym (eqb-true t t' a.0) i) (same_number n r a.1 i)
same_entry (Commit t (Ok n)) _ p h = never h
same_entry _ x p h = absurd p

-- ---- of lists

abbrev pub AllNumbered : List ExpectedCall → Type 0
AllNumbered [] = Unit {0}
AllNumbered (c ∷ cs) = IsNumbered c.entry × AllNumbered cs

same_outcome : (e : Entry) (o : Option Entry) → IsNumbered e → option_eq same (Some e) o ≡ true → o ≡ Some e
same_outcome e None p h = never h
same_outcome e (Some x) p h = ap Some (same_entry e x p h)

-- a log that starts with these outcomes by `==` starts with them
pub begins : (cs : List ExpectedCall) (log : List (Option Entry)) → AllNumbered cs → starts_with (option_eq same) log (map outcome_of cs) ≡ true →
    log ≡ map outcome_of cs ++ drop (length (map outcome_of cs)) log
begins [] log p h = refl
begins (c ∷ cs) [] p h = never h
begins (c ∷ cs) (o ∷ log) p h =
    let both = and_parts (option_eq same (Some c.entry) o) (starts_with (option_eq same) log (map outcome_of cs)) h in
    λ i. same_outcome c.entry o p.0 both.0 i ∷ begins cs log p.1 both.1 i

numbered-append : (xs ys : List ExpectedCall) → AllNumbered xs → AllNumbered ys → AllNumbered (xs ++ ys)
numbered-append [] ys p q = q
numbered-append (x ∷ xs) ys p q = (p.0, numbered-append xs ys p.1 q)

numbered_put_calls : (ticket n : ℕ) (ps : List Pair) → AllNumbered (put_calls ticket n ps)
numbered_put_calls ticket n [] = tt
numbered_put_calls ticket n (p ∷ ps) = (tt, numbered_put_calls ticket (n + 1) ps)

numbered_open_calls : (ticket : ℕ) (ps : List Pair) → AllNumbered (open_calls ticket ps)
numbered_open_calls ticket ps = (tt, numbered_put_calls ticket 0 ps)

numbered_repeated_commits : (n ticket : ℕ) (ps : List Pair) → AllNumbered (repeated_commits n ticket ps)
unfolding repeated_commits
numbered_repeated_commits zero ticket ps = tt
numbered_repeated_commits (suc n) ticket ps =
    numbered-append (repeated_commits n ticket ps) (commit_calls (ticket + n) ps) (numbered_repeated_commits n ticket ps)
    (numbered-append (open_calls (ticket + n) ps) _ (numbered_open_calls (ticket + n) ps) (tt, tt))

pub numbered_calls_before : (way : Way) → AllNumbered (calls_before way)
unfolding calls_before
numbered_calls_before way =
    let n = empty_of way in
    let recover = expected_call the_recover (Recover (Ok (number_before way))) ∷ [] in
    let four = repeated_commits 4 1 example_pairs in
    let empties = repeated_commits n 5 [] in
    let last = open_calls (number_before way + 1) second_pairs in
    numbered-append (four ++ empties ++ recover) last
    (numbered-append (four ++ empties) recover (numbered-append four empties (numbered_repeated_commits 4 1 example_pairs) (numbered_repeated_commits n 5 [])) (tt, tt))
    (numbered_open_calls (number_before way + 1) second_pairs)

-- none of them is a get
pub unread : (xs : List Pair) (cs : List ExpectedCall) → AllNumbered cs → count_by (is_read xs) (map outcome_of cs) ≡ 0
unread xs [] p = refl
unread xs (c ∷ cs) p = sum_by-cons f (Some c.entry) (map outcome_of cs) ∙ (λ i. cond (other c.entry p.0 i) 1 0 + unread xs cs p.1 i)
  where
    f : Option Entry → ℕ
    f o = cond (is_read xs o) 1 0

    other : (e : Entry) → IsNumbered e → is_read xs (Some e) ≡ false
    other (Get k r) q = absurd q
    other _ q = refl
