-- What the ledger says after the calls that a run is asked first, if each answers what is expected.
use Rattle.std.proofs.Common.{◌≡◌, ℕ, zero, suc, ◌+◌, eqb, List, [], ◌∷◌, ◌++◌, map, length, Option, Some, None, Ok, refl, ap, ◌∙◌, arith}
use Rattle.std.proofs.lemmas.List.{append-nil, length-append}
use Rattle.std.proofs.lemmas.Bool.{cond_both}
use Rattle.layout.specs.declared.meanings.Pair.{Pair}
use Rattle.layout.specs.PairLists.{merged, with_pair}
use Rattle.figures.specs.Figures.{example_pairs}
use Rattle.store.specs.declared.entries.Entry.{Entry}
use Rattle.store.specs.declared.entries.Entry.TheVariants.{Recover, Begin, Put, Commit}
use Rattle.store.specs.Ledger.{OpenChange, Ledger, ledger, laid, fed, ledger_of}
use Rattle.store.proofs.Following.{laid_last}
use Rattle.runs.specs.declared.requests.Request.TheVariants.{Recover as the_recover, Commit as the_commit}
use Rattle.runs.specs.Runs.{past_after}
use Rattle.every_cut.specs.declared.asking.ExpectedCall.{ExpectedCall}
use Rattle.every_cut.specs.declared.ways.Way.{Way}
use Rattle.every_cut.specs.Cases.{empty_of}
use Rattle.every_cut.specs.Asked.{expected_call, outcome_of, put_calls, open_calls, commit_calls, repeated_commits, second_pairs, number_before, calls_before}

abbrev opened : ℕ → List Pair → Option OpenChange
opened ticket ps = Some (record { ticket = ticket; pairs = ps })

-- the past after some calls with the answers that are expected
abbrev pub after : List ExpectedCall → List Entry → List Entry
after calls past = past_after (map outcome_of calls) past

after-append : (xs ys : List ExpectedCall) (past : List Entry) → after (xs ++ ys) past ≡ after ys (after xs past)
after-append [] ys past = refl
after-append (x ∷ xs) ys past = after-append xs ys (x.entry ∷ past)

-- ---- the ledger, whatever stood before

module _ (standing : List (List Pair)) where
  ledger-put_calls : (ticket n : ℕ) (qs ps : List Pair) (past : List Entry) → ledger_of past ≡ ledger standing (opened ticket qs) None →
      ledger_of (after (put_calls ticket n ps) past) ≡ ledger standing (opened ticket (merged qs ps)) None
  ledger-put_calls ticket n qs [] past e = e
  ledger-put_calls ticket n qs (p ∷ ps) past e =
      let call = Put ticket p.key p.value (Ok (n + 1)) in
      ledger-put_calls ticket (n + 1) (with_pair p qs) ps (call ∷ past) (ap (λ (l : Ledger). fed l call) e)

  ledger-open_calls : (ticket : ℕ) (ps : List Pair) (past : List Entry) → ledger_of past ≡ ledger standing None None →
      ledger_of (after (open_calls ticket ps) past) ≡ ledger standing (opened ticket (merged [] ps)) None
  ledger-open_calls ticket ps past e = ledger-put_calls ticket 0 [] ps (Begin (Ok ticket) ∷ past) (ap (λ (l : Ledger). fed l (Begin (Ok ticket))) e)

  ledger-commit_calls : (ticket : ℕ) (ps : List Pair) (past : List Entry) → ledger_of past ≡ ledger standing None None →
      ledger_of (after (commit_calls ticket ps) past) ≡ ledger (standing ++ merged [] ps ∷ []) None None
  ledger-commit_calls ticket ps past e =
      ap ledger_of (after-append (open_calls ticket ps) (expected_call (the_commit ticket) (Commit ticket (Ok ticket)) ∷ []) past)
      ∙ ap (λ (l : Ledger). fed l (Commit ticket (Ok ticket))) (ledger-open_calls ticket ps past e)

-- n changes more of the same pairs
abbrev grown : ℕ → List (List Pair) → List Pair → List (List Pair)
grown zero standing ps = standing
grown (suc n) standing ps = grown n standing ps ++ ps ∷ []

ledger-repeated_commits : (n ticket : ℕ) (ps : List Pair) (standing : List (List Pair)) (past : List Entry) → ledger_of past ≡ ledger standing None None →
    ledger_of (after (repeated_commits n ticket ps) past) ≡ ledger (grown n standing (merged [] ps)) None None
unfolding repeated_commits
ledger-repeated_commits zero ticket ps standing past e = e
ledger-repeated_commits (suc n) ticket ps standing past e =
    ap ledger_of (after-append (repeated_commits n ticket ps) (commit_calls (ticket + n) ps) past)
    ∙ ledger-commit_calls (grown n standing (merged [] ps)) (ticket + n) ps (after (repeated_commits n ticket ps) past) (ledger-repeated_commits n ticket ps standing past e)

-- ---- of these calls

-- commits of no pairs leave the pairs as they are
laid_empties : (n : ℕ) (standing : List (List Pair)) → laid [] (grown n standing []) ≡ laid [] standing
laid_empties zero standing = refl
laid_empties (suc n) standing = laid_last [] (grown n standing []) [] ∙ laid_empties n standing

length-grown : (n : ℕ) (standing : List (List Pair)) (ps : List Pair) → length (grown n standing ps) ≡ length standing + n
length-grown zero standing ps = omega arith
length-grown (suc n) standing ps = omega (arith, length-append (grown n standing ps) (ps ∷ []), length-grown n standing ps)

-- the changes that stand when the second calibration is put
pub earlier : Way → List (List Pair)
earlier way = grown (empty_of way) (grown 4 [] example_pairs) []

pub pairs-earlier : (way : Way) → laid [] (earlier way) ≡ example_pairs
unfolding earlier
pairs-earlier way = laid_empties (empty_of way) (grown 4 [] example_pairs) ∙ refl

pub length-earlier : (way : Way) → length (earlier way) ≡ number_before way
unfolding earlier
length-earlier way = length-grown (empty_of way) (grown 4 [] example_pairs) []

-- a recover leaves what stands, where nothing is in doubt
ledger-recover : (n : ℕ) (standing : List (List Pair)) (past : List Entry) → ledger_of past ≡ ledger standing None None →
    ledger_of (Recover (Ok n) ∷ past) ≡ ledger standing None None
ledger-recover n standing past e =
    ap (λ (l : Ledger). fed l (Recover (Ok n))) e
    ∙ ap (λ (changes : List (List Pair)). ledger changes None None)
    (cond_both (eqb n (length standing + 1)) (standing ++ []) standing (λ (x : List (List Pair)). x ≡ standing) (λ q. append-nil standing) (λ q. refl))

-- the parts of these calls
abbrev whole_calls : List ExpectedCall
whole_calls = repeated_commits 4 1 example_pairs

abbrev empty_calls : Way → List ExpectedCall
empty_calls way = repeated_commits (empty_of way) 5 []

abbrev recover_call : Way → List ExpectedCall
recover_call way = expected_call the_recover (Recover (Ok (number_before way))) ∷ []

abbrev filled_past : Way → List Entry
filled_past way = after (empty_calls way) (after whole_calls [])

ledger-filled : (way : Way) → ledger_of (filled_past way) ≡ ledger (earlier way) None None
unfolding earlier
ledger-filled way =
    ledger-repeated_commits (empty_of way) 5 [] (grown 4 [] example_pairs) (after whole_calls [])
    (ledger-repeated_commits 4 1 example_pairs [] [] refl ∙ ap (λ (ps : List Pair). ledger (grown 4 [] ps) None None) whole_alone)
  where
    whole_alone : merged [] example_pairs ≡ example_pairs
    whole_alone = refl

second_alone : merged [] second_pairs ≡ second_pairs
unfolding second_pairs
second_alone = refl

pub ledger-calls_before : (way : Way) → ledger_of (after (calls_before way) []) ≡ ledger (earlier way) (opened (number_before way + 1) second_pairs) None
unfolding calls_before
ledger-calls_before way =
    let last = open_calls (number_before way + 1) second_pairs in
    ap ledger_of
    (after-append (whole_calls ++ empty_calls way ++ recover_call way) last []
    ∙ ap (after last) (after-append (whole_calls ++ empty_calls way) (recover_call way) [] ∙ ap (after (recover_call way)) (after-append whole_calls (empty_calls way) [])))
    ∙ ledger-open_calls (earlier way) (number_before way + 1) second_pairs (Recover (Ok (number_before way)) ∷ filled_past way)
    (ledger-recover (number_before way) (earlier way) (filled_past way) (ledger-filled way))
    ∙ ap (λ (ps : List Pair). ledger (earlier way) (opened (number_before way + 1) ps) None) second_alone
