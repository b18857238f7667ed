-- Which calibration stands at the end of a run.
use Rattle.std.proofs.Common.{◌≡◌, ℕ, ◌+◌, ◌⊎◌, List, [], ◌++◌, map, Option, Some, None, refl, ap, ◌∙◌, subst, inl, inr, fold, zero-add}
use Rattle.std.specs.List.{count_by}
use Rattle.std.proofs.lemmas.List.{append_assoc}
use Rattle.std.proofs.lemmas.List.Sums.{sum_by-append, fold-append}
use Rattle.flash.specs.declared.interface.Flash.{Ghosts}
use Rattle.simulator.specs.declared.simulators.Simulator.{Simulator}
use Rattle.layout.specs.declared.meanings.Pair.{Pair}
use Rattle.layout.specs.PairLists.{merged}
use Rattle.figures.specs.Figures.{example_pairs}
use Rattle.store.specs.declared.entries.Entry.{Entry}
use Rattle.runs.specs.declared.requests.Request.{Request}
use Rattle.runs.specs.States.{StoreState}
use Rattle.runs.specs.Runs.{abandoning}
use Rattle.runs.specs.Whole.{WholeRun}
use Rattle.every_cut.specs.declared.ways.Way.{Way}
use Rattle.every_cut.specs.declared.rows.Row.{Row}
use Rattle.every_cut.specs.declared.ways.Case.{Case}
use Rattle.every_cut.specs.Rows.{stands_by, stands_of, OneStands, RunOf, ReadOff}
use Rattle.every_cut.specs.Asked.{request_of, second_pairs, number_before, calls_before, last_requests, requests, expected_log}
use Rattle.every_cut.specs.Logs.{is_read, number_with, last_number}
use Rattle.every_cut.proofs.Past.{after, earlier, pairs-earlier, length-earlier, ledger-calls_before}
use Rattle.every_cut.proofs.Entries.{numbered_calls_before, unread}
use Rattle.every_cut.proofs.Laws.{EachSays, EachCallOf, log_says, log_calls, says-after, calls-after}
use Rattle.every_cut.proofs.Endings.{answered, Ends, ends_with_one}

-- what is read off a log
pub record Read (first second number : ℕ) (log : List (Option Entry)) : Type 0 where
  pub firsts : count_by (is_read example_pairs) log ≡ first
  pub seconds : count_by (is_read second_pairs) log ≡ second
  pub last : last_number log ≡ Some number

over : merged example_pairs second_pairs ≡ second_pairs
unfolding second_pairs
over = refl

gets_first : List (Option Entry)
gets_first = map (answered example_pairs) example_pairs

gets_second : List (Option Entry)
gets_second = map (answered second_pairs) example_pairs

first_of_first : count_by (is_read example_pairs) gets_first ≡ 11
unfolding gets_first
first_of_first = refl

second_of_first : count_by (is_read second_pairs) gets_first ≡ 0
unfolding gets_first second_pairs
second_of_first = refl

first_of_second : count_by (is_read example_pairs) gets_second ≡ 0
unfolding gets_second second_pairs
first_of_second = refl

second_of_second : count_by (is_read second_pairs) gets_second ≡ 11
unfolding gets_second second_pairs
second_of_second = refl

-- ---- of a log that begins as expected

module _ (way : Way) (rest log : List (Option Entry)) (split : log ≡ expected_log way ++ rest) where
  count-log : (xs : List Pair) → count_by (is_read xs) log ≡ count_by (is_read xs) rest
  count-log xs =
      ap (count_by (is_read xs)) split ∙ sum_by-append _ (expected_log way) rest ∙ ap (λ (n : ℕ). n + count_by (is_read xs) rest) (unread xs (calls_before way) (numbered_calls_before way))
      ∙ zero-add (count_by (is_read xs) rest)

  number-log : {gets : List (Option Entry)} {number : ℕ} → Ends gets number rest → last_number log ≡ Some number
  number-log e = ap last_number split ∙ fold-append number_with None (expected_log way) rest ∙ e.last (fold number_with None (expected_log way))

  first_read : {number : ℕ} → Ends gets_first number rest → Read 11 0 number log
  first_read e = record {
    firsts = count-log example_pairs ∙ e.counts example_pairs ∙ first_of_first;
    seconds = count-log second_pairs ∙ e.counts second_pairs ∙ second_of_first;
    last = number-log e;
  }

  second_read : {number : ℕ} → Ends gets_second number rest → Read 0 11 number log
  second_read e = record {
    firsts = count-log example_pairs ∙ e.counts example_pairs ∙ first_of_second;
    seconds = count-log second_pairs ∙ e.counts second_pairs ∙ second_of_second;
    last = number-log e;
  }

-- ---- of a whole run

module _ {X Y : Type 0} (g : Ghosts X Y) (s : StoreState X) (way : Way) (rest log : List (Option Entry)) (s' : StoreState X) (run : WholeRun g s (requests way) log s') (split : log ≡ expected_log way ++ rest) where
  calls : EachCallOf (last_requests (number_before way + 1) ++ map abandoning run.left.tickets) rest
  calls =
      calls-after (calls_before way) (last_requests (number_before way + 1) ++ map abandoning run.left.tickets) rest
      (subst (λ (qs : List Request). EachCallOf qs (expected_log way ++ rest)) (append_assoc (map request_of (calls_before way)) (last_requests (number_before way + 1)) (map abandoning run.left.tickets))
      (subst (EachCallOf (requests way ++ map abandoning run.left.tickets)) split (log_calls g s (requests way) log s' run)))

  says : EachSays (after (calls_before way) []) rest
  says = says-after (calls_before way) [] rest (subst (EachSays []) split (log_says g s (requests way) log s' run))

  -- a commit that is cut stands wholly or not at all
  pub one_read : Read 11 0 (number_before way) log ⊎ Read 0 11 (number_before way + 1) log
  unfolding last_requests gets_first gets_second
  one_read =
      which
      (ends_with_one (earlier way) example_pairs second_pairs (number_before way) (number_before way + 1) (length-earlier way) (pairs-earlier way) over example_pairs run.left.tickets (after (calls_before way) []) rest
      (ledger-calls_before way) calls says)
    where
      which : Ends gets_first (number_before way) rest ⊎ Ends gets_second (number_before way + 1) rest → Read 11 0 (number_before way) log ⊎ Read 0 11 (number_before way + 1) log
      which (inl e) = inl (first_read way rest log split e)
      which (inr e) = inr (second_read way rest log split e)

-- so it is of every row
module _ {Y : Type 0} (g : Ghosts Simulator Y) (way : Way) (case : Case) (log : List (Option Entry)) (row : Row) (run : RunOf g way case log) (read : ReadOff log row) where
  stands : {first second n : ℕ} → Read first second n log → (stands_of row ≡ stands_by first second) × (row.number ≡ Some n)
  stands r = ((λ i. stands_by ((read.first ∙ r.firsts) i) ((read.second ∙ r.seconds) i)), read.number ∙ r.last)

  pub one_stands : OneStands (number_before way) row
  one_stands = which (one_read g run.store way run.rest log run.after run.run run.begins)
    where
      which : Read 11 0 (number_before way) log ⊎ Read 0 11 (number_before way + 1) log → OneStands (number_before way) row
      which (inl r) = inl (stands r)
      which (inr r) = inr (stands r)
