-- What a run is asked, and what it is expected to answer up to the commit that may be cut.
use Rattle.std.specs.Prelude.{ℕ, zero, suc, ◌+◌, List, [], ◌∷◌, ◌++◌, map, pos, negsuc, Option, Some, Ok}
use Rattle.layout.specs.declared.meanings.Pair.{Pair}
use Rattle.layout.specs.Catalogue.{pair_of}
use Rattle.figures.specs.Figures.{example_pairs}
use Rattle.store.specs.declared.entries.Entry.{Entry}
use Rattle.store.specs.declared.entries.Entry.TheVariants.{Recover as recovered, Begin as begun, Put as did_put, Commit as committed}
use Rattle.runs.specs.declared.requests.Request.{Request}
use Rattle.runs.specs.declared.requests.Request.TheVariants.{Recover, Begin, Put, Commit, Get}
use Rattle.every_cut.specs.declared.asking.ExpectedCall.{ExpectedCall}
use Rattle.every_cut.specs.declared.ways.Way.{Way}
use Rattle.every_cut.specs.Cases.{empty_of}

-- the second calibration: the keys of the first, each with another value
unfoldable pub second_pairs : List Pair
second_pairs =
    pair_of 1 (pos 7911) ∷ pair_of 2 (negsuc 933) ∷ pair_of 3 (negsuc 14305)
    ∷ pair_of 4 (pos 31567) ∷ pair_of 5 (pos 25671) ∷ pair_of 6 (pos 18974)
    ∷ pair_of 7 (pos 5498) ∷ pair_of 8 (pos 46) ∷ pair_of 9 (negsuc 32766)
    ∷ pair_of 10 (negsuc 11074) ∷ pair_of 11 (pos 2432) ∷ []

-- ---- calls, each with the answer that is expected

abbrev pub expected_call : Request → Entry → ExpectedCall
expected_call q e = record { request = q; entry = e }

-- puts of pairs into a change that has this many
abbrev pub put_calls : ℕ → ℕ → List Pair → List ExpectedCall
put_calls ticket count [] = []
put_calls ticket count (p ∷ ps) =
    expected_call (Put ticket p.key p.value) (did_put ticket p.key p.value (Ok (count + 1)))
    ∷ put_calls ticket (count + 1) ps

-- a change with these pairs
abbrev pub open_calls : ℕ → List Pair → List ExpectedCall
open_calls ticket ps = expected_call Begin (begun (Ok ticket)) ∷ put_calls ticket 0 ps

-- and its commit, which answers the number of its ticket, as long as every commit is accepted
abbrev pub commit_calls : ℕ → List Pair → List ExpectedCall
commit_calls ticket ps =
    open_calls ticket ps ++ expected_call (Commit ticket) (committed ticket (Ok ticket)) ∷ []

-- as many commits of these pairs, the first with this ticket
unfoldable pub repeated_commits : ℕ → ℕ → List Pair → List ExpectedCall
repeated_commits zero ticket ps = []
repeated_commits (suc n) ticket ps = repeated_commits n ticket ps ++ commit_calls (ticket + n) ps

-- how many changes stand when the second calibration is put
abbrev pub number_before : Way → ℕ
number_before way = 4 + empty_of way

-- the first calibration four times, commits of no pairs, a recover, and the second calibration up
-- to its commit
unfoldable pub calls_before : Way → List ExpectedCall
calls_before way =
    repeated_commits 4 1 example_pairs ++ repeated_commits (empty_of way) 5 []
    ++ expected_call Recover (recovered (Ok (number_before way))) ∷ []
    ++ open_calls (number_before way + 1) second_pairs

-- ---- the calls that are asked for, and how the log is expected to begin

abbrev pub request_of : ExpectedCall → Request
request_of call = call.request

abbrev pub outcome_of : ExpectedCall → Option Entry
outcome_of call = Some call.entry

abbrev pub get_request : Pair → Request
get_request p = Get p.key

-- the commit that may be cut, another recover, and a get of every coefficient
unfoldable pub last_requests : ℕ → List Request
last_requests ticket = Commit ticket ∷ Recover ∷ map get_request example_pairs

abbrev pub requests : Way → List Request
requests way = map request_of (calls_before way) ++ last_requests (number_before way + 1)

abbrev pub expected_log : Way → List (Option Entry)
expected_log way = map outcome_of (calls_before way)
