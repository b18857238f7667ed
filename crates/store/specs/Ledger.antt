-- The ledger: what must stand, by the calls with their answers alone. It knows nothing of the flash or of the store's memory.
use Rattle.std.specs.Prelude.{ℕ, suc, ◌+◌, Bool, true, false, cond, List, [], ◌∷◌, ◌++◌, length, Some, None, Ok, Err, Option, ◌==◌}
use Rattle.layout.specs.declared.meanings.Pair.{Pair}
use Rattle.layout.specs.Catalogue.{pair_of}
use Rattle.layout.specs.PairLists.{with_pair, merged}
use Rattle.store.specs.declared.entries.Entry.{Entry}
use Rattle.store.specs.declared.entries.Entry.TheVariants.{Recover, Begin, Put, Commit, Abandon, Get, Temperature, Pressure}
use Rattle.store.specs.Refusals.{refusal_number}

-- an open change: the number of its ticket, and its pairs
pub record OpenChange : Type 0 where
  pub ticket : ℕ
  pub pairs : List Pair

-- the changes that stand, the oldest first; the open change; and one whose commit was cut, so that it is in doubt
pub record Ledger : Type 0 where
  pub standing : List (List Pair)
  pub opened : Option OpenChange
  pub doubt : Option (List Pair)

abbrev pub ledger : List (List Pair) → Option OpenChange → Option (List Pair) → Ledger
ledger standing opened doubt = record { standing = standing; opened = opened; doubt = doubt }

-- after an accepted format there is nothing in it
abbrev pub empty_ledger : Ledger
empty_ledger = ledger [] None None

-- changes laid over pairs, the later over the earlier
abbrev pub laid : List Pair → List (List Pair) → List Pair
laid base [] = base
laid base (change ∷ changes) = laid (merged base change) changes

-- its pairs are those of the changes that stand, its number is how many they are
abbrev pub pairs_by : Ledger → List Pair
pairs_by l = laid [] l.standing

abbrev pub number_by : Ledger → ℕ
number_by l = length l.standing

-- ---- what the calls make of it

abbrev pub change_in : Option OpenChange → Option (List Pair)
change_in None = None
change_in (Some o) = Some o.pairs

abbrev pub one_more : Option (List Pair) → List (List Pair)
one_more None = []
one_more (Some change) = change ∷ []

abbrev pub with_put : Option OpenChange → Pair → Option OpenChange
with_put None p = None
with_put (Some o) p = Some (record { ticket = o.ticket; pairs = with_pair p o.pairs })

-- a commit that was accepted: the open change is the last that stands
abbrev pub stands : Ledger → Ledger
stands l = ledger (l.standing ++ one_more (change_in l.opened)) None l.doubt

-- the open change is dropped
abbrev pub drops : Ledger → Ledger
drops l = ledger l.standing None l.doubt

-- a commit that was cut: the open change is in doubt
abbrev pub doubts : Ledger → Ledger
doubts l = ledger l.standing None (change_in l.opened)

-- an accepted recover answered n: an open change is dropped, and one in doubt is the last that stands if n is the ledger's number
-- plus one, and dropped if not
abbrev pub resolves : Ledger → ℕ → Ledger
resolves l n = ledger (cond (n == number_by l + 1) (l.standing ++ one_more l.doubt) l.standing) None None

-- a commit refused with 11 puts the change in doubt, one with 10 drops it
abbrev pub commit_refused : Ledger → ℕ → Ledger
commit_refused l refusal = cond (refusal == 11) (doubts l) (cond (refusal == 10) (drops l) l)

-- one call more; nothing else changes the ledger
abbrev pub fed : Ledger → Entry → Ledger
fed l (Recover (Ok n)) = resolves l n
fed l (Recover (Err why)) = l
fed l (Begin (Ok ticket)) = ledger l.standing (Some (record { ticket = ticket; pairs = [] })) l.doubt
fed l (Begin (Err why)) = l
fed l (Put shown key value (Ok count)) = ledger l.standing (with_put l.opened (pair_of key value)) l.doubt
fed l (Put shown key value (Err why)) = l
fed l (Commit shown (Ok n)) = stands l
fed l (Commit shown (Err why)) = commit_refused l (refusal_number why)
fed l (Abandon shown (Ok x)) = drops l
fed l (Abandon shown (Err why)) = l
fed l (Get key r) = l
fed l (Temperature ut r) = l
fed l (Pressure step up r) = l

-- the ledger of a past: the calls since an accepted format with their answers, the newest first
abbrev pub ledger_of : List Entry → Ledger
ledger_of [] = empty_ledger
ledger_of (e ∷ past) = fed (ledger_of past) e

-- ---- what else a past tells

-- how many begins were accepted
abbrev pub begun_by : Entry → ℕ → ℕ
begun_by (Recover r) before = before
begun_by (Begin (Ok ticket)) before = suc before
begun_by (Begin (Err why)) before = before
begun_by (Put shown key value r) before = before
begun_by (Commit shown r) before = before
begun_by (Abandon shown r) before = before
begun_by (Get key r) before = before
begun_by (Temperature ut r) before = before
begun_by (Pressure step up r) before = before

abbrev pub begins : List Entry → ℕ
begins [] = 0
begins (e ∷ past) = begun_by e (begins past)

-- whether a commit was refused with 11 and no recover accepted since
abbrev pub cut_by : Entry → Bool → Bool
cut_by (Recover (Ok n)) before = false
cut_by (Recover (Err why)) before = before
cut_by (Begin r) before = before
cut_by (Put shown key value r) before = before
cut_by (Commit shown (Ok n)) before = before
cut_by (Commit shown (Err why)) before = cond (refusal_number why == 11) true before
cut_by (Abandon shown r) before = before
cut_by (Get key r) before = before
cut_by (Temperature ut r) before = before
cut_by (Pressure step up r) before = before

abbrev pub cut_since_recover : List Entry → Bool
cut_since_recover [] = false
cut_since_recover (e ∷ past) = cut_by e (cut_since_recover past)
