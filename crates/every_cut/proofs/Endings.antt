-- The end of a run: the commit that may be cut, a recover, and gets.
use Rattle.std.proofs.Common.{◌≡◌, ℕ, ◌+◌, Bool, true, false, cond, eqb, ◌⊎◌, List, [], ◌∷◌, ◌++◌, map, length, Option, Some, None, Result, Ok, Err, refl, sym, ap, ◌∙◌, subst, inl, inr, fold}
use Rattle.std.specs.List.{count_by}
use Rattle.std.specs.Option.{option_map}
use Rattle.std.proofs.lemmas.Bool.{both_ways, cond_both}
use Rattle.std.proofs.lemmas.List.{length-append}
use Rattle.std.proofs.lemmas.List.Sums.{sum_by-cons}
use Rattle.layout.specs.declared.meanings.Pair.{Pair}
use Rattle.layout.specs.PairLists.{merged}
use Rattle.store.specs.declared.entries.Entry.{Entry}
use Rattle.store.specs.declared.entries.Entry.TheVariants.{Recover, Commit, Abandon, Get}
use Rattle.store.specs.declared.refusals.Refusal.{Refusal}
use Rattle.store.specs.Refusals.{refusal_number}
use Rattle.store.specs.Calls.{get_answer}
use Rattle.store.specs.Ledger.{OpenChange, Ledger, ledger, laid, pairs_by, fed, ledger_of}
use Rattle.store.specs.Law.{unless_doubt}
use Rattle.store.proofs.Following.{laid_last}
use Rattle.runs.specs.Runs.{Call, recover, commit, abandon, get, call_in, past_with, abandoning}
use Rattle.runs.specs.Held.{has}
use Rattle.runs.specs.Whole.{Whole}
use Rattle.runs.specs.declared.requests.Request.TheVariants.{Recover as the_recover, Commit as the_commit}
use Rattle.every_cut.specs.Asked.{get_request}
use Rattle.every_cut.specs.Logs.{is_read, number_with}
use Rattle.every_cut.proofs.Laws.{EachSays, CallOf, EachCallOf}

never : {A : Type 0} → false ≡ true → A
never h = absurd (both_ways false refl h)

-- ---- calls by their kind

abbrev is_commit : Option Call → Bool
is_commit None = true
is_commit (Some (commit t)) = true
is_commit (Some _) = false

abbrev is_recover : Option Call → Bool
is_recover (Some recover) = true
is_recover _ = false

abbrev is_abandon : Option Call → Bool
is_abandon None = true
is_abandon (Some (abandon t)) = true
is_abandon (Some _) = false

abbrev is_get : Option Call → Bool
is_get (Some (get k)) = true
is_get _ = false

abbrev key_of : Option Call → ℕ
key_of (Some (get k)) = k
key_of _ = 0

abandon_asked : (t : ℕ) (o : Option Entry) → CallOf (abandoning t) o → is_abandon (option_map call_in o) ≡ true
abandon_asked t o c =
    ap is_abandon c.call
    ∙ cond_both (has t c.holds.tickets) (Some (abandon t)) None (λ (x : Option Call). is_abandon x ≡ true) (λ e. refl) (λ e. refl)

commit_asked : (t : ℕ) (o : Option Entry) → CallOf (the_commit t) o → is_commit (option_map call_in o) ≡ true
commit_asked t o c =
    ap is_commit c.call
    ∙ cond_both (has t c.holds.tickets) (Some (commit t)) None (λ (x : Option Call). is_commit x ≡ true) (λ e. refl) (λ e. refl)

-- ---- the commit, and what the recover after it can answer

module _ (standing : List (List Pair)) (first second : List Pair) (number ticket : ℕ) (many : length standing ≡ number) (stands : laid [] standing ≡ first) (over : merged first second ≡ second) where
  -- the pairs and the number after a recover
  abbrev pub One : ℕ → Ledger → Type 0
  One n l = ((n ≡ number) × (pairs_by l ≡ first)) ⊎ ((n ≡ number + 1) × (pairs_by l ≡ second))

  -- a recover from this ledger leaves one of the two
  abbrev LeavesOne : Ledger → Type 0
  LeavesOne l = (n : ℕ) (l' : Ledger) → Whole l l.doubt n l' → One n l'

  as_before : (change : Option OpenChange) → LeavesOne (ledger standing change None)
  as_before change n l' (e, f) = inl (e ∙ many, f ∙ stands)

  accepted : LeavesOne (ledger (standing ++ second ∷ []) None None)
  accepted n l' (e, f) =
      inr (e ∙ length-append standing (second ∷ []) ∙ ap (λ (k : ℕ). k + 1) many, f ∙ laid_last [] standing second ∙ ap (λ (ps : List Pair). merged ps second) stands ∙ over)

  in_doubt : LeavesOne (ledger standing None (Some second))
  in_doubt n l' (inl (e, f)) = inl (e ∙ many, f ∙ stands)
  in_doubt n l' (inr (e, f)) = inr (e ∙ ap (λ (k : ℕ). k + 1) many, f ∙ ap (λ (ps : List Pair). merged ps second) stands ∙ over)

  -- the second calibration is put
  abbrev put_ledger : Ledger
  put_ledger = ledger standing (Some (record { ticket = ticket; pairs = second })) None

  -- whatever the commit answers
  after_commit : (t : ℕ) (r : Result ℕ Refusal) → LeavesOne (fed put_ledger (Commit t r))
  after_commit t (Ok n) = accepted
  after_commit t (Err why) =
      cond_both (eqb (refusal_number why) 11) (ledger standing None (Some second)) (cond (eqb (refusal_number why) 10) (ledger standing None None) put_ledger) LeavesOne
      (λ e. in_doubt)
      (λ e. cond_both (eqb (refusal_number why) 10) (ledger standing None None) put_ledger LeavesOne (λ f. as_before None) (λ f. as_before put_ledger.opened))

  -- and whether it was made or not
  leaves_one : (past : List Entry) (o : Option Entry) → ledger_of past ≡ put_ledger → is_commit (option_map call_in o) ≡ true → LeavesOne (ledger_of (past_with o past))
  leaves_one past None e h = subst LeavesOne (sym e) (as_before put_ledger.opened)
  leaves_one past (Some (Commit t r)) e h = subst LeavesOne (sym (ap (λ (l : Ledger). fed l (Commit t r)) e)) (after_commit t r)
  leaves_one past (Some _) e h = never h

-- ---- the gets, and the abandons of the tickets that are left

-- what a get answers where nothing is in doubt
abbrev pub answered : List Pair → Pair → Option Entry
answered ps q = Some (Get q.key (get_answer ps q.key))

-- these are the gets of a log, and it has no recover
record GetsOnly (gets log : List (Option Entry)) : Type 0 where
  counts : (xs : List Pair) → count_by (is_read xs) log ≡ count_by (is_read xs) gets
  last : (n : Option ℕ) → fold number_with n log ≡ n

abandons : (ts : List ℕ) (os : List (Option Entry)) → EachCallOf (map abandoning ts) os → GetsOnly [] os
abandons [] [] c = record { counts = λ xs. refl; last = λ n. refl }
abandons [] (o ∷ os) c = absurd c
abandons (t ∷ ts) [] c = absurd c
abandons (t ∷ ts) (o ∷ os) c = one o (abandon_asked t o c.0) (abandons ts os c.1)
  where
    one : (o : Option Entry) → is_abandon (option_map call_in o) ≡ true → GetsOnly [] os → GetsOnly [] (o ∷ os)
    one None h r = record { counts = r.counts; last = r.last }
    one (Some (Abandon t r')) h r = record { counts = r.counts; last = r.last }
    one (Some _) h r = never h

module _ (ps : List Pair) (ts : List ℕ) where
  gets : (qs : List Pair) (os : List (Option Entry)) (past : List Entry) → EachCallOf (map get_request qs ++ map abandoning ts) os → EachSays past os → (ledger_of past).doubt ≡ None →
      pairs_by (ledger_of past) ≡ ps → GetsOnly (map (answered ps) qs) os
  gets [] os past c s d e = abandons ts os c
  gets (q ∷ qs) [] past c s d e = absurd c
  gets (q ∷ qs) (Some (Get k r) ∷ os) past c s d e =
      let key : k ≡ q.key = ap key_of c.0.call in
      let answer : r ≡ get_answer ps q.key = s.0 ∙ λ i. unless_doubt (d i) (get_answer (e i) (key i)) in
      let here : Some (Get k r) ≡ answered ps q = λ i. Some (Get (key i) (answer i)) in
      let rest = gets qs os (Get k r ∷ past) c.1 s.1 d e in
      record {
        counts = λ xs.
            let f : Option Entry → ℕ = λ o. cond (is_read xs o) 1 0 in
            sum_by-cons f (Some (Get k r)) os ∙ (λ i. f (here i) + rest.counts xs i) ∙ sym (sum_by-cons f (answered ps q) (map (answered ps) qs));
        last = rest.last;
      }
  gets (q ∷ qs) (None ∷ os) past c s d e = never (ap is_get c.0.call)
  gets (q ∷ qs) (Some _ ∷ os) past c s d e = never (ap is_get c.0.call)

-- ---- all of it

-- a log of which these are the gets, and this is the number that its last recover answered
pub record Ends (gets : List (Option Entry)) (number : ℕ) (log : List (Option Entry)) : Type 0 where
  pub counts : (xs : List Pair) → count_by (is_read xs) log ≡ count_by (is_read xs) gets
  pub last : (before : Option ℕ) → fold number_with before log ≡ Some number

says_next : (past : List Entry) (o : Option Entry) (os : List (Option Entry)) → EachSays past (o ∷ os) → EachSays (past_with o past) os
says_next past None os s = s
says_next past (Some e) os s = s.1

-- the commit and the recover are no gets
ends : (o : Option Entry) (n : ℕ) (os gets : List (Option Entry)) → is_commit (option_map call_in o) ≡ true → GetsOnly gets os → Ends gets n (o ∷ Some (Recover (Ok n)) ∷ os)
ends None n os gets h g = record { counts = g.counts; last = λ before. g.last (Some n) }
ends (Some (Commit t r)) n os gets h g = record { counts = g.counts; last = λ before. g.last (Some n) }
ends (Some _) n os gets h g = never h

module _ (standing : List (List Pair)) (first second : List Pair) (number ticket : ℕ) (many : length standing ≡ number) (stands : laid [] standing ≡ first) (over : merged first second ≡ second)
    (qs : List Pair) (ts : List ℕ) where
  -- either of the two, as the recover left it
  one_reads : (past : List Entry) (o : Option Entry) (n : ℕ) (os : List (Option Entry)) → is_commit (option_map call_in o) ≡ true →
      EachCallOf (map get_request qs ++ map abandoning ts) os → EachSays (Recover (Ok n) ∷ past) os → One standing first second number ticket many stands over n (ledger_of (Recover (Ok n) ∷ past)) →
      Ends (map (answered first) qs) number (o ∷ Some (Recover (Ok n)) ∷ os) ⊎ Ends (map (answered second) qs) (number + 1) (o ∷ Some (Recover (Ok n)) ∷ os)
  one_reads past o n os h c s (inl (e, f)) =
      inl (subst (λ (k : ℕ). Ends (map (answered first) qs) k (o ∷ Some (Recover (Ok n)) ∷ os)) e (ends o n os (map (answered first) qs) h (gets first ts qs os (Recover (Ok n) ∷ past) c s refl f)))
  one_reads past o n os h c s (inr (e, f)) =
      inr (subst (λ (k : ℕ). Ends (map (answered second) qs) k (o ∷ Some (Recover (Ok n)) ∷ os)) e (ends o n os (map (answered second) qs) h (gets second ts qs os (Recover (Ok n) ∷ past) c s refl f)))

  -- whatever becomes of the commit, what is read is the first calibration or the second
  pub ends_with_one : (past : List Entry) (log : List (Option Entry)) → ledger_of past ≡ ledger standing (Some (record { ticket = ticket; pairs = second })) None →
      EachCallOf (the_commit ticket ∷ the_recover ∷ map get_request qs ++ map abandoning ts) log → EachSays past log →
      Ends (map (answered first) qs) number log ⊎ Ends (map (answered second) qs) (number + 1) log
  ends_with_one past [] e c s = absurd c
  ends_with_one past (o ∷ []) e c s = absurd c.1
  ends_with_one past (o ∷ None ∷ os) e c s = never (ap is_recover c.1.0.call)
  ends_with_one past (o ∷ Some (Recover (Err why)) ∷ os) e c s = absurd (says_next past o (Some (Recover (Err why)) ∷ os) s).0
  ends_with_one past (o ∷ Some (Recover (Ok n)) ∷ os) e c s =
      let asked = commit_asked ticket o c.0 in
      let t = says_next past o (Some (Recover (Ok n)) ∷ os) s in
      one_reads (past_with o past) o n os asked c.1.1 t.1
      (leaves_one standing first second number ticket many stands over past o e asked n (ledger_of (Recover (Ok n) ∷ past_with o past)) t.0)
  ends_with_one past (o ∷ Some _ ∷ os) e c s = never (ap is_recover c.1.0.call)
