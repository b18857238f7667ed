-- What the law of a whole run says of its log, as far as the rows go by it.
use Rattle.std.proofs.Common.{◌≡◌, ℕ, List, [], ◌∷◌, ◌++◌, map, Option, Some, None, Ok, Err, sym, ◌∙◌, subst}
use Rattle.std.specs.Option.{option_map}
use Rattle.std.proofs.lemmas.List.{map-append}
use Rattle.flash.specs.declared.interface.Flash.{Ghosts}
use Rattle.store.specs.declared.entries.Entry.{Entry}
use Rattle.store.specs.declared.entries.Entry.TheVariants.{Recover, Get}
use Rattle.store.specs.Moments.{Moment}
use Rattle.store.specs.Calls.{get_answer}
use Rattle.store.specs.Ledger.{pairs_by, ledger_of}
use Rattle.store.specs.Law.{unless_doubt}
use Rattle.runs.specs.Held.{Held, held, nothing_held}
use Rattle.runs.specs.States.{StoreState, moment_of}
use Rattle.runs.specs.Runs.{call_in, call_for, Link, request_in, outcome_in, Linked, past_with, abandoning}
use Rattle.runs.specs.Whole.{RightAnswer, Whole, WholeOrNotAtAll, OnCall, EachCall, WholeRun}
use Rattle.runs.specs.declared.requests.Request.{Request}
use Rattle.every_cut.specs.declared.asking.ExpectedCall.{ExpectedCall}
use Rattle.every_cut.specs.Asked.{request_of, outcome_of}
use Rattle.every_cut.proofs.Past.{after}

-- a recover leaves a change in doubt wholly or not at all, and a get answers by the ledger's pairs
abbrev pub Says : List Entry → Entry → Type 0
Says past (Recover (Ok n)) = Whole (ledger_of past) (ledger_of past).doubt n (ledger_of (Recover (Ok n) ∷ past))
Says past (Recover (Err why)) = ⊥
Says past (Get key r) = r ≡ unless_doubt (ledger_of past).doubt (get_answer (pairs_by (ledger_of past)) key)
Says past _ = Unit {0}

abbrev pub EachSays : List Entry → List (Option Entry) → Type 0
EachSays past [] = Unit {0}
EachSays past (None ∷ os) = EachSays past os
EachSays past (Some e ∷ os) = Says past e × EachSays (e ∷ past) os

-- an outcome is that of the call that its request asks for
pub record CallOf (q : Request) (o : Option Entry) : Type 0 where
  pub holds : Held
  pub call : option_map call_in o ≡ call_for holds q

abbrev pub EachCallOf : List Request → List (Option Entry) → Type 0
EachCallOf [] [] = Unit {0}
EachCallOf [] (o ∷ os) = ⊥
EachCallOf (q ∷ qs) [] = ⊥
EachCallOf (q ∷ qs) (o ∷ os) = CallOf q o × EachCallOf qs os

-- ---- of any links

says : (first : ℕ) (past : List Entry) (m : Moment) (e : Entry) (m' : Moment) → RightAnswer first past m e m' → WholeOrNotAtAll past m e m' → Says past e
says first past m (Recover (Ok n)) m' a w = w.0
says first past m (Recover (Err why)) m' a w = w
says first past m (Get key r) m' a w = a
says first past m _ m' a w = tt

module _ {X Y : Type 0} (g : Ghosts X Y) (first : ℕ) where
  each_says : (past : List Entry) (s : StoreState X) (ks : List (Link X)) → EachCall g (RightAnswer first) past s ks → EachCall g WholeOrNotAtAll past s ks →
      EachSays past (map outcome_in ks)
  each_says past s [] a w = tt
  each_says past s (k ∷ ks) a w = step k.outcome a.0 w.0 (each_says (past_with k.outcome past) k.after ks a.1 w.1)
    where
      step : (o : Option Entry) → OnCall (RightAnswer first) past (moment_of g s) o (moment_of g k.after) → OnCall WholeOrNotAtAll past (moment_of g s) o (moment_of g k.after) →
          EachSays (past_with o past) (map outcome_in ks) → EachSays past (o ∷ map outcome_in ks)
      step None x y h = h
      step (Some e) x y h = (says first past (moment_of g s) e (moment_of g k.after) x y, h)

module _ {X Y : Type 0} (g : Ghosts X Y) where
  each_call_of : (s : StoreState X) (h : Held) (ks : List (Link X)) (s' : StoreState X) (h' : Held) → Linked g s h ks s' h' → EachCallOf (map request_in ks) (map outcome_in ks)
  each_call_of s h [] s' h' l = tt
  each_call_of s h (k ∷ ks) s' h' (t, l) = (record { holds = h; call = t.0 }, each_call_of k.after k.holds ks s' h' l)

each_call_of-append : (qs : List Request) (os : List (Option Entry)) (rs : List Request) (ps : List (Option Entry)) → EachCallOf qs os → EachCallOf rs ps →
    EachCallOf (qs ++ rs) (os ++ ps)
each_call_of-append [] [] rs ps x y = y
each_call_of-append [] (o ∷ os) rs ps x y = absurd x
each_call_of-append (q ∷ qs) [] rs ps x y = absurd x
each_call_of-append (q ∷ qs) (o ∷ os) rs ps x y = (x.0, each_call_of-append qs os rs ps x.1 y)

-- ---- of a whole run

module _ {X Y : Type 0} (g : Ghosts X Y) (s : StoreState X) (requests : List Request) (log : List (Option Entry)) (s' : StoreState X) (run : WholeRun g s requests log s') where
  pub log_says : EachSays [] log
  log_says =
      subst (EachSays []) (sym run.logged)
      (each_says g run.formatted.next [] run.formatted (run.calls ++ run.closing) run.law.answers run.law.whole)

  pub log_calls : EachCallOf (requests ++ map abandoning run.left.tickets) log
  log_calls =
      subst (EachCallOf (requests ++ map abandoning run.left.tickets)) (sym (run.logged ∙ map-append outcome_in run.calls run.closing))
      (each_call_of-append requests (map outcome_in run.calls) (map abandoning run.left.tickets) (map outcome_in run.closing)
      (subst (λ (qs : List Request). EachCallOf qs (map outcome_in run.calls)) run.asked (each_call_of g run.formatted nothing_held run.calls run.between run.left run.made))
      (subst (λ (qs : List Request). EachCallOf qs (map outcome_in run.closing)) run.closed (each_call_of g run.between run.left run.closing s' (held [] run.left.steps) run.abandons)))

-- ---- behind the calls that are expected

pub says-after : (xs : List ExpectedCall) (past : List Entry) (rest : List (Option Entry)) → EachSays past (map outcome_of xs ++ rest) → EachSays (after xs past) rest
says-after [] past rest h = h
says-after (x ∷ xs) past rest h = says-after xs (x.entry ∷ past) rest h.1

pub calls-after : (xs : List ExpectedCall) (qs : List Request) (rest : List (Option Entry)) → EachCallOf (map request_of xs ++ qs) (map outcome_of xs ++ rest) → EachCallOf qs rest
calls-after [] qs rest h = h
calls-after (x ∷ xs) qs rest h = calls-after xs qs rest h.1
