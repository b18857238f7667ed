-- Runs, link by link.
use Rattle.std.proofs.Common.{◌≡◌, ℕ, ◌<◌, ◌≤◌, min, true, eqb, ◌⊎◌, List, [], ◌∷◌, ◌++◌, map, length, take, Some, None, Option, Result, sym, refl, ap, ◌∙◌, subst, inl, inr, arith}
use mathlib.Core.List.{map-append}
use Rattle.std.proofs.lemmas.Bool.{eq-eqb, or_left, cond-true, cases_lt}
use Rattle.std.proofs.lemmas.List.{append_assoc, take_all}
use Rattle.store.specs.declared.entries.Entry.{Entry}
use Rattle.store.specs.declared.entries.Entry.TheVariants.{Abandon as abandoned}
use Rattle.store.specs.declared.refusals.Refusal.{Refusal}
use Rattle.store.specs.declared.steps.StepNumbers.{StepNumbers}
use Rattle.flash.specs.declared.interface.Flash.{Ghosts}
use Rattle.runs.specs.States.{StoreState, moment_of, Effect}
use Rattle.store.specs.Law.{Agrees}
use Rattle.store.proofs.Law.{follows_ledger}
use Rattle.runs.specs.Held.{Held, held, nothing_held, has, without}
use Rattle.runs.specs.declared.requests.Request.{Request}
use Rattle.runs.specs.declared.requests.Request.TheVariants.{Abandon}
use Rattle.runs.proofs.Given.{AllGiven, given_after, pressure_given}
use Rattle.runs.specs.Runs.{abandon, Turn, Link, request_in, outcome_in, Linked, Follows, FollowsThroughout, past_with, past_after, Made, RunMade, abandoning}

-- as many as there are, or fewer
pub take_least : {A : Type 0} (xs : List A) (n k : ℕ) → k ≡ min (length xs) n → take k xs ≡ take n xs
take_least xs n k e = go (cases_lt n (length xs))
  where
    go : (n < length xs) ⊎ (length xs ≤ n) → take k xs ≡ take n xs
    go (inl h) = ap (λ (i : ℕ). take i xs) (omega (arith, e, h))
    go (inr h) = take_all k xs (omega (arith, e, h)) ∙ sym (take_all n xs h)

module _ {X Y : Type 0} (g : Ghosts X Y) where
  -- one link more at the end
  linked_more : (m : StoreState X) (h : Held) (ks : List (Link X)) (n : StoreState X) (i : Held) (k : Link X) → Linked g m h ks n i → Turn g n i k.request k.outcome k.after k.holds →
      Linked g m h (ks ++ k ∷ []) k.after k.holds
  linked_more m h [] n i k (e, f) t =
      (subst (λ (x : StoreState X). Turn g x h k.request k.outcome k.after k.holds) e (subst (λ (x : Held). Turn g n x k.request k.outcome k.after k.holds) f t), (refl, refl))
  linked_more m h (x ∷ ks) n i k (e, f) t = (e, linked_more x.after x.holds ks n i k f t)

  -- one run after another
  linked_then : (m : StoreState X) (h : Held) (ks : List (Link X)) (n : StoreState X) (i : Held) (js : List (Link X)) (m' : StoreState X) (h' : Held) → Linked g m h ks n i → Linked g n i js m' h' →
      Linked g m h (ks ++ js) m' h'
  linked_then m h [] n i js m' h' (e, f) l = subst (λ (x : StoreState X). Linked g x h js m' h') e (subst (λ (x : Held). Linked g n x js m' h') f l)
  linked_then m h (x ∷ ks) n i js m' h' (e, f) l = (e, linked_then x.after x.holds ks n i js m' h' f l)

  pub made_more : {m n : StoreState X} {h i : Held} {before after : List (Option Entry)} {requests : List Request} (q : Request) (o : Option Entry) (m' : StoreState X) (h' : Held)
      (requests' : List Request) (after' : List (Option Entry)) → Made g m h requests before after n i → Turn g n i q o m' h' → requests' ≡ requests ++ q ∷ [] → after' ≡ after ++ o ∷ [] →
      Made g m h requests' before after' m' h'
  made_more {m} {n} {h} {i} {before} {after} {requests} q o m' h' requests' after' d t qs os =
      let k : Link X = record { request = q; outcome = o; after = m'; holds = h' } in
      record {
        links = d.links ++ k ∷ [];
        asked = map-append request_in d.links (k ∷ []) ∙ ap (λ (x : List Request). x ++ q ∷ []) d.asked ∙ sym qs;
        logged = os ∙ ap (λ (x : List (Option Entry)). x ++ o ∷ []) d.logged ∙ append_assoc before (map outcome_in d.links) (o ∷ [])
            ∙ ap (λ (x : List (Option Entry)). before ++ x) (sym (map-append outcome_in d.links (k ∷ [])));
        linked = linked_more m h d.links n i k d.linked t;
      }

  -- one request, after every past with which the store agrees
  follows_one : (first : ℕ) (past : List Entry) (m : StoreState X) (o : Option Entry) (m' : StoreState X) → Agrees first past (moment_of g m) → Effect g m o m' →
      Follows first past (moment_of g m) o (moment_of g m') × Agrees first (past_with o past) (moment_of g m')
  follows_one first past m None m' a e = (ap (moment_of g) e, subst (λ (x : StoreState X). Agrees first past (moment_of g x)) (sym e) a)
  follows_one first past m (Some e) m' a d = let f = follows_ledger (moment_of g m) e (moment_of g m') d.0 first past a in (f, f.agrees)

  throughout : (first : ℕ) (past : List Entry) (m : StoreState X) (h : Held) (ks : List (Link X)) (m' : StoreState X) (h' : Held) → Linked g m h ks m' h' → Agrees first past (moment_of g m) →
      AllGiven past h.steps → FollowsThroughout g first past m ks
  throughout first past m h [] m' h' l a b = a
  throughout first past m h (k ∷ ks) m' h' (t, l) a b =
      let f = follows_one first past m k.outcome k.after a t.1 in
      let more : AllGiven (past_with k.outcome past) k.holds.steps =
      subst (λ (x : Held). AllGiven (past_with k.outcome past) x.steps) (sym t.2) (given_after past h k.request k.outcome b) in
      (a, f.0, pressure_given past h k.request k.outcome b t.0, throughout first (past_with k.outcome past) k.after k.holds ks m' h' l f.1 more)

  agrees_at_end : (first : ℕ) (past : List Entry) (m : StoreState X) (h : Held) (ks : List (Link X)) (m' : StoreState X) (h' : Held) → Linked g m h ks m' h' → Agrees first past (moment_of g m) →
      Agrees first (past_after (map outcome_in ks) past) (moment_of g m')
  agrees_at_end first past m h [] m' h' (e, f) a = subst (λ (x : StoreState X). Agrees first past (moment_of g x)) (sym e) a
  agrees_at_end first past m h (k ∷ ks) m' h' (t, l) a =
      agrees_at_end first (past_with k.outcome past) k.after k.holds ks m' h' l (follows_one first past m k.outcome k.after a t.1).1

  -- the requests and then the abandons
  pub run_made : (m n m' : StoreState X) (requests : List Request) (i : Held) (log mid end : List (Option Entry)) → log ≡ [] → Made g m nothing_held requests log mid n i →
      Made g n i (map abandoning i.tickets) mid end m' (held [] i.steps) → RunMade g m requests end m'
  run_made m n m' requests i log mid end e d c =
      let last = held [] i.steps in
      let linked : Linked g m nothing_held (d.links ++ c.links) m' last = linked_then m nothing_held d.links n i c.links m' last d.linked c.linked in
      let logged : end ≡ map outcome_in (d.links ++ c.links) =
      c.logged ∙ ap (λ (x : List (Option Entry)). x ++ map outcome_in c.links) (d.logged ∙ ap (λ (x : List (Option Entry)). x ++ map outcome_in d.links) e)
      ∙ sym (map-append outcome_in d.links c.links) in
      record {
        calls = d.links;
        asked = d.asked;
        between = n;
        left = i;
        made = d.linked;
        closing = c.links;
        closed = c.asked;
        abandons = c.linked;
        logged = logged;
        follows = λ first past a. throughout first past m nothing_held (d.links ++ c.links) m' last linked a tt;
        ends = λ first past a.
            subst (λ (x : List (Option Entry)). Agrees first (past_after x past) (moment_of g m')) (sym logged) (agrees_at_end first past m nothing_held (d.links ++ c.links) m' last linked a);
      }

  -- the first ticket held is abandoned
  pub abandon_turn : (m m' : StoreState X) (ts us : List ℕ) (ss : List (Option StepNumbers)) (j : ℕ) (r : Result (Unit {0}) Refusal) → ts ≡ j ∷ us → Effect g m (Some (abandoned j r)) m' →
      Turn g m (held ts ss) (Abandon j) (Some (abandoned j r)) m' (held us ss)
  abandon_turn m m' ts us ss j r e d =
      let here : eqb j j ≡ true = eq-eqb j j refl in
      let has-it : has j ts ≡ true = ap (has j) e ∙ or_left (eqb j j) (has j us) here in
      let rest : without j ts ≡ us = ap (without j) e ∙ cond-true (eqb j j) us (j ∷ without j us) here in
      (sym (cond-true (has j ts) (Some (abandon j)) None has-it), d, ap (λ (x : List ℕ). held x ss) (sym rest))
