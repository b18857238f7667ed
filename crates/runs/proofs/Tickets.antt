-- Tickets in a queue, by their numbers.
use Rattle.std.proofs.Common.{◌≡◌, ℕ, zero, suc, ◌<◌, true, false, List, [], ◌∷◌, length, get_or, Some, None, Option, sym, refl, ap, ◌∙◌, arith}
use Rattle.std.specs.Borrow.{Bor}
use Rattle.std.specs.List.{AllWithin, HoldsAt, remove}
use Rattle.std.specs.Option.{MatchOption, OnSome}
use Rattle.std.proofs.lemmas.Bool.{eq-eqb, ne_eqb, or_left, or_right, or_from, cond-true, cond-false}
use Rattle.store.specs.declared.tickets.Ticket.{Ticket}
use Rattle.runs.specs.Held.{ticket_number, ticket_numbers, Seen, Taken, has, without}

abbrev pub Is : ℕ → Ticket → Type 0
Is j t = t.number ≡ j

abbrev pub IsNot : ℕ → Ticket → Type 0
IsNot j t = t.number ≡ j → ⊥

no_ticket : Ticket
no_ticket = record { number = 0 }

has_none : (j : ℕ) (ts : List Ticket) → AllWithin (IsNot j) ts 0 (length ts) → has j (ticket_numbers ts) ≡ false
has_none j [] none = refl
has_none j (t ∷ ts) none = or_from _ _ (ne_eqb _ _ (none 0 t (omega arith) (omega arith))) (has_none j ts (λ k d l h. none (suc k) d (omega arith) (omega arith)))

has_at : (j : ℕ) (ts : List Ticket) (i : ℕ) → i < length ts → HoldsAt (Is j) ts i → has j (ticket_numbers ts) ≡ true
has_at j [] i h e = absurd (omega arith)
has_at j (t ∷ ts) zero h e = or_left _ _ (eq-eqb _ _ (e t))
has_at j (t ∷ ts) (suc i) h e = or_right _ _ (has_at j ts i (omega arith) e)

without_at : (j : ℕ) (ts : List Ticket) (i : ℕ) → i < length ts → HoldsAt (Is j) ts i → AllWithin (IsNot j) ts 0 i → ticket_numbers (remove ts i) ≡ without j (ticket_numbers ts)
without_at j [] i h e before = absurd (omega arith)
without_at j (t ∷ ts) zero h e before = sym (cond-true _ _ _ (eq-eqb _ _ (e t)))
without_at j (t ∷ ts) (suc i) h e before =
    ap (λ (x : List ℕ). t.number ∷ x) (without_at j ts i (omega arith) e (λ k d l m. before (suc k) d (omega arith) (omega arith)))
    ∙ sym (cond-false _ _ _ (ne_eqb _ _ (before 0 t (omega arith) (omega arith))))

-- what `find` says of the tickets, said of their numbers
pub seen : (j : ℕ) (ts : List Ticket) (o : Option (Bor Ticket)) →
    MatchOption o (AllWithin (IsNot j) ts 0 (length ts))
    (λ t. Is j t.now × (i : ℕ) × (i < length ts) × HoldsAt (λ y. y ≡ t.now) ts i × AllWithin (IsNot j) ts 0 i) → Seen (ticket_numbers ts) j o
seen j ts None none = has_none j ts none
seen j ts (Some t) f = (has_at j ts f.1 f.2 (λ d. ap ticket_number (f.3 d) ∙ f.0), f.0)

-- what `position` says of the tickets
abbrev pub Found : List Ticket → ℕ → Option ℕ → Type 0
Found ts j o = MatchOption o (AllWithin (IsNot j) ts 0 (length ts)) (λ i. (i < length ts) × HoldsAt (Is j) ts i × AllWithin (IsNot j) ts 0 i)

pub not_taken : (j : ℕ) (ts : List Ticket) → Found ts j None → Taken (ticket_numbers ts) j None (ticket_numbers ts)
not_taken j ts none = (has_none j ts none, refl)

-- the one at the place found is taken out
pub taken : (j : ℕ) (ts us : List Ticket) (i : ℕ) (o : Option Ticket) → Found ts j (Some i) → ((d : Ticket) → o ≡ Some (get_or ts i d)) → OnSome o (us ≡ remove ts i) →
    Taken (ticket_numbers ts) j o (ticket_numbers us)
taken j ts us i None f e r = let z : ◌≡◌ {A = ℕ} 0 1 = (let q = e no_ticket in cc) in absurd (omega arith)
taken j ts us i (Some t) f e r =
    let q : t ≡ get_or ts i no_ticket = (let q = e no_ticket in cc) in
    (has_at j ts i f.0 f.1, ap ticket_number q ∙ f.1 no_ticket, ap ticket_numbers r ∙ without_at j ts i f.0 f.1 f.2)
