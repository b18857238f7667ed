-- What a run holds between its calls.
use Rattle.std.specs.Prelude.{◌≡◌, ℕ, Bool, true, false, cond, ◌||◌, List, [], ◌∷◌, map, Some, None, Option, ◌==◌, slice_index_or, slice_set}
use Rattle.std.specs.Borrow.{Bor}
use Rattle.store.specs.declared.steps.Step.{Step}
use Rattle.store.specs.declared.steps.StepNumbers.{StepNumbers}
use Rattle.store.specs.declared.tickets.Ticket.{Ticket}

-- the numbers of the tickets held, in the order in which they were given; and the steps given, in their order, none in the place
-- of one that was used
pub record Held : Type 0 where
  pub tickets : List ℕ
  pub steps : List (Option StepNumbers)

abbrev pub held : List ℕ → List (Option StepNumbers) → Held
held tickets steps = record { tickets = tickets; steps = steps }

abbrev pub nothing_held : Held
nothing_held = held [] []

-- the numbers of tickets and of steps themselves, for contracts of private functions alone
abbrev pub ticket_number : Ticket → ℕ
ticket_number t = t.number

abbrev pub ticket_numbers : List Ticket → List ℕ
ticket_numbers ts = map ticket_number ts

abbrev pub numbers_in : Option Step → Option StepNumbers
numbers_in None = None
numbers_in (Some step) = Some step.numbers

abbrev pub step_numbers : List (Option Step) → List (Option StepNumbers)
step_numbers ss = map numbers_in ss

-- ---- tickets by their numbers

abbrev pub has : ℕ → List ℕ → Bool
has j [] = false
has j (x ∷ xs) = x == j || has j xs

-- the first of this number is taken out
abbrev pub without : ℕ → List ℕ → List ℕ
without j [] = []
without j (x ∷ xs) = cond (x == j) xs (x ∷ without j xs)

-- what looking for a ticket and taking one out answer, for contracts of private functions alone
abbrev pub Seen : List ℕ → ℕ → Option (Bor Ticket) → Type 0
Seen hs j None = has j hs ≡ false
Seen hs j (Some t) = (has j hs ≡ true) × (t.now.number ≡ j)

abbrev pub Taken : List ℕ → ℕ → Option Ticket → List ℕ → Type 0
Taken hs j None ks = (has j hs ≡ false) × (ks ≡ hs)
Taken hs j (Some t) ks = (has j hs ≡ true) × (t.number ≡ j) × (ks ≡ without j hs)

-- ---- steps by their places, for contracts of private functions alone

abbrev pub StepTaken : List (Option StepNumbers) → ℕ → Option Step → List (Option StepNumbers) → Type 0
StepTaken ss i None ks = (slice_index_or ss i None ≡ None) × (ks ≡ ss)
StepTaken ss i (Some step) ks = (slice_index_or ss i None ≡ Some step.numbers) × (ks ≡ slice_set ss i None)
