-- A run's tables, seen as what it holds, for contracts of private functions alone.
use Rattle.std.specs.Prelude.{ℕ, suc, ◌+◌, ◌≤◌, vec_items, vec_len, vec_capacity}
use Rattle.std.specs.VecDeque.{deque_items, deque_len, deque_capacity}
use Rattle.runs.specs.Held.{Held, held, ticket_numbers, step_numbers}
use Rattle.runs.specs.declared.hands.Hand.{Hand}

abbrev pub held_by : Hand → Held
held_by h = held (ticket_numbers (deque_items h.tickets)) (step_numbers (vec_items h.steps))

-- both tables have room for n more
pub record Spare (n : ℕ) (h : Hand) : Type 0 where
  pub tickets : deque_len h.tickets + n ≤ deque_capacity h.tickets
  pub steps : vec_len h.steps + n ≤ vec_capacity h.steps

-- what a call may add to a hand: one ticket and one step, so that room for one less is left
abbrev pub OneMore : Hand → Hand → Type 0
OneMore h h' = ((n : ℕ) → Spare (suc n) h → Spare n h') × (deque_len h'.tickets ≤ suc (deque_len h.tickets))
