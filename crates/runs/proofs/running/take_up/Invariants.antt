use Rattle.std.proofs.Common.{◌≡◌, ◌+◌, ◌-◌, ◌≤◌, length, take, vec_items, vec_len, vec_capacity, deque_len}
use Rattle.runs.specs.States.{store_state}
use Rattle.runs.specs.Hands.{held_by, Spare}
use Rattle.runs.specs.Runs.{Made}
use Rattle.runs.proofs.running.take_up.Given as goal

-- what the requests so far added, and room for the others
abbrev pub invariant-loop-request : goal.invariant-loop-request
invariant-loop-request g l =
    Made g.F.Flash (store_state g.F.Flash l.initial.store) (held_by l.initial.hand) (take l.request-index l.requests) (vec_items l.initial.log) (vec_items l.log)
    (store_state g.F.Flash l.store) (held_by l.hand)
    × Spare (length l.requests - l.request-index) l.hand
    × (vec_len l.log ≡ vec_len l.initial.log + l.request-index)
    × (vec_capacity l.log ≡ vec_capacity l.initial.log)
    × (deque_len l.hand.tickets ≤ deque_len l.initial.hand.tickets + l.request-index)
