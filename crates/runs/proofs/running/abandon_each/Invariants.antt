use Rattle.std.proofs.Common.{◌≡◌, ℕ, ◌+◌, ◌≤◌, List, ◌++◌, map, vec_items, vec_len, vec_capacity, deque_len}
use Rattle.runs.specs.States.{store_state}
use Rattle.runs.specs.Hands.{held_by}
use Rattle.runs.specs.Runs.{Made, abandoning}
use Rattle.runs.proofs.running.abandon_each.Given as goal

-- the first tickets are abandoned, the others are still held
abbrev pub invariant-loop-ticket : goal.invariant-loop-ticket
invariant-loop-ticket g l =
    (gone : List ℕ)
    × Made g.F.Flash (store_state g.F.Flash l.initial.store) (held_by l.initial.hand) (map abandoning gone) (vec_items l.initial.log) (vec_items l.log)
    (store_state g.F.Flash l.store) (held_by l.hand)
    × ((held_by l.initial.hand).tickets ≡ gone ++ (held_by l.hand).tickets)
    × ((held_by l.hand).steps ≡ (held_by l.initial.hand).steps)
    × (vec_len l.log + deque_len l.hand.tickets ≤ vec_capacity l.log)

abbrev pub decreases-loop-ticket : goal.decreases-loop-ticket
decreases-loop-ticket g l = deque_len l.hand.tickets
