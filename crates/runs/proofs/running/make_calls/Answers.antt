use Rattle.std.proofs.Common.{◌≡◌, List, take, vec_items, deque_items, subst}
use Rattle.runs.specs.States.{store_state}
use Rattle.runs.specs.declared.requests.Request.{Request}
use Rattle.runs.specs.Held.{Held, held, nothing_held, ticket_numbers, step_numbers}
use Rattle.runs.specs.Hands.{held_by}
use Rattle.runs.specs.Runs.{Made}
use Rattle.runs.proofs.Links.{run_made, take_least}
use Rattle.runs.proofs.running.make_calls.Goals as goal

pub returns : goal.returns
returns g c =
    let m = store_state g.F.Flash c.args.store.now in
    let n = store_state g.F.Flash c.take_up.new.store in
    let m' = store_state g.F.Flash c.abandon_each.new.store in
    let qs = c.args.requests.now in
    let room = c.args.room in
    let i = held_by c.take_up.new.hand in
    let none : held (ticket_numbers (deque_items room.hand.tickets)) (step_numbers (vec_items room.hand.steps)) ≡ nothing_held =
    λ k. held (ticket_numbers (room.no_tickets k)) (step_numbers (room.no_steps k)) in
    let made : Made g.F.Flash m nothing_held (take c.min-count.result qs) (vec_items room.log) (vec_items c.take_up.new.log) n i =
    subst (λ (h : Held). Made g.F.Flash m h (take c.min-count.result qs) (vec_items room.log) (vec_items c.take_up.new.log) n i) none c.take_up.ensures.made in
    record {
      run = run_made g.F.Flash m n m' (take room.most qs) i (vec_items room.log) (vec_items c.take_up.new.log) (vec_items c.abandon_each.new.log) room.no_log
          (subst (λ (x : List Request). Made g.F.Flash m nothing_held x (vec_items room.log) (vec_items c.take_up.new.log) n i) (take_least qs room.most c.min-count.result c.min-count.ensures) made)
          c.abandon_each.ensures.made;
    }
