-- What the store's calls make of a simulator, which is the flash of a session's store.
use Rattle.std.proofs.Common.{◌≡◌, ℕ, ◌+◌, ◌<◌, subst, Bool, true, false, cond, eqb, List, [], ◌∷◌, MatchBool, Result, ap, ◌∙◌}
use Rattle.flash.specs.Calls.{PoweredUp}
use Rattle.flash.specs.Seen.{seen}
use Rattle.layout.specs.declared.meanings.Pair.{Pair}
use Rattle.journal.specs.Commit.{commit_writes, formatting}
use Rattle.journal.specs.Reading.{Reading}
use Rattle.journal.specs.Writes.{Write, program, erase, write_refusal, Wrote, WroteThrough, completed}
use Rattle.simulator.specs.SimulatorStates.{state_of, flash_of, after_power_up}
use Rattle.simulator.specs.declared.simulators.Simulator.{Simulator}
use Rattle.simulator.specs.contracts.simulators.calls.SimulatorFlash.TheImpl.{ghosts}
use Rattle.store.specs.declared.refusals.Refusal.{Refusal}
use Rattle.store.specs.Calls.{If, last_number}
use Rattle.store.specs.Flashes.{RecoversFlash, FormatsFlash, CommitsFlash, CommitsOpenFlash}
use Rattle.store.specs.Memories.{Memory, cold, ready, changing}
use Rattle.store.specs.Stops.{is_roomy, FormatWrites}
use Rattle.session.specs.Simulated.{after_write, after_writes, after_recover, after_format, after_commit, FormatsFrom}

if_map : {A B C D : Type 0} (b : Bool) → (A → C) → (B → D) → If b A B → If b C D
if_map true f g x = f x
if_map false f g x = g x

if_cond : {X : Type 0} (b : Bool) (u v w : X) → If b (w ≡ u) (w ≡ v) → w ≡ cond b u v
if_cond true u v w x = x
if_cond false u v w x = x

wrote : (f f' : Simulator) (w : Write) → Wrote ghosts f w f' → state_of f' ≡ after_write (state_of f) w
wrote f f' (program b u v) x = x
wrote f f' (erase b) x = x

-- a chain of writes
pub wrote_through : (ws : List Write) (f f' : Simulator) → WroteThrough ghosts ws f f' → state_of f' ≡ after_writes (state_of f) ws
wrote_through [] f f' x = ap state_of x
wrote_through (w ∷ ws) f f' x = by_test (eqb (write_refusal (seen ghosts f) w) 0) (λ next y. wrote_through ws next f' y) x
  where
    by_test : (t : Bool) → ((next : Simulator) → WroteThrough ghosts ws next f' → state_of f' ≡ after_writes (state_of next) ws) →
        MatchBool t ((next : Simulator) × Wrote ghosts f w next × (seen ghosts next ≡ completed (seen ghosts f) w) × WroteThrough ghosts ws next f')
        (Wrote ghosts f w f' × (write_refusal (seen ghosts f) w < 24 → f' ≡ f)) →
        state_of f' ≡ cond t (after_writes (after_write (state_of f) w) ws) (after_write (state_of f) w)
    by_test true rest y = rest y.0 y.3 ∙ ap (λ s. after_writes s ws) (wrote f y.0 w y.1)
    by_test false rest y = wrote f f' w y.0

pub recovered : (f f' : Simulator) → RecoversFlash ghosts f f' → state_of f' ≡ after_recover (state_of f)
recovered f f' x = if_cond (is_roomy (seen ghosts f)) (after_power_up (state_of f)) (state_of f) (state_of f') (if_map (is_roomy (seen ghosts f)) (λ y. y.powered) (ap state_of) x)

pub formatted : (f f' : Simulator) (r : Result ℕ Refusal) → FormatsFlash ghosts f r f' → state_of f' ≡ after_format (state_of f)
formatted f f' r x =
    if_cond (is_roomy (seen ghosts f)) (after_writes (after_power_up (state_of f)) formatting) (state_of f) (state_of f')
    (if_map (is_roomy (seen ghosts f))
    (λ y. wrote_through formatting y.run.powered f' y.run.writes ∙ ap (λ s. after_writes s formatting) y.run.power_up.powered) (ap state_of) x)

pub formatted_from : (f f' : Simulator) (r : Result ℕ Refusal) → FormatsFlash ghosts f r f' → FormatsFrom (state_of f) r (state_of f')
formatted_from f f' r x =
    if_map (is_roomy (seen ghosts f))
    (λ y. record {
      power_up = subst (λ s. PoweredUp (flash_of (state_of f)) (flash_of s)) y.run.power_up.powered y.run.power_up.meaning;
      made = y.made;
      run = subst (λ s. FormatWrites (flash_of s) y.made (flash_of (state_of f'))) y.run.power_up.powered y.run.run;
      answer = y.answer;
    })
    (λ y. tt) x

committed_open : (f f' : Simulator) (r : Reading) (change : List Pair) → CommitsOpenFlash ghosts r change f f' →
    state_of f' ≡ cond (eqb r.number last_number) (state_of f) (after_writes (state_of f) (commit_writes f.width r change (r.number + 1)))
committed_open f f' r change x =
    let writes = commit_writes f.width r change (r.number + 1) in
    if_cond (eqb r.number last_number) (state_of f) (after_writes (state_of f) writes) (state_of f')
    (if_map (eqb r.number last_number) (ap state_of) (λ y. wrote_through writes f f' y.writes) x)

pub committed : (f f' : Simulator) (m : Memory) (shown : ℕ) → CommitsFlash ghosts m shown f f' → state_of f' ≡ after_commit (state_of f) m shown
committed f f' cold shown x = ap state_of x
committed f f' (ready r) shown x = ap state_of x
committed f f' (changing r ticket change) shown x =
    if_cond (eqb shown ticket)
    (cond (eqb r.number last_number) (state_of f) (after_writes (state_of f) (commit_writes f.width r change (r.number + 1)))) (state_of f) (state_of f')
    (if_map (eqb shown ticket) (committed_open f f' r change) (ap state_of) x)
