-- What the calls do to the flash of a store itself, with all that its kind holds besides what is seen of it: f is the flash before the call, f' after it.
-- A power-up is that of its kind, of a plan it takes one entry, and nothing else changes a plan.
-- The writes are those of its kind, one after the other.
use Rattle.std.specs.Prelude.{◌≡◌, ℕ, ◌+◌, List, Result, ◌==◌}
use Rattle.flash.specs.Calls.{PoweredUp}
use Rattle.flash.specs.Plans.{taking}
use Rattle.flash.specs.Seen.{seen}
use Rattle.flash.specs.declared.interface.Flash.{Ghosts}
use Rattle.layout.specs.declared.meanings.Pair.{Pair}
use Rattle.journal.specs.Reading.{Reading}
use Rattle.journal.specs.Writes.{WroteThrough}
use Rattle.journal.specs.Commit.{commit_writes, formatting}
use Rattle.store.specs.declared.phases.Event.{Event}
use Rattle.store.specs.declared.phases.Event.TheVariants.{Format, Recover, Begin, Put, Commit, Abandon, Look}
use Rattle.store.specs.declared.refusals.Refusal.{Refusal}
use Rattle.store.specs.Stops.{is_roomy, FormatWrites}
use Rattle.store.specs.Memories.{Memory, cold, ready, changing}
use Rattle.store.specs.Calls.{last_number, If, written}

-- one power-up
pub record OnePowerUp {X Y : Type 0} (g : Ghosts X Y) (f f' : X) : Type 0 where
  pub powered : g.powered f f'
  pub meaning : PoweredUp (seen g f) (seen g f')
  pub plan : g.plan f' ≡ taking (g.plan f)

-- recover: one power-up, where the flash is large enough
abbrev pub RecoversFlash : {X Y : Type 0} → Ghosts X Y → X → X → Type 0
RecoversFlash g f f' = If (is_roomy (seen g f)) (OnePowerUp g f f') (f' ≡ f)

-- format: one power-up, then its writes with the charge that this brought; they leave the plan
pub record FormatsItself {X Y : Type 0} (g : Ghosts X Y) (f : X) (r : Result (Unit {0}) Refusal) (f' : X) : Type 0 where
  pub powered : X
  pub power_up : OnePowerUp g f powered
  pub run : FormatWrites (seen g powered) r (seen g f')
  pub writes : WroteThrough g formatting powered f'
  pub plan : g.plan f' ≡ g.plan powered

pub record FormattedFlash {X Y : Type 0} (g : Ghosts X Y) (f : X) (r : Result ℕ Refusal) (f' : X) : Type 0 where
  pub made : Result (Unit {0}) Refusal
  pub run : FormatsItself g f made f'
  pub answer : r ≡ written 0 made

abbrev pub FormatsFlash : {X Y : Type 0} → Ghosts X Y → X → Result ℕ Refusal → X → Type 0
FormatsFlash g f r f' = If (is_roomy (seen g f)) (FormattedFlash g f r f') (f' ≡ f)

-- the writes of a commit of this change over what stands, with the next number; they leave the plan
pub record CommittedFlash {X Y : Type 0} (g : Ghosts X Y)
    (s : Reading) (change : List Pair) (f f' : X) : Type 0 where
  pub writes : WroteThrough g (commit_writes (g.width f) s change (s.number + 1)) f f'
  pub plan : g.plan f' ≡ g.plan f

-- no write where the number that stands is the last one: the flash is the very same
abbrev pub CommitsOpenFlash : {X Y : Type 0} → Ghosts X Y → Reading → List Pair → X → X → Type 0
CommitsOpenFlash g s change f f' =
    If (s.number == last_number) (f' ≡ f) (CommittedFlash g s change f f')

-- commit, by what the store knows and the ticket that was shown: no write either where no change is
-- open, or the ticket is not that of the open one
abbrev pub CommitsFlash : {X Y : Type 0} → Ghosts X Y → Memory → ℕ → X → X → Type 0
CommitsFlash g cold shown f f' = f' ≡ f
CommitsFlash g (ready s) shown f f' = f' ≡ f
CommitsFlash g (changing s ticket change) shown f f' =
    If (shown == ticket) (CommitsOpenFlash g s change f f') (f' ≡ f)

-- by what the store knows and the event that it judges; all others leave the flash just as it is.
-- As `Judged`, this is of the private match alone.
abbrev pub OnFlash : {X Y : Type 0} →
    Ghosts X Y → Memory → Event → X → Result ℕ Refusal → X → Type 0
OnFlash g m Format f r f' = FormatsFlash g f r f'
OnFlash g m Recover f r f' = RecoversFlash g f f'
OnFlash g m Begin f r f' = f' ≡ f
OnFlash g m (Put shown p) f r f' = f' ≡ f
OnFlash g m (Commit shown) f r f' = CommitsFlash g m shown f f'
OnFlash g m (Abandon shown) f r f' = f' ≡ f
OnFlash g m Look f r f' = f' ≡ f
