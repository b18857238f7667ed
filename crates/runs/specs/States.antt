-- A store at one moment with its flash itself, all that its kind holds included, and what one call
-- makes of the two.
use Rattle.std.specs.Prelude.{◌≡◌, ℕ, Some, None, Option}
use Rattle.flash.specs.Seen.{seen}
use Rattle.flash.specs.declared.interface.Flash.{Ghosts}
use Rattle.store.specs.declared.entries.Entry.{Entry}
use Rattle.store.specs.declared.entries.Entry.TheVariants.{Recover, Begin, Put, Commit, Abandon, Get, Temperature, Pressure}
use Rattle.store.specs.declared.stores.Store.{Store}
use Rattle.store.specs.Memories.{Memory, memory_of}
use Rattle.store.specs.Moments.{Moment}
use Rattle.store.specs.Calls.{Does}
use Rattle.store.specs.Flashes.{RecoversFlash, CommitsFlash}

-- the flash itself, what the store knows, and the number of the next ticket
pub record StoreState (X : Type 0) : Type 0 where
  pub flash : X
  pub memory : Memory
  pub next : ℕ

abbrev pub store_state : {X Y : Type 0} → Ghosts X Y → Store X → StoreState X
store_state g s = record {
  flash = s.flash;
  memory = memory_of s.phase s.standing s.change;
  next = s.next;
}

-- the same moment, with what is seen of its flash: there is no moment without the flash
abbrev pub moment_of : {X Y : Type 0} → Ghosts X Y → StoreState X → Moment
moment_of g s = record { flash = seen g s.flash; memory = s.memory; next = s.next }

-- What a call does to the flash itself: a recover is one power-up of the flash's kind, a commit
-- makes the writes of its change, each as the kind has it, and all other calls leave the very same
-- flash.
abbrev pub CallOnFlash : {X Y : Type 0} → Ghosts X Y → StoreState X → Entry → X → Type 0
CallOnFlash g s (Recover r) f' = RecoversFlash g s.flash f'
CallOnFlash g s (Begin r) f' = f' ≡ s.flash
CallOnFlash g s (Put t k v r) f' = f' ≡ s.flash
CallOnFlash g s (Commit t r) f' = CommitsFlash g s.memory t s.flash f'
CallOnFlash g s (Abandon t r) f' = f' ≡ s.flash
CallOnFlash g s (Get k r) f' = f' ≡ s.flash
CallOnFlash g s (Temperature ut r) f' = f' ≡ s.flash
CallOnFlash g s (Pressure st up r) f' = f' ≡ s.flash

-- A call that was made does what its own contract says, to the store and to its flash; where none
-- was made, both are the very same.
abbrev pub Effect : {X Y : Type 0} → Ghosts X Y →
    StoreState X → Option Entry → StoreState X → Type 0
Effect g s None s' = s' ≡ s
Effect g s (Some e) s' = Does (moment_of g s) e (moment_of g s') × CallOnFlash g s e s'.flash
