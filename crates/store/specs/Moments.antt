-- A store at one moment, seen with the meaning of its flash.
use Rattle.std.specs.Prelude.{ℕ}
use Rattle.flash.specs.FlashState.{FlashState}
use Rattle.flash.specs.Seen.{seen}
use Rattle.flash.specs.declared.interface.Flash.{Ghosts}
use Rattle.store.specs.Memories.{Memory, memory_of, TiedIn}
use Rattle.store.specs.declared.stores.Store.{Store}

-- the flash, what the store knows, and the number of the next ticket
pub record Moment : Type 0 where
  pub flash : FlashState
  pub memory : Memory
  pub next : ℕ

abbrev pub moment : {X Y : Type 0} → Ghosts X Y → Store X → Moment
moment g s = record { flash = seen g s.flash; memory = memory_of s.phase s.standing s.change; next = s.next }

-- What the store knows is what its units say. So it is at every moment of a store's life: of a new one, and each call keeps it.
abbrev pub Tied : Moment → Type 0
Tied m = TiedIn m.memory m.flash
