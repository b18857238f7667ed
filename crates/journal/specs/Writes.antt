-- Writes to the banks of a flash: what each makes of the units, and what comes of a list of them.
use Rattle.std.specs.Prelude.{◌≡◌, ℕ, ◌-◌, ◌<◌, false, ◌⊎◌, List, [], ◌∷◌, replicate, Some, None, Option, Result, MatchResult, MatchBool, ◌==◌, slice_set}
use Rattle.std.specs.List.{AllZip}
use Rattle.flash.specs.declared.units.Unit.{Unit as Cell}
use Rattle.flash.specs.declared.units.Unit.TheVariants.{Blank, Programmed}
use Rattle.flash.specs.declared.faults.FlashFault.{Ghosts as FaultGhosts}
use Rattle.flash.specs.declared.interface.Flash.{Ghosts}
use Rattle.flash.specs.FlashState.{FlashState, flash_state}
use Rattle.flash.specs.Seen.{seen}
use Rattle.flash.specs.Calls.{program_refusal, erase_refusal, ProgramResidue, EraseResidue, Refused}
use Rattle.journal.specs.Reading.{Banks, bank}

-- program: bank, unit and value; erase: bank
pub data Write : Type 0 where
  program : ℕ → ℕ → ℕ → Write
  erase : ℕ → Write

-- the units after a write that completed
abbrev pub done : ℕ → Write → Banks → Banks
done width (program b u v) bs = slice_set bs b (slice_set (bank b bs) u (Programmed v))
done width (erase b) bs = slice_set bs b (replicate width Blank)

-- what a program that was cut leaves in its unit: the flash chooses the residue
pub record ProgramLeft (b u v : ℕ) (bs after : Banks) : Type 0 where
  pub residue : Cell
  pub allowed : ProgramResidue v residue
  pub is : after ≡ slice_set bs b (slice_set (bank b bs) u residue)

-- what an erase that was cut leaves in its bank: the flash chooses the residue of each unit
pub record EraseLeft (b : ℕ) (bs after : Banks) : Type 0 where
  pub residue : List Cell
  pub allowed : AllZip EraseResidue (bank b bs) residue
  pub is : after ≡ slice_set bs b residue

-- the units after may be what the cut write leaves
abbrev pub Cut : Write → Banks → Banks → Type 0
Cut (program b u v) bs after = ProgramLeft b u v bs after
Cut (erase b) bs after = EraseLeft b bs after

-- the number that the flash refuses a write with, 0 where it completes it
abbrev pub write_refusal : FlashState → Write → ℕ
write_refusal s (program b u v) = program_refusal s b u
write_refusal s (erase b) = erase_refusal s b

-- the place that a write names: its bank, and its unit if it is a program
abbrev pub write_bank : Write → ℕ
write_bank (program b u v) = b
write_bank (erase b) = b

abbrev pub write_unit : Write → Option ℕ
write_unit (program b u v) = Some u
write_unit (erase b) = None

-- the flash after a write that completed: the write is paid
abbrev pub completed : FlashState → Write → FlashState
completed s w = flash_state (done s.width w s.units) s.width s.on (s.charge - 1)

-- the flash after a write that was cut: off
pub record CutAt (s : FlashState) (w : Write) (s' : FlashState) : Type 0 where
  pub units : Banks
  pub allowed : Cut w s.units units
  pub is : s' ≡ flash_state units s.width false s.charge

-- the flash refused this write with the fault e: 21 to 23 changed nothing, 24 cut it
pub record StoppedAt {F : Type 0} (t : FaultGhosts F) (s : FlashState) (w : Write) (s' : FlashState) (e : F) : Type 0 where
  pub why : Refused t e (write_refusal s w) (write_bank w) (write_unit w)
  pub unchanged : write_refusal s w < 24 → s' ≡ s
  pub cut : write_refusal s w ≡ 24 → CutAt s w s'

-- the writes were made in their order, all of them, or up to the first that the flash refused, whose fault is the answer
abbrev pub Performed : {A F : Type 0} → FaultGhosts F → List Write → FlashState → FlashState → Result A F → Type 0
Performed t [] s s' r = MatchResult r (λ _. s' ≡ s) (λ _. ⊥)
Performed t (w ∷ ws) s s' r =
    ((write_refusal s w ≡ 0) × Performed t ws (completed s w) s' r) ⊎ MatchResult r (λ _. ⊥) (StoppedAt t s w s')

-- ---- of a flash itself, with all that its kind holds besides what is seen of it

-- what one write makes of it, completed or not, as its kind has it
abbrev pub Wrote : {X Y : Type 0} → Ghosts X Y → X → Write → X → Type 0
Wrote g f (program b u v) f' = g.programmed f b u v f'
Wrote g f (erase b) f' = g.erased f b f'

-- The writes in their order, as one chain of flashes: each makes the next flash, up to the first
-- that the flash does not complete, which makes the last one; refused with 21 to 23 it leaves the
-- very same.
abbrev pub WroteThrough : {X Y : Type 0} → Ghosts X Y → List Write → X → X → Type 0
WroteThrough g [] f f' = f' ≡ f
WroteThrough {X} g (w ∷ ws) f f' =
    MatchBool (write_refusal (seen g f) w == 0)
    ((next : X) × Wrote g f w next × (seen g next ≡ completed (seen g f) w)
    × WroteThrough g ws next f')
    (Wrote g f w f' × (write_refusal (seen g f) w < 24 → f' ≡ f))
