-- What each call does to a flash, and when it is refused.
use Rattle.std.specs.Prelude.{◌≡◌, ℕ, ◌^◌, ◌<◌, true, cond, ◌&&◌, ◌⊎◌, List, length, replicate, Some, None, Option, Result, IfErr, MatchResult, ◌==◌, nat_lt}
use Rattle.std.specs.List.{AllZip}
use Rattle.flash.specs.declared.units.Unit.{Unit as Cell}
use Rattle.flash.specs.declared.units.Unit.TheVariants.{Blank, Programmed, Unreadable}
use Rattle.flash.specs.declared.faults.FlashFault.{Ghosts as FaultGhosts}
use Rattle.flash.specs.FlashState.{FlashState, flash_state, bank_of, unit_at, is_blank, with_bank, with_unit, after_write, after_cut}

-- the number that a call is refused with, 0 where it is accepted: off, not there, not blank, cut
abbrev pub read_refusal : FlashState → ℕ → ℕ → ℕ
read_refusal s b u = cond s.on (cond (nat_lt b (length s.units) && nat_lt u s.width) 0 22) 21

abbrev pub program_refusal : FlashState → ℕ → ℕ → ℕ
program_refusal s b u =
    cond s.on (cond (nat_lt b (length s.units) && nat_lt u s.width) (cond (is_blank (unit_at s b u)) (cond (s.charge == 0) 24 0) 23) 22) 21

abbrev pub erase_refusal : FlashState → ℕ → ℕ
erase_refusal s b = cond s.on (cond (nat_lt b (length s.units)) (cond (s.charge == 0) 24 0) 22) 21

-- what a cut program of v may leave of its unit
abbrev pub ProgramResidue : ℕ → Cell → Type 0
ProgramResidue v x = (x ≡ Blank) ⊎ ((x ≡ Programmed v) ⊎ (x ≡ Unreadable))

-- what a cut erase may leave of a unit that held x
abbrev pub EraseResidue : Cell → Cell → Type 0
EraseResidue x y = (y ≡ x) ⊎ ((y ≡ Blank) ⊎ (y ≡ Unreadable))

-- the fault e gives the number n, which is one of a refusal, and the place that the call named
pub record Refused {F : Type 0} (t : FaultGhosts F) (e : F) (n b : ℕ) (u : Option ℕ) : Type 0 where
  pub number : t.number e ≡ n
  pub refused : 0 < n
  pub place : t.place e ≡ (b, u)

-- read: the unit's state; a read changes nothing
pub record ReadDone (s : FlashState) (b u : ℕ) (x : Cell) : Type 0 where
  pub accepted : read_refusal s b u ≡ 0
  pub value : x ≡ unit_at s b u

abbrev pub Read : {F : Type 0} → FaultGhosts F → FlashState → ℕ → ℕ → Result Cell F → Type 0
Read t s b u r = MatchResult r (ReadDone s b u) (λ e. Refused t e (read_refusal s b u) b (Some u))

-- program: the value stands in its unit, and the write is paid
pub record ProgramDone (s : FlashState) (b u v : ℕ) (s' : FlashState) : Type 0 where
  pub accepted : program_refusal s b u ≡ 0
  pub is : s' ≡ after_write (with_unit s b u (Programmed v))

-- a cut program: the implementation chooses the residue of its unit
pub record CutProgram (s : FlashState) (b u v : ℕ) (s' : FlashState) : Type 0 where
  pub residue : Cell
  pub allowed : ProgramResidue v residue
  pub is : s' ≡ after_cut (with_unit s b u residue)

pub record ProgramRefused {F : Type 0} (t : FaultGhosts F) (s : FlashState) (b u v : ℕ) (s' : FlashState) (e : F) : Type 0 where
  pub why : Refused t e (program_refusal s b u) b (Some u)
  pub unchanged : program_refusal s b u < 24 → s' ≡ s
  pub cut : program_refusal s b u ≡ 24 → CutProgram s b u v s'

abbrev pub Program : {F : Type 0} → FaultGhosts F → FlashState → ℕ → ℕ → ℕ → FlashState → Result (Unit {0}) F → Type 0
Program t s b u v s' r = MatchResult r (λ _. ProgramDone s b u v s') (ProgramRefused t s b u v s')

-- erase: all units of the bank are blank, and the write is paid
pub record EraseDone (s : FlashState) (b : ℕ) (s' : FlashState) : Type 0 where
  pub accepted : erase_refusal s b ≡ 0
  pub is : s' ≡ after_write (with_bank s b (replicate s.width Blank))

-- a cut erase: the implementation chooses the residue of each unit of the bank by itself
pub record CutErase (s : FlashState) (b : ℕ) (s' : FlashState) : Type 0 where
  pub residue : List Cell
  pub allowed : AllZip EraseResidue (bank_of s b) residue
  pub is : s' ≡ after_cut (with_bank s b residue)

pub record EraseRefused {F : Type 0} (t : FaultGhosts F) (s : FlashState) (b : ℕ) (s' : FlashState) (e : F) : Type 0 where
  pub why : Refused t e (erase_refusal s b) b None
  pub unchanged : erase_refusal s b < 24 → s' ≡ s
  pub cut : erase_refusal s b ≡ 24 → CutErase s b s'

abbrev pub Erase : {F : Type 0} → FaultGhosts F → FlashState → ℕ → FlashState → Result (Unit {0}) F → Type 0
Erase t s b s' r = MatchResult r (λ _. EraseDone s b s') (EraseRefused t s b s')

-- A program or an erase that is refused with 21, 22 or 23 leaves the very same flash, with all
-- that its kind holds besides what is seen of it. Only the cut, 24, leaves another one.
abbrev pub Untouched : {X F : Type 0} → FaultGhosts F → X → Result (Unit {0}) F → X → Type 0
Untouched t f r f' = IfErr r (λ e. t.number e < 24 → f' ≡ f)

-- power-up: on, all units kept; the implementation chooses the charge
pub record PoweredUp (before after : FlashState) : Type 0 where
  pub charge : ℕ
  pub fits : charge < 2 ^ 32
  pub is : after ≡ flash_state before.units before.width true charge

-- for a kind that says of its whole state what a write makes of it, by the write's refusal: `done` where it completes (0), `cut` at the cut (24), else `same`
abbrev pub by_refusal : {X : Type 0} → ℕ → X → X → X → X
by_refusal n done cut same = cond (n == 0) done (cond (n == 24) cut same)
