-- What a call of a mirror does to each side: a and b are the sides before it, a' and b' after it.
use Rattle.std.specs.Prelude.{◌≡◌, ℕ, ◌<◌, Bool, ◌&&◌, Some, None, Ok, Err, codes, Option, Result, MatchBool, ◌==◌, nat_lt}
use Rattle.flash.specs.declared.units.Unit.{Unit as Cell}
use Rattle.flash.specs.declared.causes.Cause.{Cause}
use Rattle.flash.specs.declared.faults.FlashFault.{Ghosts as FaultGhosts}
use Rattle.flash.specs.FlashState.{FlashState, unit_at}
use Rattle.flash.specs.Causes.{cause_number, cause_place}
use Rattle.flash.specs.Seen.{seen}
use Rattle.flash.specs.declared.interface.Flash.{Ghosts}
use Rattle.flash.specs.Calls.{read_refusal, program_refusal, erase_refusal, ProgramDone, ProgramRefused, EraseDone, EraseRefused, PoweredUp}
use Rattle.flash.specs.Plans.{taking}
use Rattle.mirror.specs.declared.mirror_faults.MirrorFault.{MirrorFault}
use Rattle.mirror.specs.declared.mirror_faults.MirrorFault.TheVariants.{Own, First, Second}
use Rattle.mirror.specs.MirrorFaults.{mirror_number, mirror_place}
use Rattle.mirror.specs.Mirrored.{mixed, mirrored}

-- what a mirror's fault gives, by what the faults of its sides give
abbrev pub mirror_fault : {E F : Type 0} → FaultGhosts E → FaultGhosts F → FaultGhosts (MirrorFault E F)
mirror_fault p q = record { layer = codes "mirror"; number = mirror_number p q; place = mirror_place }

-- the mirror itself refuses with n, which is 21, 22 or 23, and touches neither side
pub record OwnRefusal (c : Cause) (n k : ℕ) (u : Option ℕ) (a b a' b' : FlashState) : Type 0 where
  pub number : cause_number c ≡ n
  pub own : n < 24
  pub place : cause_place c ≡ (k, u)
  pub first : a' ≡ a
  pub second : b' ≡ b

-- a read goes to both sides, and only the mirror refuses it
abbrev pub ReadSides : {E F : Type 0} → (a b : FlashState) → (k u : ℕ) → Result Cell (MirrorFault E F) → Type 0
ReadSides a b k u (Ok x) = x ≡ mixed (unit_at a k u) (unit_at b k u)
ReadSides a b k u (Err (Own c)) = OwnRefusal c (read_refusal (mirrored a b) k u) k (Some u) a b a b
ReadSides a b k u (Err (First at e)) = ⊥
ReadSides a b k u (Err (Second at e)) = ⊥

-- a side that refuses is cut: 21 to 23 are the mirror's own
abbrev pub SideCuts : {E F : Type 0} → FaultGhosts E → FaultGhosts F → Result (Unit {0}) (MirrorFault E F) → Type 0
SideCuts p q (Ok x) = Unit {0}
SideCuts p q (Err (Own c)) = Unit {0}
SideCuts p q (Err (First at e)) = p.number e ≡ 24
SideCuts p q (Err (Second at e)) = q.number e ≡ 24

-- program: the first side completed, then the second
pub record ProgramBoth (a b a' b' : FlashState) (k u v : ℕ) : Type 0 where
  pub first : ProgramDone a k u v a'
  pub second : ProgramDone b k u v b'

-- program: the first side refused, and the second not called
pub record ProgramFirst {E : Type 0} (p : FaultGhosts E) (a b a' b' : FlashState) (k u v : ℕ) (at : ℕ × Option ℕ) (e : E) : Type 0 where
  pub place : at ≡ (k, Some u)
  pub first : ProgramRefused p a k u v a' e
  pub second : b' ≡ b

-- program: the first side completed, and the second refused
pub record ProgramSecond {F : Type 0} (q : FaultGhosts F) (a b a' b' : FlashState) (k u v : ℕ) (at : ℕ × Option ℕ) (e : F) : Type 0 where
  pub place : at ≡ (k, Some u)
  pub first : ProgramDone a k u v a'
  pub second : ProgramRefused q b k u v b' e

abbrev pub ProgramSides : {E F : Type 0} → FaultGhosts E → FaultGhosts F → (a b a' b' : FlashState) → (k u v : ℕ) → Result (Unit {0}) (MirrorFault E F) → Type 0
ProgramSides p q a b a' b' k u v (Ok x) = ProgramBoth a b a' b' k u v
ProgramSides p q a b a' b' k u v (Err (Own c)) = OwnRefusal c (program_refusal (mirrored a b) k u) k (Some u) a b a' b'
ProgramSides p q a b a' b' k u v (Err (First at e)) = ProgramFirst p a b a' b' k u v at e
ProgramSides p q a b a' b' k u v (Err (Second at e)) = ProgramSecond q a b a' b' k u v at e

-- erase: the second side completed, then the first
pub record EraseBoth (a b a' b' : FlashState) (k : ℕ) : Type 0 where
  pub second : EraseDone b k b'
  pub first : EraseDone a k a'

-- erase: the second side refused, and the first not called
pub record EraseSecond {F : Type 0} (q : FaultGhosts F) (a b a' b' : FlashState) (k : ℕ) (at : ℕ × Option ℕ) (e : F) : Type 0 where
  pub place : at ≡ (k, None)
  pub second : EraseRefused q b k b' e
  pub first : a' ≡ a

-- erase: the second side completed, and the first refused
pub record EraseFirst {E : Type 0} (p : FaultGhosts E) (a b a' b' : FlashState) (k : ℕ) (at : ℕ × Option ℕ) (e : E) : Type 0 where
  pub place : at ≡ (k, None)
  pub second : EraseDone b k b'
  pub first : EraseRefused p a k a' e

abbrev pub EraseSides : {E F : Type 0} → FaultGhosts E → FaultGhosts F → (a b a' b' : FlashState) → (k : ℕ) → Result (Unit {0}) (MirrorFault E F) → Type 0
EraseSides p q a b a' b' k (Ok x) = EraseBoth a b a' b' k
EraseSides p q a b a' b' k (Err (Own c)) = OwnRefusal c (erase_refusal (mirrored a b) k) k None a b a' b'
EraseSides p q a b a' b' k (Err (First at e)) = EraseFirst p a b a' b' k at e
EraseSides p q a b a' b' k (Err (Second at e)) = EraseSecond q a b a' b' k at e

-- A side that is not called is left just as it is, with all that its kind holds besides what is seen of it: both where the mirror itself refuses,
-- and of a program the second where the first refused.
abbrev pub ProgramLeaves : {A B E F : Type 0} → (a : A) (b : B) (a' : A) (b' : B) → Result (Unit {0}) (MirrorFault E F) → Type 0
ProgramLeaves a b a' b' (Ok x) = Unit {0}
ProgramLeaves a b a' b' (Err (Own c)) = (a' ≡ a) × (b' ≡ b)
ProgramLeaves a b a' b' (Err (First at e)) = b' ≡ b
ProgramLeaves a b a' b' (Err (Second at e)) = Unit {0}

-- of an erase the first where the second refused
abbrev pub EraseLeaves : {A B E F : Type 0} → (a : A) (b : B) (a' : A) (b' : B) → Result (Unit {0}) (MirrorFault E F) → Type 0
EraseLeaves a b a' b' (Ok x) = Unit {0}
EraseLeaves a b a' b' (Err (Own c)) = (a' ≡ a) × (b' ≡ b)
EraseLeaves a b a' b' (Err (First at e)) = Unit {0}
EraseLeaves a b a' b' (Err (Second at e)) = a' ≡ a

-- What becomes of the sides themselves, with all that their kinds hold besides what is seen of
-- them: g and h are the ghost members of the two kinds, a and b the sides before, a' and b' after.

-- a program that the mirror lets through: the first side is programmed as its kind has it, and
-- the second as its kind has it only if the first completes
abbrev pub ProgrammedInTurn : {A B E F : Type 0} → Ghosts A E → Ghosts B F →
    (a : A) (b : B) (k u v : ℕ) (a' : A) (b' : B) → Type 0
ProgrammedInTurn g h a b k u v a' b' =
    g.programmed a k u v a'
    × MatchBool (program_refusal (seen g a) k u == 0) (h.programmed b k u v b') (b' ≡ b)

-- an erase that the mirror lets through: the second side, then the first
abbrev pub ErasedInTurn : {A B E F : Type 0} → Ghosts A E → Ghosts B F →
    (a : A) (b : B) (k : ℕ) (a' : A) (b' : B) → Type 0
ErasedInTurn g h a b k a' b' =
    h.erased b k b'
    × MatchBool (erase_refusal (seen h b) k == 0) (g.erased a k a') (a' ≡ a)

-- the refusals of the mirror's own: 21, 22 and 23
abbrev pub is_own : ℕ → Bool
is_own n = nat_lt 0 n && nat_lt n 24

-- a program or an erase of the mirror: where the mirror itself refuses both sides are the very same
abbrev pub SidesProgrammed : {A B E F : Type 0} → Ghosts A E → Ghosts B F →
    (a : A) (b : B) (k u v : ℕ) (a' : A) (b' : B) → Type 0
SidesProgrammed g h a b k u v a' b' =
    MatchBool (is_own (program_refusal (mirrored (seen g a) (seen h b)) k u))
    ((a' ≡ a) × (b' ≡ b)) (ProgrammedInTurn g h a b k u v a' b')

abbrev pub SidesErased : {A B E F : Type 0} → Ghosts A E → Ghosts B F →
    (a : A) (b : B) (k : ℕ) (a' : A) (b' : B) → Type 0
SidesErased g h a b k a' b' =
    MatchBool (is_own (erase_refusal (mirrored (seen g a) (seen h b)) k))
    ((a' ≡ a) × (b' ≡ b)) (ErasedInTurn g h a b k a' b')

-- a write leaves the plans of both sides
abbrev pub PlansKept : {A B E F : Type 0} → Ghosts A E → Ghosts B F →
    (a : A) (b : B) (a' : A) (b' : B) → Type 0
PlansKept g h a b a' b' = (g.plan a' ≡ g.plan a) × (h.plan b' ≡ h.plan b)

-- one power-up of a side, as its kind has it, which takes an entry of the side's plan
pub record SidePoweredUp {X Y : Type 0} (g : Ghosts X Y) (f f' : X) : Type 0 where
  pub powered : g.powered f f'
  pub meaning : PoweredUp (seen g f) (seen g f')
  pub plan : g.plan f' ≡ taking (g.plan f)
