-- The number and the place that a mirror's fault gives.
use Rattle.std.specs.Prelude.{ℕ, Option}
use Rattle.flash.specs.Causes.{cause_number, cause_place}
use Rattle.flash.specs.declared.faults.FlashFault.{Ghosts as FaultGhosts}
use Rattle.mirror.specs.declared.mirror_faults.MirrorFault.{MirrorFault}
use Rattle.mirror.specs.declared.mirror_faults.MirrorFault.TheVariants.{Own, First, Second}

-- a side's fault keeps its number
abbrev pub mirror_number : {E F : Type 0} → FaultGhosts E → FaultGhosts F → MirrorFault E F → ℕ
mirror_number p q (Own c) = cause_number c
mirror_number p q (First at e) = p.number e
mirror_number p q (Second at e) = q.number e

-- the place as the mirror counts it
abbrev pub mirror_place : {E F : Type 0} → MirrorFault E F → ℕ × Option ℕ
mirror_place (Own c) = cause_place c
mirror_place (First at e) = at
mirror_place (Second at e) = at
