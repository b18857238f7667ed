-- The plan of a flash: what its power-ups take, one entry each.
use Rattle.std.specs.Prelude.{◌≡◌, ℕ, ◌+◌, ◌<◌, min, List, [], ◌∷◌, ◌++◌, length, Option, Some, None}
use Rattle.flash.specs.declared.plans.PlanEntry.{PlanEntry}

-- the entries in their order, and how many of them power-ups have taken
pub record Plan : Type 0 where
  pub entries : List PlanEntry
  pub taken : ℕ

-- the plan of a kind of flash whose power-ups follow none
abbrev pub no_plan : Plan
no_plan = record { entries = []; taken = 0 }

-- a power-up takes the next entry, if one is left
abbrev pub taking : Plan → Plan
taking p = record { entries = p.entries; taken = min (p.taken + 1) (length p.entries) }

-- one entry more at the end
abbrev pub with_entry : Plan → PlanEntry → Plan
with_entry p e = record { entries = p.entries ++ (e ∷ []); taken = p.taken }

-- An entry was added behind those that were there, and the answer is how many there are; where the plan had as many as it can have, none was, and
-- there is no answer.
abbrev pub Added : ℕ → Plan → PlanEntry → Option ℕ → Plan → Type 0
Added most before entry None after = (length before.entries ≡ most) × (after ≡ before)
Added most before entry (Some n) after = (length before.entries < most) × (after ≡ with_entry before entry) × (n ≡ length after.entries)
