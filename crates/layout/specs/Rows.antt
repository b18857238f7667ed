-- What the rows of the catalogue's table say: for the contracts within this crate alone, which hold the table against the catalogue.
use Rattle.std.specs.Prelude.{ℕ, suc, List, [], ◌∷◌}
use Rattle.layout.specs.Catalogue.{Limits, limits}
use Rattle.layout.specs.declared.catalogue.Limits.{Limits as RowLimits}
use Rattle.layout.specs.declared.catalogue.Row.{Row}

-- a key, its name, its limits
abbrev pub RowText : Type 0
RowText = ℕ × List ℕ × Limits

-- the limits of a row
abbrev pub limits_of : RowLimits → Limits
limits_of l = record { low = l.low; high = l.high; hole = l.hole }

abbrev pub row_says : Row → RowText
row_says r = (r.key, r.name.now, limits_of r.limits)

-- what the rows from a place on should say
abbrev pub rows_from : ℕ → List (List ℕ) → List RowText
rows_from k [] = []
rows_from k (n ∷ ns) = (suc k, n, limits (suc k)) ∷ rows_from (suc k) ns
