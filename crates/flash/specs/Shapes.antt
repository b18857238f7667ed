-- The shapes that a flash kept in memory can have.
use Rattle.std.specs.Prelude.{ℕ, ◌*◌, Bool, ◌&&◌, nat_le}

-- 1 to 16 banks, at least one unit in each, at most 4096 units
abbrev pub shape_fits : ℕ → ℕ → Bool
shape_fits banks width = nat_le 1 banks && nat_le banks 16 && nat_le 1 width && nat_le (banks * width) 4096
