-- The numbers that refuse a simulator of another shape.
use Rattle.std.specs.Prelude.{ℕ, ◌*◌, cond, ◌==◌}
use Rattle.flash.specs.Shapes.{shape_fits}
use Rattle.simulator.specs.declared.shapes.ShapeFault.{ShapeFault}
use Rattle.simulator.specs.declared.shapes.ShapeFault.TheVariants.{Shape, Length}

-- the number that making from `size` units is refused with, 0 where it is accepted
abbrev pub make_refusal : ℕ → ℕ → ℕ → ℕ
make_refusal banks width size = cond (shape_fits banks width) (cond (size == banks * width) 0 33) 32

abbrev pub shape_number : ShapeFault → ℕ
shape_number Shape = 32
shape_number Length = 33
