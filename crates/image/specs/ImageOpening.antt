-- An image's bytes, and the numbers of the refusals to open one.
use Rattle.std.specs.Prelude.{ℕ, List, vec_items}
use Rattle.image.specs.declared.image_checks.OpenFault.{OpenFault}
use Rattle.image.specs.declared.image_checks.OpenFault.TheVariants.{Mark, Shape, Length}
use Rattle.image.specs.declared.images.Image.{Image}

abbrev pub open_number : OpenFault → ℕ
open_number Mark = 31
open_number Shape = 32
open_number Length = 33

abbrev pub image_bytes : Image → List ℕ
image_bytes m = vec_items m.bytes
