-- What the header of an image says, as the code reads it.
use Rattle.std.specs.Prelude.{ℕ, List}
use Rattle.image.specs.declared.headers.Header.{Header}
use Rattle.image.specs.ImageStates.{image_banks, image_width, image_charge, image_supply, image_on}

abbrev pub header_of : List ℕ → Header
header_of bs = record { banks = image_banks bs; width = image_width bs; charge = image_charge bs; supply = image_supply bs; is_on = image_on bs }
