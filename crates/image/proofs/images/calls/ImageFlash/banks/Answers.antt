use Rattle.image.specs.ImageOpening.{image_bytes}
use Rattle.image.proofs.ImageCalls.{banks_shown}
use Rattle.image.proofs.images.calls.ImageFlash.banks.Goals as goal

pub returns : goal.returns
returns c = record { count = banks_shown (image_bytes c.args.self.now) c.header.result c.header.ensures }
