use Rattle.compensation.proofs.Floor.{above, below}
use Rattle.compensation.proofs.text.hectopascals.Goals as goal

pub returns-clause-division : goal.returns-clause-division
returns-clause-division c = record { above = above; below = below }
