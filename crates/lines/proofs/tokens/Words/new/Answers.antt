use Rattle.lines.proofs.Parted.{words_parted}
use Rattle.lines.proofs.tokens.Words.new.Goals as goal

pub returns-clause-parted : goal.returns-clause-parted
returns-clause-parted c = words_parted c.args.line.now
