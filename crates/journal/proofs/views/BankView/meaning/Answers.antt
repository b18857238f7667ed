use Rattle.std.proofs.Common.{sym, ap, ◌∙◌}
use Rattle.layout.specs.Codec.{meaning_of}
use Rattle.journal.specs.Views.{shown}
use Rattle.journal.proofs.Gathering.{meaning_at}
use Rattle.journal.proofs.views.BankView.meaning.Goals as goal

pub returns : goal.returns
returns g c = c.meaning.ensures ∙ ap meaning_of c.unit.ensures ∙ sym (meaning_at (shown g.F.Flash c.args.self.now) c.args.at)
