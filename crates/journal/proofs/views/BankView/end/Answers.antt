use Rattle.std.proofs.Common.{◌≡◌, ◌+◌, rules}
use Rattle.std.specs.Option.{MatchOption}
use Rattle.journal.specs.Reading.{end_of}
use Rattle.journal.specs.Views.{shown}
use Rattle.journal.proofs.End.{end_from_search}
use Rattle.journal.proofs.views.BankView.end.Goals as goal

pub returns : goal.returns
returns g c =
    let us = shown g.F.Flash c.args.self.now in
    let h : MatchOption c.find.result (end_of us ≡ 0) (λ i. i + 1 ≡ end_of us) =
    end_from_search us _ (λ x q k. search rules) (λ x q k. search rules) _ _ c.find.result (search rules) c.find.ensures.ran in
    search rules
