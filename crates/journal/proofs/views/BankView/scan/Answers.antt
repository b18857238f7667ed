use Rattle.std.proofs.Common.{◌≡◌, length, ◌∙◌, sym, rules, arith}
use Rattle.journal.specs.Views.{shown, meanings_shown}
use Rattle.journal.proofs.Gathering.{length_meanings}
use Rattle.journal.proofs.Scanning.{fold_callable, fold_all}
use Rattle.journal.proofs.views.BankView.scan.Goals as goal

pub fold-requires-clause-callable : goal.fold-requires-clause-callable
fold-requires-clause-callable g c =
    let ms = meanings_shown g.F.Flash c.args.self.now in
    let long : c.args.units ≡ length ms = sym c.requires.long ∙ sym (length_meanings (shown g.F.Flash c.args.self.now)) in
    fold_callable ms c.args.start _ (λ l x r q k. search rules) c.args.units long (omega (arith, long, c.requires.few)) (λ l x h w. search rules)

pub returns : goal.returns
returns g c =
    let ms = meanings_shown g.F.Flash c.args.self.now in
    let long : c.args.units ≡ length ms = sym c.requires.long ∙ sym (length_meanings (shown g.F.Flash c.args.self.now)) in
    let e = fold_all ms c.args.start _ (λ l x r q k. search rules) c.args.units long c.fold.result c.fold.ensures.ran in
    record { pairs = e.0; number = e.1 }
