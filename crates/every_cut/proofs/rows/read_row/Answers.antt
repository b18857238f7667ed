use Rattle.std.proofs.Common.{List, ap, ◌∙◌}
use Rattle.std.specs.List.{count_by}
use Rattle.layout.specs.declared.meanings.Pair.{Pair}
use Rattle.every_cut.specs.Logs.{is_read}
use Rattle.every_cut.proofs.rows.read_row.Goals as goal

pub returns-clause-read : goal.returns-clause-read
returns-clause-read c = record {
  cut = c.last_cut.ensures;
  number = c.last_number.ensures;
  first = c.agreeing.ensures ∙ ap (λ (ps : List Pair). count_by (is_read ps) c.args.log.now) c.example_pairs.ensures.pairs;
  second = c.agreeing-2.ensures ∙ ap (λ (ps : List Pair). count_by (is_read ps) c.args.log.now) c.second_pairs.ensures;
}
