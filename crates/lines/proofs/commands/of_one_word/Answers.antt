use Rattle.std.proofs.Common.{codes, ap, sym, rules, arith}
use Rattle.std.proofs.lemmas.Slice.Eq.{text_from_reads}
use Rattle.lines.specs.Commands.{alone}
use Rattle.lines.proofs.commands.of_one_word.Goals as goal

pub returns-in-format : goal.returns-in-format
returns-in-format c = sym (ap alone (text_from_reads c.args.verb.now (codes "format") (omega arith) (search rules)))

pub returns-in-recover : goal.returns-in-recover
returns-in-recover c = sym (ap alone (text_from_reads c.args.verb.now (codes "recover") (omega arith) (search rules)))

pub returns-in-commit : goal.returns-in-commit
returns-in-commit c = sym (ap alone (text_from_reads c.args.verb.now (codes "commit") (omega arith) (search rules)))

pub returns-in-abandon : goal.returns-in-abandon
returns-in-abandon c = sym (ap alone (text_from_reads c.args.verb.now (codes "abandon") (omega arith) (search rules)))
