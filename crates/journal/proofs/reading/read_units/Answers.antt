use Rattle.std.proofs.Common.{◌≡◌, None, ap, ◌∙◌, rules}
use Rattle.std.specs.Option.{option_map}
use Rattle.flash.specs.Seen.{seen}
use Rattle.journal.specs.Reading.{active_bank, reads, reads_bank}
use Rattle.journal.specs.Log.{visible, reading_of}
use Rattle.journal.proofs.Stretch.{run_stands_directly_before}
use Rattle.journal.proofs.reading.read_units.Goals as goal

pub returns-in_err-bank : goal.returns-in_err-bank
unfolding reads
returns-in_err-bank g c =
    let bs = visible (seen g.F.Flash c.args.flash.now) in
    let n : c.from_residual.result ≡ None = search rules in
    record {
      reading = ap (option_map reading_of) n ∙ ap (reads_bank bs) (c.in_err-bank.ensures ∙ (λ i. active_bank (c.header_number.ensures i) (c.header_number-2.ensures i)));
      run = run_stands_directly_before;
    }

pub returns : goal.returns
unfolding reads
returns g c =
    let bs = visible (seen g.F.Flash c.args.flash.now) in
    record {
      reading = c.standing.ensures ∙ ap (reads_bank bs) (c.in_ok-bank.ensures ∙ (λ i. active_bank (c.header_number.ensures i) (c.header_number-2.ensures i)));
      run = run_stands_directly_before;
    }
