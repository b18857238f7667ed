use Rattle.std.proofs.Common.{◌≡◌, ◌≤◌, drop}
use Rattle.lines.specs.Numbers.{unsigned_of}
use Rattle.lines.proofs.Digits.{number_after}
use Rattle.lines.proofs.numbers.unsigned_64.Given as goal

abbrev pub invariant-loop-byte : goal.invariant-loop-byte
invariant-loop-byte l = record {
  fits : l.value ≤ 18446744073709551615;
  same : number_after 18446744073709551615 l.value (drop l.byte-index l.word) ≡ unsigned_of 18446744073709551615 l.word;
}
