use Rattle.std.proofs.Common.{◌≡◌}
use Rattle.layout.specs.Crc.{shifts}
use Rattle.layout.proofs.crc.fed.Given as goal

abbrev pub invariant-loop : goal.invariant-loop
invariant-loop l = l.s ≡ shifts l.counter l.initial.s
