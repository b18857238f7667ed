use Rattle.std.proofs.Common.{◌≡◌}
use Rattle.simulator.proofs.Cuts.{cut_before}
use Rattle.simulator.proofs.residues.cut_erase.Given as goal

abbrev pub invariant-loop-u : goal.invariant-loop-u
invariant-loop-u l = l.bank ≡ cut_before l.pattern 0 l.u l.initial.bank
