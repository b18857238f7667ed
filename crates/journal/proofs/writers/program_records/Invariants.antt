use Rattle.std.proofs.Common.{◌≡◌, ℕ, ◌+◌, ◌<◌, ◌++◌, ◌^◌, length}
use Rattle.flash.specs.Seen.{seen}
use Rattle.layout.specs.Held.{pairs_of, pairs_left}
use Rattle.journal.specs.Commit.{records}
use Rattle.journal.proofs.Performing.{Onward}
use Rattle.journal.proofs.Chaining.{OnwardItself}
use Rattle.journal.proofs.writers.program_records.Given as goal

-- the records of the pairs given so far are programmed, and those of the pairs left remain; the plan is as it was
abbrev pub invariant-loop-i : goal.invariant-loop-i
invariant-loop-i g l = record {
  next : l.i ≡ length l.yielded;
  fits : l.from + l.i < 2 ^ 64;
  rest : l.yielded ++ pairs_left l.pair-iterator ≡ pairs_of l.pairs;
  onward : Onward g.F.Fault.FlashFault ℕ (records l.bank l.from (pairs_of l.pairs)) (seen g.F.Flash l.initial.flash) (records l.bank (l.from + l.i) (pairs_left l.pair-iterator)) (seen g.F.Flash l.flash);
  itself : OnwardItself g.F.Flash g.F.Fault.FlashFault (records l.bank l.from (pairs_of l.pairs)) l.initial.flash (records l.bank (l.from + l.i) (pairs_left l.pair-iterator)) l.flash;
  plan : g.F.Flash.plan l.flash ≡ g.F.Flash.plan l.initial.flash;
}
