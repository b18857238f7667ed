use Rattle.std.proofs.Common.{◌≤◌, ◌-◌, drop}
use Rattle.layout.specs.Held.{pairs_of}
use Rattle.journal.specs.Views.{meanings_shown}
use Rattle.journal.proofs.Gathering.{Gathered}
use Rattle.journal.proofs.views.BankView.records.Given as goal

-- the units up to this one gave the pairs
abbrev pub invariant-loop-unit : goal.invariant-loop-unit
invariant-loop-unit g l =
    (l.from ≤ l.unit) × Gathered (drop l.from (meanings_shown g.F.Flash l.self)) l.count (pairs_of l.pairs) l.last (l.unit - l.from)
