use Rattle.std.proofs.Common.{sym}
use Rattle.simulator.specs.Formed.{items, rows_length}
use Rattle.simulator.proofs.simulators.calls.SimulatorFlash.banks.Goals as goal

pub returns : goal.returns
returns c = let s = c.args.self.now in record { count = sym (rows_length s.banks s.width (items s)) }
