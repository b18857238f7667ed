use Rattle.std.proofs.Common.{◌≡◌, map, take, vec_items}
use Rattle.every_cut.specs.Asked.{request_of}
use Rattle.every_cut.proofs.asking.requests_in.Given as goal

abbrev pub invariant-loop-call : goal.invariant-loop-call
invariant-loop-call l = vec_items l.requests ≡ map request_of (take l.call-index l.calls)
