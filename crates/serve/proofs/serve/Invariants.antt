use Rattle.std.proofs.Common.{◌-◌, take}
use Rattle.stream.specs.Stream.{state}
use Rattle.serve.specs.Served.{Serving}
use Rattle.serve.proofs.serve.Given as goal

abbrev pub invariant-loop-read : goal.invariant-loop-read
invariant-loop-read g l = Serving l.initial.image l.initial.space l.read l.sent (state (take l.kept.held l.kept.bytes) l.image l.space)

abbrev pub decreases-loop-read : goal.decreases-loop-read
decreases-loop-read g l = 9223372036854775808 - l.read
