use Rattle.std.proofs.Common.{length, ◌*◌, ◌-◌, ◌≤◌, take}
use Rattle.stream.specs.Stream.{state}
use Rattle.serve.specs.Served.{Taken}
use Rattle.serve.proofs.pass.Given as goal

abbrev pub invariant-loop-from : goal.invariant-loop-from
invariant-loop-from g l = record {
  taken : Taken (state (take l.initial.kept.held l.initial.kept.bytes) l.initial.image l.initial.space) (take l.from l.piece) l.sent (state (take l.kept.held l.kept.bytes) l.image l.space);
  within : l.from ≤ length l.piece;
  sent_bound : l.sent ≤ 65536 * l.from;
}

abbrev pub decreases-loop-from : goal.decreases-loop-from
decreases-loop-from g l = length l.piece - l.from
