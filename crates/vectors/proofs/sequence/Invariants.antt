use Rattle.std.proofs.Common.{◌≤◌}
use Rattle.vectors.proofs.sequence.Given as goal

abbrev pub invariant-loop : goal.invariant-loop
invariant-loop l = (l.tally.calls ≤ l.counter) × (l.tally.answers ≤ l.counter) × (l.tally.told ≤ l.counter) × (l.tally.sums ≤ l.counter)
