use Rattle.zones.specs.AfreshCode.{Summing}
use Rattle.zones.proofs.afresh.total.Given as goal

abbrev pub invariant-loop-c : goal.invariant-loop-c
invariant-loop-c l = Summing l.step l.home l.sum l.c
