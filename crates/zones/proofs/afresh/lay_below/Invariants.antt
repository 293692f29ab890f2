use Rattle.zones.specs.AfreshCode.{Lowered}
use Rattle.zones.proofs.afresh.lay_below.Given as goal

abbrev pub invariant-loop-d : goal.invariant-loop-d
invariant-loop-d l = Lowered l.step l.initial.home l.home l.d l.e
