use Rattle.seats.specs.SeatLaws.{Passing}
use Rattle.seats.proofs.end_from.Given as goal

abbrev pub invariant-loop-d : goal.invariant-loop-d
invariant-loop-d l = Passing l.step l.home l.c l.e l.k l.d l.end
