use Rattle.moves.specs.CloseCode.{Closing}
use Rattle.moves.proofs.close.close_up.Given as goal

abbrev pub invariant-loop-d : goal.invariant-loop-d
invariant-loop-d l = Closing l.step l.initial.home l.home l.c l.e l.d l.end
