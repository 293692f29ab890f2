use Rattle.print.specs.PrintLaws.{Listed}
use Rattle.print.proofs.put_list.Given as goal

abbrev pub invariant-loop-i : goal.invariant-loop-i
invariant-loop-i l = Listed l.list l.initial.out l.initial.at l.out l.at l.i
