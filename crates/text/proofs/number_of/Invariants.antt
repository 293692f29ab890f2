use Rattle.text.specs.ReadLaws.{Turn}
use Rattle.text.proofs.number_of.Given as goal

abbrev pub invariant-loop-x : goal.invariant-loop-x
invariant-loop-x l = Turn l.most l.s l.v l.x-index
