use Rattle.gates.specs.GatesLaws.{told_first}
use Rattle.reads.specs.Merges.{merge_in}
use Rattle.reads.proofs.merge.Goals as goal

pub returns-in_err-gate-clause-value : goal.returns-in_err-gate-clause-value
unfolding merge_in
returns-in_err-gate-clause-value c = told_first _ _ _ c.from_residual.ensures.1 c.in_err-gate.ensures _ _
