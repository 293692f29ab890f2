use Rattle.gates.specs.GatesLaws.{told_first}
use Rattle.index.specs.Calls.{drop_call}
use Rattle.index.proofs.drop_tag.Goals as goal

pub returns-in_err-gate-clause-value : goal.returns-in_err-gate-clause-value
unfolding drop_call
returns-in_err-gate-clause-value c = told_first _ _ _ c.from_residual.ensures.1 c.in_err-gate.ensures _ _
