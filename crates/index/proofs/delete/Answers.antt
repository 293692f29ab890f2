use Rattle.gates.specs.GatesLaws.{told_first}
use Rattle.index.specs.Calls.{delete_call}
use Rattle.index.proofs.delete.Goals as goal

pub returns-in_err-gate-clause-value : goal.returns-in_err-gate-clause-value
unfolding delete_call
returns-in_err-gate-clause-value c = told_first _ _ _ c.from_residual.ensures.1 c.in_err-gate.ensures _ _
