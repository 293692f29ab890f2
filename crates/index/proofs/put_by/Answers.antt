use Rattle.gates.specs.GatesLaws.{told_first}
use Rattle.index.specs.Calls.{put_call}
use Rattle.index.proofs.put_by.Goals as goal

pub returns-in_err-gate-clause-value : goal.returns-in_err-gate-clause-value
unfolding put_call
returns-in_err-gate-clause-value c = told_first _ _ _ c.from_residual.ensures.1 c.in_err-gate.ensures _ _
