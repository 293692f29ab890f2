use Rattle.gates.specs.GatesLaws.{told_alone}
use Rattle.reads.specs.Reads.{rank_in}
use Rattle.reads.proofs.rank.Goals as goal

pub returns-in_err-gate : goal.returns-in_err-gate
unfolding rank_in
returns-in_err-gate c = told_alone _ _ _ c.from_residual.ensures.1 c.in_err-gate.ensures _
