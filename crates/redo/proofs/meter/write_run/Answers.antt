use Rattle.std.proofs.Common.{arith}
use Rattle.redo.specs.Stage.{stage_run}
use Rattle.redo.proofs.meter.write_run.Goals as goal

pub returns : goal.returns
returns c =
    let a = c.args in
    stage_run a.left 0 c.min-n.result 0 a.src.now a.dst.now _ c.min-n.ensures (omega arith, omega arith) c.copy.ensures
