use native.Mathlib.Omega.{arith}
use Rattle.zones.specs.AfreshCode.{sum-start, sum-small, sum-next, sum_done}
use Rattle.moves.specs.LooseLaws.{stored_long}
use Rattle.zones.proofs.afresh.total.Goals as goal

pub loop-c-init : goal.loop-c-init
loop-c-init c = sum-start _ _ c.requires

pub zone_count-requires : goal.zone_count-requires
zone_count-requires c = (omega arith, omega (arith, stored_long _ _ c.requires))

pub overflow_add-sum : goal.overflow_add-sum
overflow_add-sum c = omega (arith, sum-small _ _ _ _ _ _ c.loop-c.invariant (omega arith) c.zone_count.ensures.0 c.cells.ensures.0)

pub loop-c-preserved : goal.loop-c-preserved
loop-c-preserved c = sum-next _ _ _ _ _ _ c.loop-c.invariant (omega arith) c.zone_count.ensures.0 c.cells.ensures.0

pub returns : goal.returns
returns c = sum_done _ _ _ _ c.loop-c.invariant (omega arith)
