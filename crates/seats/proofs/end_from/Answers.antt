use Rattle.seats.specs.SeatLaws.{pass_next, pass_done}
use Rattle.seats.proofs.end_from.Goals as goal

pub loop-d-preserved : goal.loop-d-preserved
loop-d-preserved c = pass_next _ _ _ _ _ _ _ _ c.loop-d.invariant c.loop-d-test.true c.zone_end-end.ensures

pub returns : goal.returns
returns c = pass_done _ _ _ _ _ _ _ c.loop-d.invariant c.loop-d-test.false
