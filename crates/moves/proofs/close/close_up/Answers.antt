use Rattle.std.proofs.Common.{refl, arith}
use Rattle.moves.specs.CloseCode.{close-next, close_done}
use Rattle.moves.proofs.close.close_up.Goals as goal

pub loop-d-init : goal.loop-d-init
loop-d-init c = record { is = c.requires; same = refl }

pub close_zone-end-requires : goal.close_zone-end-requires
close_zone-end-requires c = (c.loop-d.invariant.is, omega arith)

pub loop-d-preserved : goal.loop-d-preserved
loop-d-preserved c = close-next _ _ _ _ _ _ _ _ _ c.loop-d.invariant (omega arith) c.close_zone-end.ensures.0 c.close_zone-end.ensures.1

pub returns : goal.returns
returns c = close_done _ _ _ _ _ _ _ c.loop-d.invariant (omega arith)
