use native.Mathlib.Omega.{arith}
use Rattle.moves.specs.LooseLaws.{stored_long}
use Rattle.zones.specs.AfreshCode.{lower-start, lower_slides, lower-small, lower_again, lower_done}
use Rattle.zones.proofs.afresh.lay_below.Goals as goal

pub loop-d-init : goal.loop-d-init
loop-d-init c = lower-start _ _ c.requires.0

pub zone_count-n-requires : goal.zone_count-n-requires
zone_count-n-requires c = (omega arith, omega (arith, stored_long _ _ c.requires.0))

pub slide-requires : goal.slide-requires
slide-requires c = lower_slides _ _ _ _ _ c.loop-d.invariant (omega arith)

pub overflow_add-e : goal.overflow_add-e
overflow_add-e c = omega (arith, lower-small _ _ _ _ _ c.loop-d.invariant (omega arith) _ _ c.zone_count-n.ensures.0 c.cells.ensures.0)

pub loop-d-preserved : goal.loop-d-preserved
loop-d-preserved c = lower_again _ _ _ _ _ c.loop-d.invariant (omega arith) _ _ _ c.zone_count-n.ensures.0 c.cells.ensures.0 c.slide.ensures

pub returns : goal.returns
returns c =
    let r = lower_done _ _ _ c.args.c _ _ c.loop-d.invariant (omega arith) in
    record { value = r.0; home_after = r.1 }
