use Rattle.std.proofs.Common.{arith}
use Rattle.moves.specs.LooseLaws.{stored_long}
use Rattle.zones.specs.AfreshCode.{from_end, down_slides, down-next, down_done, up_next, up_slides, up_done}
use Rattle.zones.proofs.afresh.+lay_from.Goals as goal

pub returns-then-c-eq30 : goal.returns-then-c-eq30
returns-then-c-eq30 t c = from_end _ _ _ _ c.requires c.if-c-eq30.true

pub zone_count-requires : goal.zone_count-requires
zone_count-requires t c = (omega (arith, c.requires.class), omega (arith, stored_long _ _ c.requires.stored))

pub zone_first-requires : goal.zone_first-requires
zone_first-requires t c = (omega (arith, c.requires.class), omega (arith, stored_long _ _ c.requires.stored))

pub slide-requires : goal.slide-requires
slide-requires t c = down_slides _ _ _ _ c.requires c.if-c-eq30.false _ _ _ c.zone_count.ensures.0 c.cells.ensures.0 c.zone_first.ensures.0 c.if-e-zone_first.true

pub lay_from-requires : goal.lay_from-requires
lay_from-requires t c = (
  omega (arith, c.decreases, c.requires.class),
  down-next _ _ _ _ c.requires c.if-c-eq30.false _ _ _ c.zone_count.ensures.0 c.cells.ensures.0 c.zone_first.ensures.0 c.if-e-zone_first.true _ c.slide.ensures,
)

pub lay_from-requires-else-e-zone_first : goal.lay_from-requires-else-e-zone_first
lay_from-requires-else-e-zone_first t c = (
  omega (arith, c.decreases, c.requires.class),
  up_next _ _ _ _ c.requires c.if-c-eq30.false _ _ _ c.zone_count.ensures.0 c.cells.ensures.0 c.zone_first.ensures.0 (omega (arith, c.if-e-zone_first.false)),
)

pub slide-requires-else-e-zone_first : goal.slide-requires-else-e-zone_first
slide-requires-else-e-zone_first t c = up_slides _ _ _ _ c.requires c.if-c-eq30.false _ _ _ c.zone_count.ensures.0 c.cells.ensures.0 c.zone_first.ensures.0 (omega (arith, c.if-e-zone_first.false)) _ c.lay_from-else-e-zone_first.ensures

pub returns-then-e-zone_first : goal.returns-then-e-zone_first
returns-then-e-zone_first t c =
    down_done _ _ _ _ c.requires c.if-c-eq30.false _ _ _ c.zone_count.ensures.0 c.cells.ensures.0 c.zone_first.ensures.0 c.if-e-zone_first.true _ c.slide.ensures _ c.lay_from.ensures

pub returns-else-e-zone_first : goal.returns-else-e-zone_first
returns-else-e-zone_first t c =
    up_done _ _ _ _ c.requires c.if-c-eq30.false _ _ _ c.zone_count.ensures.0 c.cells.ensures.0 c.zone_first.ensures.0 (omega (arith, c.if-e-zone_first.false)) _ c.lay_from-else-e-zone_first.ensures _ c.slide-else-e-zone_first.ensures
