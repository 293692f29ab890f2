use native.Mathlib.Omega.{arith}
use mathlib.Core.Path.{refl, sym, ◌∙◌}
use Rattle.layout.specs.CapacitiesLaws.{cells_pos}
use Rattle.moves.specs.CloseLaws.{zone-none}
use Rattle.moves.specs.CloseCode.{end_small, open_small, open_long, lower_requires, lower-next, lower_done}
use borrow.Author.Rules.{rules}
use Rattle.moves.proofs.close.close_zone.Goals as goal

pub zone_count-n-requires : goal.zone_count-n-requires
zone_count-n-requires c = omega (arith, open_long _ _ _ _ _ _ c.requires.0)

pub returns-then-n-eq0 : goal.returns-then-n-eq0
returns-then-n-eq0 c = let p = zone-none _ _ _ _ _ _ c.requires.0 c.requires.1 (sym c.zone_count-n.ensures.0 ∙ c.if-n-eq0.true) in (p.1, p.0)

pub zone_first-f-requires : goal.zone_first-f-requires
zone_first-f-requires c = omega (arith, open_long _ _ _ _ _ _ c.requires.0)

pub loop-f-init : goal.loop-f-init
loop-f-init c = (
  record { is = c.requires.0; under = c.requires.1; first = c.zone_first-f.ensures.0; many = c.zone_count-n.ensures.0; some = c.if-n-eq0.false; size = c.cells-k.ensures.0; low = refl; end = refl },
  end_small _ _ _ c.zone_first-f.ensures.1 c.zone_count-n.ensures.1 c.cells-k.ensures.1,
  omega (arith, c.cells-k.ensures.0, cells_pos c.args.step c.args.c),
  c.cells-k.ensures.1,
  open_small _ _ _ _ _ _ c.requires.0,
  omega (arith, open_long _ _ _ _ _ _ c.requires.0),
  refl,
)

pub move_block-requires : goal.move_block-requires
move_block-requires c =
    let r = lower_requires _ _ _ _ _ _ _ _ c.loop-f.invariant.0 (omega arith) in
    record { c_bound = r.0; movable = r.1 }

pub loop-f-preserved : goal.loop-f-preserved
loop-f-preserved c = (
  rw (c.set_zone.ensures, c.move_block.ensures) (lower-next _ _ _ _ _ _ _ _ c.loop-f.invariant.0 (omega arith)),
  omega arith,
  c.loop-f.invariant.2,
  c.loop-f.invariant.3,
  c.loop-f.invariant.4,
  search rules,
  search rules,
)

pub returns : goal.returns
returns c = lower_done _ _ _ _ _ _ _ _ c.loop-f.invariant.0 (omega arith)
