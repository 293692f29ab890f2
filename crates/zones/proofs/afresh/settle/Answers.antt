use Rattle.std.proofs.Common.{◌∙◌}
use Rattle.zones.specs.AfreshCode.{settled_placed, settled_able, settled-laid}
use Rattle.zones.proofs.afresh.settle.Goals as goal

pub returns-then-place : goal.returns-then-place
returns-then-place c =
    let t = settled_placed c.args.home.now c.args.tag c.args.list.now _ _ c.place.ensures.0 c.place.ensures.1 c.if-place.true in
    (c.if-place.true ∙ t.0, t.1)

pub lay_afresh-requires : goal.lay_afresh-requires
lay_afresh-requires c = settled_able c.args.home.now c.args.tag c.args.list.now _ _ c.place.ensures.0 c.place.ensures.1 c.if-place.false c.requires

pub returns-else-place : goal.returns-else-place
returns-else-place c = settled-laid c.args.home.now c.args.tag c.args.list.now _ _ c.place.ensures.0 c.place.ensures.1 c.if-place.false _ _ c.lay_afresh.ensures.0 c.lay_afresh.ensures.1
