use Rattle.std.proofs.Common.{Ok, Err}
use mathlib.Core.Path.{sym, ◌∙◌}
use Rattle.home.specs.Lookup.{slot_block}
use Rattle.home.specs.LookupLoopLaws.{sound_ordered}
use Rattle.home.specs.TagBlockLaws.{slot_under, slot_block_lem}
use Rattle.home.proofs.lookup.block_of.Goals as goal

pub find-requires : goal.find-requires
find-requires c = sound_ordered c.args.home.now c.requires

pub block_at-requires : goal.block_at-requires
block_at-requires c =
    let a = c.args in
    (c.requires, slot_under a.home.now a.tag c.in-Ok.i c.requires (sym c.find.ensures ∙ c.in-Ok.is))

pub returns-in-Ok : goal.returns-in-Ok
returns-in-Ok c =
    let a = c.args in
    c.block_at.ensures ∙ slot_block_lem a.home.now a.tag (Ok c.in-Ok.i) (sym c.find.ensures ∙ c.in-Ok.is)

pub returns-in-Err : goal.returns-in-Err
unfolding slot_block
returns-in-Err c =
    let a = c.args in
    slot_block_lem a.home.now a.tag (Err c.in-Err.field-0) (sym c.find.ensures ∙ c.in-Err.is)
