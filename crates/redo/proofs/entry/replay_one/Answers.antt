use Rattle.std.proofs.Common.{◌∙◌, arith}
use Rattle.wire.specs.BytesLaws.{part_of}
use Rattle.redo.specs.Entry.{entry}
use Rattle.redo.specs.LoopLaws.{replayed_one}
use Rattle.redo.proofs.entry.replay_one.Goals as goal

pub write_at-requires : goal.write_at-requires
unfolding entry
write_at-requires c = omega (arith, (rw c.unwrap-bytes.ensures at c.try_into.ensures.1).long)

pub returns : goal.returns
returns c =
    let a = c.args in
    let bytes = rw c.unwrap-bytes.ensures at c.try_into.ensures.1 in
    replayed_one a.home a.j _ _ c.get16-p.ensures.value (bytes.same ∙ part_of a.image.now _ _) c.write_at.ensures
