use Rattle.std.proofs.Common.{◌*◌, ◌∙◌, refl, ap, arith, length}
use Rattle.wire.specs.BytesLaws.{length_part}
use Rattle.redo.specs.Stage.{stage_next}
use Rattle.redo.specs.LoopLaws.{logged-one}
use Rattle.redo.proofs.entry.log_entry.Goals as goal

pub returns : goal.returns
returns c =
    let a = c.args in
    logged-one a.at a.p _ _ c.bytes16.ensures c.write_at-made.ensures (stage_next a.left c.write_at-made.result refl (rw c.page_at.ensures at c.write_at.ensures))

pub write_at-requires : goal.write_at-requires
write_at-requires c =
    let a = c.args in
    let long = ap length c.page_at.ensures ∙ length_part a.space.now (64 * a.p) 64 (omega arith) in
    omega arith
