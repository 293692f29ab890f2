use Rattle.std.proofs.Common.{arith}
use Rattle.stream.specs.LoopLaws.{feeds_kept, feeds_ended}
use Rattle.stream.proofs.step.Goals as goal

pub returns-in-None-clause-feeds : goal.returns-in-None-clause-feeds
returns-in-None-clause-feeds c =
    let a = c.args in feeds_kept a.kept.now a.image.now a.space.now a.piece.now a.out.now a.held (omega arith) (omega arith) _ _ (omega (arith, c.in-None.ensures)) c.keep.ensures.0

pub returns-in-Some-clause-feeds : goal.returns-in-Some-clause-feeds
returns-in-Some-clause-feeds c =
    let a = c.args in
    let e = c.answer_kept.ensures in
    feeds_ended a.kept.now a.image.now a.space.now a.piece.now a.out.now a.held (omega arith) (omega arith) _ _ _ _ _ _ (omega (arith, c.in-Some.ensures)) (omega (arith, c.in-Some.ensures)) e.out_after.0 e.out_after.1 e.image_after.0 e.image_after.1 (omega (arith, e.out_after.2))
