use Rattle.stream.specs.LoopLaws.{line_kept}
use Rattle.stream.proofs.answer_kept.Goals as goal

pub returns-clause-out_after : goal.returns-clause-out_after
returns-clause-out_after c = rw (line_kept c.args.kept.now _ c.args.rest.now c.args.held _ c.keep-end.ensures.0) at c.answer_line-2.ensures.out_after

pub returns-clause-image_after : goal.returns-clause-image_after
returns-clause-image_after c = rw (line_kept c.args.kept.now _ c.args.rest.now c.args.held _ c.keep-end.ensures.0) at c.answer_line-2.ensures.image_after
