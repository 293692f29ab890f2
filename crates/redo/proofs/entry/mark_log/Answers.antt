use mathlib.Core.Path.{refl}
use Rattle.redo.specs.Stage.{stage_more, stage_next}
use Rattle.redo.proofs.entry.mark_log.Goals as goal

pub returns : goal.returns
returns c = stage_more (rw c.bytes16.ensures at c.write_at-made.ensures) (stage_next c.args.left c.write_at-made.result refl c.write_at.ensures)
