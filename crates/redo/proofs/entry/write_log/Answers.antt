use mathlib.Core.Path.{refl}
use Rattle.redo.specs.Stores.{log_stores}
use Rattle.redo.specs.Stage.{stage_more, stage_next}
use Rattle.redo.proofs.entry.write_log.Goals as goal

pub returns : goal.returns
unfolding log_stores
returns c = stage_more c.log_pages-made.ensures (stage_next c.args.left c.log_pages-made.result refl (rw c.requires.2 at c.mark_log.ensures))
