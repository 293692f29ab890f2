use native.Mathlib.Nat.{sub-zero}
use mathlib.Core.Path.{refl}
use Rattle.redo.specs.Stores.{recover_stores, clear_mark}
use Rattle.redo.specs.Stage.{stage_stopped, stage_more, stage_next}
use Rattle.redo.proofs.entry.replay_log.Goals as goal

pub returns-then-left-eq0 : goal.returns-then-left-eq0
returns-then-left-eq0 c = rw sub-zero (stage_stopped _ _ _ _ c.if-left-eq0.true)

pub returns : goal.returns
unfolding recover_stores clear_mark
returns c = stage_more c.replay-made.ensures (stage_next c.args.left c.replay-made.result refl c.write_at.ensures)
