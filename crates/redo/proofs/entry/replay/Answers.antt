use mathlib.Core.Path.{refl}
use native.Mathlib.Omega.{arith}
use native.Mathlib.Nat.{sub-zero}
use Rattle.wire.specs.All.{all_head, all_tail}
use Rattle.redo.specs.Entry.{entries, replay}
use Rattle.redo.specs.EntryLaws.{entries_none, entries-first}
use Rattle.redo.specs.Stage.{stage_none, stage_next}
use Rattle.redo.specs.LoopLaws.{replayed_entry, replayed_more}
use Rattle.redo.proofs.entry.replay.Goals as goal

pub loop-j-init : goal.loop-j-init
unfolding replay
loop-j-init c = (rw sub-zero c.requires.1, rw (entries_none, sub-zero) (stage_none _ _ _))

pub replay_one-made-requires : goal.replay_one-made-requires
replay_one-made-requires c =
    let a = c.args in
    let l = c.loop-j in
    let first = all_head (rw (entries-first a.image.now l.j a.k (omega arith)) at l.invariant.0) in
    let same = replayed_entry a.home l.j (entries a.image.now 0 l.j) l.invariant.1 (omega arith) in
    (omega arith, rw same (omega (arith, first)))

pub loop-j-preserved : goal.loop-j-preserved
loop-j-preserved c =
    let a = c.args in
    let l = c.loop-j in (
      all_tail (rw (entries-first a.image.now l.j a.k (omega arith)) at l.invariant.0),
      replayed_more a.home l.j (omega arith) l.invariant.1 (stage_next a.left l.made refl c.replay_one-made.ensures),
    )
