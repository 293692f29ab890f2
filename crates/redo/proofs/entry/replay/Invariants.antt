use Prim.Native.Nat.{◌+◌, ◌*◌, ◌-◌, ◌≤◌}
use lib.ListN.{length}
use Rattle.wire.specs.All.{All}
use Rattle.redo.specs.Entry.{entries, replay}
use Rattle.redo.specs.Stage.{Makes}
use Rattle.redo.proofs.entry.replay.Given as goal

abbrev pub invariant-loop-j : goal.invariant-loop-j
invariant-loop-j l = All (λ e. l.home + 64 * e.page + 64 ≤ length l.initial.image) (entries l.initial.image l.j (l.k - l.j)) × Makes l.left (replay l.home (entries l.initial.image 0 l.j)) l.initial.image l.made l.image
