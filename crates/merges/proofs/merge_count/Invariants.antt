use mathlib.Core.Path.{◌≡◌}
use Prim.Native.Nat.{◌+◌}
use lib.ListN.{length}
use Rattle.records.specs.Records.{decode}
use Rattle.merges.specs.Merging.{merge}
use Rattle.merges.specs.LoopLaws.{left}
use Rattle.merges.proofs.merge_count.Given as goal

abbrev pub invariant-loop-k : goal.invariant-loop-k
invariant-loop-k l = l.k + length (left l.m l.lists.first.now l.lists.second.now) ≡ length (merge l.m (decode l.a) (decode l.b))

abbrev pub decreases-loop-k : goal.decreases-loop-k
decreases-loop-k l = length (left l.m l.lists.first.now l.lists.second.now)
