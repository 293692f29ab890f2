use mathlib.Core.Path.{◌≡◌}
use Prim.Native.Nat.{◌+◌}
use lib.ListN.{length}
use Rattle.records.specs.Records.{decode}
use Rattle.merges.specs.Merging.{merge}
use Rattle.merges.specs.LoopLaws.{left, Completes}
use Rattle.merges.proofs.merge_into.Given as goal

abbrev pub invariant-loop-r : goal.invariant-loop-r
invariant-loop-r l = record {
  count : l.k + length (left l.m l.lists.first.now l.lists.second.now) ≡ length (merge l.m (decode l.a) (decode l.b));
  written : Completes l.initial.out l.out l.k (left l.m l.lists.first.now l.lists.second.now) (merge l.m (decode l.a) (decode l.b));
  same : length l.out ≡ length l.initial.out;
}

abbrev pub decreases-loop-r : goal.decreases-loop-r
decreases-loop-r l = length (left l.m l.lists.first.now l.lists.second.now)
