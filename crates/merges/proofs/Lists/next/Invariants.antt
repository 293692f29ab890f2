use mathlib.Core.Path.{◌≡◌}
use Prim.Native.Nat.{◌+◌}
use lib.ListN.{length}
use Rattle.merges.specs.LoopLaws.{left}
use Rattle.merges.proofs.Lists.next.Given as goal

abbrev pub invariant-loop-side : goal.invariant-loop-side
invariant-loop-side l = left l.m l.self.first.now l.self.second.now ≡ left l.m l.initial.self.first.now l.initial.self.second.now

abbrev pub decreases-loop-side : goal.decreases-loop-side
decreases-loop-side l = length l.self.first.now + length l.self.second.now
