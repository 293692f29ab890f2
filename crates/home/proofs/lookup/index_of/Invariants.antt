use Prim.Native.Nat.{◌-◌, ◌≤◌}
use Rattle.wire.specs.Bytes.{get16}
use Rattle.home.specs.Lookup.{index_of}
use Rattle.home.proofs.lookup.index_of.Given as goal

abbrev pub invariant-loop-low : goal.invariant-loop-low
invariant-loop-low l = (l.low ≤ index_of l.home l.tag) × (index_of l.home l.tag ≤ l.high) × (l.high ≤ get16 l.home 0)

abbrev pub decreases-loop-low : goal.decreases-loop-low
decreases-loop-low l = l.high - l.low
