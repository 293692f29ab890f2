use mathlib.Core.Path.{◌≡◌}
use Prim.Native.Nat.{◌-◌}
use Rattle.redo.specs.Entry.{entries, rising}
use Rattle.redo.proofs.entry.rising.Given as goal

abbrev pub invariant-loop-j : goal.invariant-loop-j
invariant-loop-j l = (rising 0 l.limit (entries l.image 0 l.k) ≡ rising l.low l.limit (entries l.image l.j (l.k - l.j)))
