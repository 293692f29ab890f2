use mathlib.Core.Path.{◌≡◌}
use Prim.Native.Nat.{◌≤◌}
use lib.ListN.{length, drop}
use Rattle.redo.specs.Entry.{changes}
use Rattle.redo.proofs.entry.count_changed.Given as goal

abbrev pub invariant-loop-p : goal.invariant-loop-p
invariant-loop-p l = (l.k ≤ l.p) × (l.k ≡ length (changes (drop l.home l.image) l.space l.p))
