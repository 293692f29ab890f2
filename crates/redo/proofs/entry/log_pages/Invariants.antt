use mathlib.Core.Path.{◌≡◌}
use Prim.Native.Nat.{◌≤◌}
use lib.ListN.{length, drop}
use Rattle.redo.specs.Entry.{changes, logged}
use Rattle.redo.specs.Stage.{Makes}
use Rattle.redo.proofs.entry.log_pages.Given as goal

abbrev pub invariant-loop-p : goal.invariant-loop-p
invariant-loop-p l = (l.k ≤ l.p) × (l.k ≡ length (changes (drop l.home l.initial.image) l.space l.p)) × (drop l.home l.image ≡ drop l.home l.initial.image) × Makes l.left (logged 0 (changes (drop l.home l.initial.image) l.space l.p)) l.initial.image l.made l.image
