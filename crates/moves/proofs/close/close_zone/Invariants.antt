use mathlib.Core.Path.{◌≡◌}
use Prim.Native.Nat.{◌+◌, ◌*◌, ◌≤◌, ◌<◌}
use lib.ListN.{length}
use Rattle.moves.specs.CloseCode.{Lowering}
use Rattle.moves.proofs.close.close_zone.Given as goal

abbrev pub invariant-loop-f : goal.invariant-loop-f
invariant-loop-f l = Lowering l.step l.initial.home l.home l.c l.e l.f l.n l.k × (l.f + l.n * l.k < 4294967296) × (0 < l.k) × (l.k ≤ 990) × (l.e ≤ 8192) × (1664 ≤ length l.home) × (length l.home ≡ length l.initial.home)

abbrev pub decreases-loop-f : goal.decreases-loop-f
decreases-loop-f l = l.f
