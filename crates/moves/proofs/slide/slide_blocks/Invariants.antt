use Rattle.std.proofs.Common.{◌-◌, ◌≤◌, ◌<◌, length}
use Rattle.home.specs.Bytes.{decode}
use Rattle.home.specs.Sound.{pages_of}
use Rattle.moves.specs.SlideCode.{Sliding}
use Rattle.moves.proofs.slide.slide_blocks.Given as goal

abbrev pub invariant-loop-j : goal.invariant-loop-j
invariant-loop-j l = record {
  down : l.to < l.f → Sliding l.step (pages_of l.initial.home) (decode l.initial.home) l.home l.c l.to l.to l.f l.j l.n l.k;
  up : l.f ≤ l.to → Sliding l.step (pages_of l.initial.home) (decode l.initial.home) l.home l.c l.to l.f l.to (l.n - l.j) l.n l.k;
  long : 1664 ≤ length l.home;
}
