use Rattle.std.proofs.Common.{◌≡◌, ◌-◌}
use Rattle.sound.specs.Checks.{tags_fine}
use Rattle.sound.proofs.Test.tags_fine.Given as goal

abbrev pub invariant-loop-i : goal.invariant-loop-i
invariant-loop-i l = let t = l.self in tags_fine t.step t.home.now l.low l.i (l.n - l.i) ≡ tags_fine t.step t.home.now 0 0 l.n
