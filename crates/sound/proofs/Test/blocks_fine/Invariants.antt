use Rattle.std.proofs.Common.{◌≡◌, ◌+◌, ◌*◌, ◌-◌}
use Rattle.sound.specs.Checks.{blocks_fine}
use Rattle.sound.proofs.Test.blocks_fine.Given as goal

abbrev pub invariant-loop-i : goal.invariant-loop-i
invariant-loop-i l =
    let t = l.self in
    blocks_fine t.step t.home.now l.c (l.p + l.i * l.size) (l.n - l.i) ≡ blocks_fine t.step t.home.now l.c l.p l.n
