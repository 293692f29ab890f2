use Rattle.std.proofs.Common.{◌≡◌, ◌+◌, ◌*◌, ◌-◌, ◌≤◌}
use Rattle.sound.specs.Checks.{zones_fine, many_in}
use Rattle.sound.proofs.Test.zones_fine.Given as goal

abbrev pub invariant-loop-c : goal.invariant-loop-c
invariant-loop-c l =
    let t = l.self in
    (l.e ≤ t.area)
    × (l.many ≤ 65536 * l.c)
    × (zones_fine t.step t.home.now t.area l.c l.e (30 - l.c) ≡ zones_fine t.step t.home.now t.area 0 0 30)
    × (l.many + many_in t.home.now l.c (30 - l.c) ≡ many_in t.home.now 0 30)
