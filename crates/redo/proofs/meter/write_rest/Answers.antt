use mathlib.Core.Path.{refl}
use native.Mathlib.Omega.{arith}
use Prim.Native.Nat.{◌+◌, ◌-◌}
use lib.ListN.{length}
use Rattle.redo.specs.Stage.{stage_next, stage_but}
use Rattle.redo.proofs.meter.write_rest.Goals as goal

pub returns : goal.returns
returns c =
    let a = c.args in
    let n = a.left in
    let first = c.write_zeros-made.result in
    let second = c.write_at-made.result in
    stage_but a.at (a.p - a.at) a.v (length a.image.now - a.at) a.p (length a.image.now - (a.p + 1)) (omega arith) (omega arith)
    c.write_zeros-made.ensures (stage_next n first refl c.write_at-made.ensures) (stage_next n (first + second) refl c.write_zeros-made-2.ensures)
