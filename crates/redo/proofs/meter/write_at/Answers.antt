use mathlib.Core.Path.{refl}
use native.Mathlib.Omega.{arith}
use Prim.Native.Nat.{◌+◌}
use lib.ListN.{length}
use Rattle.redo.proofs.Part.{stage_part}
use Rattle.redo.proofs.meter.write_at.Goals as goal

pub returns : goal.returns
returns c =
    let a = c.args in
    stage_part _ _ a.at (a.at + length a.src.now) a.src.now a.image.now _ refl (omega arith) c.write_run.ensures
