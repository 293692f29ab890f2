use mathlib.Core.Path.{sym, ap, ◌∙◌}
use native.Mathlib.Omega.{arith}
use Prim.Native.Nat.{ℕ}
use lib.ListN.{replicate, length-replicate}
use Rattle.wire.specs.Bytes.{over}
use Rattle.std.proofs.lemmas.List.{take-replicate}
use Rattle.redo.specs.Stage.{stage_run}
use Rattle.redo.proofs.meter.write_zeros.Goals as goal

pub returns : goal.returns
returns c =
    let a = c.args in
    let n = c.min-n.result in
    let all = a.count in
    stage_run a.left 0 n a.at (replicate all 0) a.image.now _ (omega (arith, length-replicate {A = ℕ} all 0)) (omega arith, omega arith)
    (c.fill.ensures ∙ ap (over a.image.now a.at) (sym (take-replicate n all 0 (omega arith))))
