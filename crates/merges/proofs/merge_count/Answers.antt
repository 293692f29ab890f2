use mathlib.Core.Path.{ap}
use native.Mathlib.Omega.{arith}
use lib.ListN.{length}
use Rattle.merges.specs.LoopLaws.{merge_few}
use Rattle.merges.proofs.merge_count.Goals as goal

pub overflow_add-k : goal.overflow_add-k
overflow_add-k c =
    let e = ap length c.in-Some.ensures in
    omega (arith, merge_few c.args.m c.args.a.now c.args.b.now)
