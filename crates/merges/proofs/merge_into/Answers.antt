use mathlib.Core.Path.{ap, ◌∙◌}
use native.Mathlib.Omega.{arith}
use lib.ListN.{length}
use Rattle.wire.specs.BytesLaws.{length_over}
use Rattle.merges.specs.LoopLaws.{completes_turn, completes_end}
use Rattle.merges.proofs.merge_into.Goals as goal

pub loop-r-preserved : goal.loop-r-preserved
loop-r-preserved c =
    let l = c.loop-r in
    let e = c.in-Some.ensures in
    record {
      count = omega (arith, ap length e);
      written = rw c.store.ensures (completes_turn _ _ _ _ _ _ (rw e at l.invariant.written));
      same = ap length c.store.ensures ∙ length_over _ _ _ ∙ l.invariant.same;
    }

pub returns-clause-out_after : goal.returns-clause-out_after
returns-clause-out_after c = let e = c.in_default.ensures in completes_end _ _ _ _ (rw e at c.loop-r.invariant.written)
