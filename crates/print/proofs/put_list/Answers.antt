use native.Mathlib.Omega.{arith}
use Prim.Native.Nat.{◌/◌}
use lib.ListN.{length}
use Rattle.print.specs.PrintLaws.{head_long, record_long, listed_turn, listed_end}
use Rattle.print.proofs.put_list.Goals as goal

pub put_record-at-requires : goal.put_record-at-requires
put_record-at-requires c = omega (arith, c.put_head-at.ensures.1, head_long c.args.tag (length c.args.list.now / 8) (omega arith) (omega arith))

pub loop-i-preserved : goal.loop-i-preserved
loop-i-preserved c =
    let r = c.record_at.result in
    let e = c.record_at.ensures in
    let w = c.put_record-at.ensures in
    listed_turn _ _ _ _ _ _ _ _ c.loop-i-test.true c.loop-i.invariant (rw e at w) (rw e at (record_long r (omega arith) (omega arith) (omega arith) (omega arith)))

pub returns : goal.returns
returns c =
    let h = c.put_head-at.ensures in
    let r = listed_end _ _ _ _ _ _ _ _ c.loop-i-test.false c.loop-i.invariant h.0 h.1 in
    (r.0, r.1, omega (arith, h.1, c.loop-i.invariant.room, c.loop-i.invariant.within, head_long c.args.tag (length c.args.list.now / 8) (omega arith) (omega arith)))
