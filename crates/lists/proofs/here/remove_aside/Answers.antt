use native.Mathlib.Omega.{arith}
use Rattle.wire.specs.Bytes.{part}
use Rattle.lists.specs.ListsLaws.{copied_shrunk}
use Rattle.lists.proofs.here.remove_aside.Goals as goal

pub returns : goal.returns
unfolding part
returns c =
    let a = c.args in
    rw (c.copy_from_slice-2.ensures.after, c.copy_from_slice.ensures.after, c.records.ensures) (copied_shrunk a.home.now a.block.cell a.block.count a.j a.out.now (omega arith) (omega arith) (omega arith))
