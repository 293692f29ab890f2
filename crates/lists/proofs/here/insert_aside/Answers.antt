use native.Mathlib.Omega.{arith}
use Rattle.lists.specs.ListsLaws.{inserted_grown}
use Rattle.lists.proofs.here.insert_aside.Goals as goal

pub returns : goal.returns
returns c =
    let a = c.args in
    rw (c.insert.ensures, c.copy_from_slice.ensures.after, c.records.ensures) (inserted_grown a.home.now a.block.cell a.block.count a.j a.r a.out.now (omega arith) (omega arith) (omega arith))
