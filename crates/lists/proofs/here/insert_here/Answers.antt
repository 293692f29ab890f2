use mathlib.Core.Path.{ap, ◌∙◌}
use mathlib.Core.List.{List}
use Prim.Native.Nat.{ℕ, ◌+◌, ◌*◌}
use native.Mathlib.Omega.{arith}
use Rattle.wire.specs.Bytes.{over, bytes16}
use Rattle.wire.proofs.Part.{put-over}
use Rattle.home.specs.Bytes.{cell_at, list_at}
use Rattle.lists.specs.Lists.{grown, relisted, inserted_here}
use Rattle.lists.specs.ListsLaws.{length-grown, inserted-lent}
use Rattle.lists.proofs.here.insert_here.Goals as goal

pub returns : goal.returns
unfolding inserted_here relisted
returns c =
    let a = c.args in
    let h : List ℕ = a.home.now in
    let came = (rw c.records.ensures at c.insert.ensures) ∙ inserted-lent h a.block.cell a.block.count a.j a.r (omega arith) (omega arith) in
    let put = put-over (list_at a.block.cell) (list_at a.block.cell + 8 * (a.block.count + 1)) h (grown h a.block.cell a.block.count a.j a.r)
    (omega (arith, length-grown h a.block.cell a.block.count a.j a.r (omega arith) (omega arith))) (omega arith) in
    c.put16.ensures ∙ rw (came, c.records.ensures) (ap (λ (x : List ℕ). over x (cell_at a.block.cell + 4) (bytes16 (a.block.count + 1))) put)
