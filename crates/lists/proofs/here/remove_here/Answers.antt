use mathlib.Core.Path.{ap, ◌∙◌}
use mathlib.Core.List.{List, ◌++◌}
use Prim.Native.Nat.{ℕ, ◌+◌, ◌*◌, ◌-◌}
use native.Mathlib.Omega.{arith}
use lib.ListN.{replicate, length-append}
use Rattle.wire.specs.Bytes.{over, bytes16}
use Rattle.wire.proofs.Part.{put-over}
use Rattle.home.specs.Bytes.{cell_at, list_at}
use Rattle.lists.specs.Lists.{shrunk, relisted, removed_here}
use Rattle.lists.specs.ListsLaws.{length-shrunk, removed-lent}
use Rattle.lists.proofs.here.remove_here.Goals as goal

pub returns : goal.returns
unfolding removed_here relisted
returns c =
    let a = c.args in
    let h : List ℕ = a.home.now in
    let l : List ℕ = shrunk h a.block.cell a.block.count a.j in
    let came = (rw c.records.ensures at c.remove.ensures) ∙ removed-lent h a.block.cell a.block.count a.j (omega arith) (omega arith) in
    let put = put-over (list_at a.block.cell) (list_at a.block.cell + 8 * a.block.count) h (l ++ replicate 8 0)
    (omega (arith, length-append l (replicate 8 0), length-shrunk h a.block.cell a.block.count a.j (omega arith) (omega arith))) (omega arith) in
    c.put16.ensures ∙ rw (came, c.records.ensures) (ap (λ (x : List ℕ). over x (cell_at a.block.cell + 4) (bytes16 (a.block.count - 1))) put)
