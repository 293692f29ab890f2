use mathlib.Core.Path.{ap, ◌∙◌}
use mathlib.Core.List.{List}
use Prim.Native.Nat.{ℕ, ◌+◌, ◌*◌}
use native.Mathlib.Omega.{arith}
use Rattle.wire.specs.BytesLaws.{length_part, part_of}
use Rattle.wire.specs.Bytes.{part}
use Rattle.wire.proofs.Part.{put-over}
use Rattle.records.specs.Records.{amended}
use Rattle.records.specs.Edits.{length-amended}
use Rattle.lists.specs.Lists.{set_here}
use Rattle.home.specs.Bytes.{list_at}
use Rattle.lists.proofs.here.set_here.Goals as goal

pub returns : goal.returns
unfolding set_here
returns c =
    let a = c.args in
    let h : List ℕ = a.home.now in
    let l : List ℕ = part h (list_at a.block.cell) (8 * a.block.count) in
    let came = (rw c.records.ensures at c.set_minutes.ensures) ∙ ap (λ (x : List ℕ). amended x a.j a.minutes) (part_of h (list_at a.block.cell) (8 * a.block.count)) in
    rw (came, c.records.ensures)
    (put-over (list_at a.block.cell) (list_at a.block.cell + 8 * a.block.count) h (amended l a.j a.minutes)
    (omega (arith, length-amended l a.j a.minutes, length_part h (list_at a.block.cell) (8 * a.block.count) (omega arith))) (omega arith))
