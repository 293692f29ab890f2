use mathlib.Core.Path.{ap, ◌∙◌}
use mathlib.Core.List.{List}
use Prim.Native.Nat.{ℕ}
use Rattle.wire.specs.Bytes.{over, bytes16}
use Rattle.redo.specs.Image.{letters}
use Rattle.redo.specs.ImageLaws.{head_made}
use Rattle.redo.proofs.sizes.head_page.Goals as goal

pub returns : goal.returns
unfolding letters
returns c =
    let a = c.args in
    c.put16-2.ensures
    ∙ ap (λ (z : List ℕ). over z 6 (bytes16 a.pages)) (c.put16.ensures ∙ ap (λ (z : List ℕ). over z 4 (bytes16 a.capacity)) c.copy.ensures)
    ∙ head_made a.capacity a.pages
