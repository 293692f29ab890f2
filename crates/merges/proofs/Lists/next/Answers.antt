use mathlib.Core.Path.{sym, ◌∙◌}
use Rattle.merges.specs.LoopLaws.{left_end}
use Rattle.merges.proofs.Lists.next.Goals as goal

pub returns : goal.returns
returns c = let e = c.in_default.ensures in sym c.loop-side.invariant ∙ left_end _ _ _ e.0 e.1
