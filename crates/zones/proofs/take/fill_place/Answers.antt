use mathlib.Core.Path.{sym, ◌∙◌}
use native.Mathlib.Omega.{arith}
use Rattle.zones.specs.OutLaws.{filled_here, filled-other}
use Rattle.zones.proofs.take.fill_place.Goals as goal

pub returns-then-p-last : goal.returns-then-p-last
returns-then-p-last c = c.move_block.ensures ∙ sym (filled-other _ _ _ _ _ c.if-p-last.true)

pub returns-else-p-last : goal.returns-else-p-last
returns-else-p-last c = rw (c.fill.ensures, c.cells.ensures.0) (sym (filled_here _ _ _ _ _ (omega arith)))
