use mathlib.Core.Path.{refl}
use Rattle.edits.specs.Edits.{limit_of}
use Rattle.edits.proofs.Terminal.limit.Goals as goal

pub returns-in-Desk : goal.returns-in-Desk
unfolding limit_of
returns-in-Desk c = rw c.in-Desk.is refl

pub returns-in-Pit : goal.returns-in-Pit
unfolding limit_of
returns-in-Pit c = rw c.in-Pit.is refl
