use mathlib.Core.Path.{refl}
use Rattle.edits.specs.Edits.{full_of}
use Rattle.edits.proofs.Terminal.full.Goals as goal

pub returns-in-Desk : goal.returns-in-Desk
unfolding full_of
returns-in-Desk c = rw c.in-Desk.is refl

pub returns-in-Pit : goal.returns-in-Pit
unfolding full_of
returns-in-Pit c = rw c.in-Pit.is refl
