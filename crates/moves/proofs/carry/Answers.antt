use native.Mathlib.Omega.{arith}
use Rattle.moves.specs.MovesLaws.{carried-up, carried-down}
use Rattle.moves.proofs.carry.Goals as goal

pub returns-then-from-to : goal.returns-then-from-to
returns-then-from-to c = rw (c.fill.ensures, c.copy_within.ensures, c.min-k.ensures) (carried-up _ _ _ _ (omega arith) (omega arith))

pub returns-else-from-to : goal.returns-else-from-to
returns-else-from-to c = rw (c.fill-else-from-to.ensures, c.copy_within.ensures, c.min-k-else-from-to.ensures) (carried-down _ _ _ _ (omega arith) (omega arith))
