use native.Mathlib.Omega.{arith}
use Rattle.layout.specs.CapacitiesLaws.{cells_is}
use Rattle.layout.proofs.classes.cells.Goals as goal

pub returns : goal.returns
returns c = let e = cells_is c.args.step c.args.c in (omega arith, omega arith, omega arith)
