use native.Mathlib.Omega.{arith}
use mathlib.Core.Path.{refl}
use Rattle.print.specs.PrintLaws.{bad_line_lem}
use Rattle.print.proofs.put_bad.Goals as goal

pub returns : goal.returns
returns c = rw bad_line_lem (c.copy.ensures, refl, omega arith)
