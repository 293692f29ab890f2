use native.Mathlib.Omega.{arith}
use mathlib.Core.Path.{refl}
use Rattle.print.specs.PrintLaws.{ok_line_lem}
use Rattle.print.proofs.put_ok.Goals as goal

pub returns : goal.returns
returns c = rw ok_line_lem (c.copy.ensures, refl, omega arith)
