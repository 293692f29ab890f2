use native.Mathlib.Omega.{arith}
use Rattle.text.specs.WriteLaws.{field_three}
use Rattle.print.specs.PrintLaws.{wrote_no}
use Rattle.print.proofs.put_no.Goals as goal

pub put_field-requires : goal.put_field-requires
put_field-requires c = omega (arith, field_three c.args.n 10 (omega arith))

pub returns : goal.returns
returns c =
    let r = wrote_no _ _ _ _ _ c.copy.ensures c.put_field.ensures in
    (r.0, r.1, omega (arith, c.put_field.ensures.1, field_three c.args.n 10 (omega arith)))
