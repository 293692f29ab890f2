use native.Mathlib.Omega.{arith}
use Rattle.text.specs.WriteLaws.{field_ten}
use Rattle.print.specs.PrintLaws.{wrote_head}
use Rattle.print.proofs.put_head.Goals as goal

pub put_field-at-requires : goal.put_field-at-requires
put_field-at-requires c = omega (arith, field_ten c.args.tag 44 (omega arith))

pub put_field-requires : goal.put_field-requires
put_field-requires c = omega (arith, field_ten c.args.tag 44 (omega arith), field_ten c.args.count 10 (omega arith))

pub returns : goal.returns
returns c = wrote_head _ _ _ _ _ _ _ _ c.copy.ensures c.put_field-at.ensures c.put_field.ensures
