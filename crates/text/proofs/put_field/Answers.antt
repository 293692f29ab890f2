use native.Mathlib.Omega.{arith}
use Rattle.text.specs.WriteLaws.{field_long, wrote_field}
use borrow.Author.Rules.{rules}
use Rattle.text.proofs.put_field.Goals as goal

pub put_number-next-requires : goal.put_number-next-requires
put_number-next-requires c = omega (arith, field_long c.args.v c.args.end)

pub bounds-out-next : goal.bounds-out-next
bounds-out-next c = omega (arith, field_long c.args.v c.args.end)

pub overflow_add-result : goal.overflow_add-result
overflow_add-result c = let e = field_long c.args.v c.args.end in search rules

pub returns : goal.returns
returns c = wrote_field _ _ _ _ _ _ c.put_number-next.ensures
