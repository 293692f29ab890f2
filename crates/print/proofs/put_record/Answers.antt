use native.Mathlib.Omega.{arith}
use Rattle.text.specs.WriteLaws.{field_three, field_five, field_ten}
use Rattle.print.specs.PrintLaws.{wrote_record}
use Rattle.print.proofs.put_record.Goals as goal

pub put_field-second-requires : goal.put_field-second-requires
put_field-second-requires c =
    let r = c.args.r in
    omega (arith, field_three r.level 44 (omega arith), field_three r.minutes 44 (omega arith))

pub put_field-phone-requires : goal.put_field-phone-requires
put_field-phone-requires c =
    let r = c.args.r in
    omega (arith, field_three r.level 44 (omega arith), field_three r.minutes 44 (omega arith), field_ten r.second 44 (omega arith))

pub put_field-minutes-requires : goal.put_field-minutes-requires
put_field-minutes-requires c =
    let r = c.args.r in
    omega (arith, field_three r.level 44 (omega arith), field_three r.minutes 44 (omega arith), field_ten r.second 44 (omega arith), field_five r.phone 44 (omega arith))

pub put_field-requires : goal.put_field-requires
put_field-requires c =
    let r = c.args.r in
    omega (arith, field_three r.level 44 (omega arith), field_ten r.second 44 (omega arith), field_five r.phone 44 (omega arith), field_three r.minutes 44 (omega arith), field_three r.minutes 10 (omega arith))

pub returns : goal.returns
returns c = wrote_record _ _ _ _ _ _ c.args.r _ _ _ _ c.put_field-second.ensures c.put_field-phone.ensures c.put_field-minutes.ensures c.put_field.ensures
