use native.Mathlib.Omega.{arith}
use Rattle.text.specs.WriteLaws.{digits-some, room_tenth, wrote_one, wrote_last}
use Rattle.text.proofs.+put_number.Goals as goal

pub bounds-out-at : goal.bounds-out-at
bounds-out-at t c = omega (arith, digits-some c.args.v)

pub returns-then-v-lt10 : goal.returns-then-v-lt10
returns-then-v-lt10 t c = wrote_one _ _ _ c.if-v-lt10.true

pub put_number-end-requires : goal.put_number-end-requires
put_number-end-requires t c =
    let e = room_tenth c.args.v c.if-v-lt10.false (omega arith) in
    (omega (arith, c.decreases), omega arith)

pub bounds-out-end : goal.bounds-out-end
bounds-out-end t c =
    let e = room_tenth c.args.v c.if-v-lt10.false (omega arith) in
    omega arith

pub overflow_add-result-2 : goal.overflow_add-result-2
overflow_add-result-2 t c =
    let e = room_tenth c.args.v c.if-v-lt10.false (omega arith) in
    omega arith

pub returns : goal.returns
returns t c = wrote_last _ _ _ _ _ c.if-v-lt10.false (omega arith) c.put_number-end.ensures
