use Rattle.std.proofs.Common.{◌≡◌, ◌+◌, ◌-◌, length, take, drop, sym, ◌∙◌, arith, append_assoc, length-drop}
use Rattle.std.proofs.lemmas.List.{length-take-le}
use Rattle.wire.specs.Bytes.{part}
use Rattle.wire.specs.BytesLaws.{over_is}
use Rattle.wire.proofs.copy_within.Goals as goal

pub returns : goal.returns
unfolding part
returns c =
    let s = c.args.s.now in
    let n = c.args.n in
    let at : c.args.from + n - c.args.from ≡ n = omega arith in
    let long : length (take n (drop c.args.from s)) ≡ n = length-take-le n (drop c.args.from s) (omega (arith, length-drop c.args.from s)) in
    (rw at at c.copy_within.ensures.after) ∙ append_assoc (take c.args.to s) (take n (drop c.args.from s)) (drop (c.args.to + n) s) ∙ sym (rw long at (over_is s c.args.to (take n (drop c.args.from s)) (omega arith)))
