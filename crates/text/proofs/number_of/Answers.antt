use Rattle.std.proofs.Common.{◌∙◌, arith, ne_eqb, get_or}
use Rattle.text.specs.ReadLaws.{turn_next, turn_out, turn_over, turn_last, unled_empty, unled_zero, leads_short, leads_long}
use Rattle.text.proofs.number_of.Goals as goal
use Rattle.text.proofs.number_of.Goals.{in_default, in_default-2}

pub returns-in-empty : goal.returns-in-empty
returns-in-empty c = unled_empty _ _ (omega arith)

pub returns-in-empty-2 : goal.returns-in-empty-2
returns-in-empty-2 c = unled_zero _ _ (omega arith) (omega arith)

pub returns-then-not-is_ascii_digit : goal.returns-then-not-is_ascii_digit
returns-then-not-is_ascii_digit c =
    let l = c.loop-x in
    turn_out _ _ l.v l.x-index (omega arith) c.if-not-is_ascii_digit.ensures.cases l.invariant

pub returns-then-from-v : goal.returns-then-from-v
returns-then-from-v c =
    let l = c.loop-x in
    let d = c.if-not-is_ascii_digit.ensures.cases in
    turn_over _ _ l.v l.x-index (omega arith) d.0 d.1 (omega arith) l.invariant

pub loop-x-preserved : goal.loop-x-preserved
loop-x-preserved c =
    let l = c.loop-x in
    let d = c.if-not-is_ascii_digit.ensures.cases in
    rw c.from.ensures (turn_next _ _ l.v l.x-index (omega arith) d.0 d.1 (omega arith) l.invariant)

pub returns : goal.returns
returns c =
    let l = c.loop-x in
    turn_last _ _ l.v l.x-index (omega arith) (elim c.if-s-lt2.branch [
      | in_default w ↦ leads_short _ (omega arith)
      | in_default-2 w ↦ leads_long _ (omega arith) ∙ rw (ne_eqb (get_or c.args.s.now 0 0) 48 (λ e. omega arith))
    ]) l.invariant
