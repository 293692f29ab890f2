use Rattle.std.proofs.Common.{sym, ◌∙◌, arith, eqb}
use Rattle.wire.specs.BytesLaws.{blank_step, blank_end}
use Rattle.wire.proofs.all_zero.Goals as goal

pub loop-x-preserved : goal.loop-x-preserved
loop-x-preserved c = let l = c.loop-x in blank_step l.seen c.args.s.now l.x-index (omega arith) ∙ l.invariant

pub returns : goal.returns
returns c = let l = c.loop-x in sym (blank_end (eqb l.seen 0) c.args.s.now l.x-index (omega arith)) ∙ l.invariant
