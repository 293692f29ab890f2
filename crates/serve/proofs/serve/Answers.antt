use Rattle.std.proofs.Common.{◌≤◌, length, sym, arith, length-take-le}
use Rattle.std.proofs.lemmas.Grind.{common_steps}
use Rattle.serve.specs.Served.{Passes, Serves}
use Rattle.serve.specs.ServedLaws.{serving_none, serving_on, unwritten, full_read, full_sent, serves_end}
use Rattle.serve.proofs.serve.Goals as goal

pub loop-read-init : goal.loop-read-init
loop-read-init g c = serving_none _ _

pub returns-then-n-eq0 : goal.returns-then-n-eq0
returns-then-n-eq0 g c = serves_end _ _ _ _ _ c.end.result _ _ c.loop-read.invariant c.end.ensures

pub returns-in_default : goal.returns-in_default
unfolding Passes Serves
returns-in_default g c =
    let n : c.unwrap_or-n.result ≤ length c.read.new.buf = grind (arith, common_steps) in
    unwritten _ _ _ _ _ _ _ _ _ c.loop-read.invariant c.in_default.ensures.passes (sym (length-take-le _ _ n))

pub loop-read-preserved : goal.loop-read-preserved
unfolding Passes
loop-read-preserved g c =
    let n : c.unwrap_or-n.result ≤ length c.read.new.buf = grind (arith, common_steps) in
    serving_on _ _ _ _ _ _ _ _ _ c.loop-read.invariant c.in-Ok.ensures.passes (sym (length-take-le _ _ n))

pub returns-else-sent-lt9223372036854775808 : goal.returns-else-sent-lt9223372036854775808
unfolding Serves
returns-else-sent-lt9223372036854775808 g c = full_sent _ _ _ _ _ _ _ c.loop-read.invariant c.if-sent-lt9223372036854775808.false

pub returns-after-loop-read : goal.returns-after-loop-read
unfolding Serves
returns-after-loop-read g c = full_read _ _ _ _ _ _ _ c.loop-read.invariant (omega arith)
