use Rattle.std.proofs.Common.{refl, arith, length-take-le}
use Rattle.serve.specs.Served.{Passes, Ends}
use Rattle.serve.specs.ServedLaws.{ends_none, ends_line}
use Rattle.serve.proofs.end.Goals as goal

pub returns-then-kept-eq0 : goal.returns-then-kept-eq0
returns-then-kept-eq0 g c = ends_none _ _ _ (omega (arith, length-take-le c.args.kept.now.held c.args.kept.now.bytes (omega arith)))

pub returns-in-Ok : goal.returns-in-Ok
unfolding Passes
returns-in-Ok g c = ends_line _ _ _ _ _ (omega (arith, length-take-le c.args.kept.now.held c.args.kept.now.bytes (omega arith))) c.in-Ok.ensures.passes

pub returns-in-Err : goal.returns-in-Err
unfolding Passes Ends
returns-in-Err g c = (refl, c.in-Err.ensures.passes)
