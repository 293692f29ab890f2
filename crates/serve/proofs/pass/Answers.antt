use Rattle.std.proofs.Common.{◌+◌, refl, arith}
use Rattle.std.proofs.lemmas.Result.{err_from_is_err_and}
use Rattle.serve.specs.Served.{Passes}
use Rattle.serve.specs.ServedLaws.{taken_none, taken_turn, turn_uses, taken_whole, taken_begun}
use Rattle.serve.proofs.pass.Goals as goal

pub loop-from-init : goal.loop-from-init
loop-from-init g c = record { taken = taken_none _; within = omega arith; sent_bound = omega arith }

pub returns-in_err-sent-clause-passes : goal.returns-in_err-sent-clause-passes
unfolding Passes
returns-in_err-sent-clause-passes g c =
    let p = err_from_is_err_and c.from_residual.result c.from_residual.ensures.1 in
    rw p.1
    (taken_begun _ _ (c.loop-from.from + c.feed-fed.result.used) _ _ (taken_turn _ _ c.args.piece.now _ c.loop-from.from _ _ _ _ _ _ _ c.loop-from.invariant.taken c.feed-fed.ensures.feeds refl))

pub loop-from-smaller : goal.loop-from-smaller
loop-from-smaller g c =
    let f = c.feed-fed.ensures in
    let h = f.held_bound (omega arith, omega arith) in
    let u = turn_uses _ c.args.piece.now c.loop-from.out c.loop-from.from _ _ _ _ _ f.feeds h.1 (omega arith) (omega arith) in
    omega (arith, u.0)

pub loop-from-preserved : goal.loop-from-preserved
loop-from-preserved g c =
    let i = c.loop-from.invariant in
    let f = c.feed-fed.ensures in
    let h = f.held_bound (omega arith, omega arith) in
    let u = turn_uses _ c.args.piece.now c.loop-from.out c.loop-from.from _ _ _ _ _ f.feeds h.1 (omega arith) (omega arith) in record {
      taken = taken_turn _ _ c.args.piece.now _ c.loop-from.from _ _ _ _ _ _ _ i.taken f.feeds (omega (arith, c.in_ok-sent.ensures));
      within = omega (arith, u.1);
      sent_bound = omega (arith, u.0, f.feeds.fits, c.in_ok-sent.ensures);
    }

pub returns-clause-passes : goal.returns-clause-passes
unfolding Passes
returns-clause-passes g c = taken_whole _ _ c.args.piece.now c.loop-from.from _ (omega arith) c.loop-from.invariant.taken
