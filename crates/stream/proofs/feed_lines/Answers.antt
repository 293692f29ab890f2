use Rattle.std.proofs.Common.{arith}
use Rattle.stream.specs.LoopLaws.{feeds_start, feeds_rest}
use Rattle.stream.proofs.feed_lines.Goals as goal

pub loop-fed-init : goal.loop-fed-init
loop-fed-init c = record { feeds = feeds_start _ _ _ _ _ _; held_bound = c.requires.0; room = c.requires.1 }

pub loop-fed-preserved : goal.loop-fed-preserved
loop-fed-preserved c =
    let f = c.step-f.ensures in record {
      feeds = feeds_rest _ _ _ _ _ _ _ _ _ _ _ _ _ _ _ c.loop-fed.invariant.feeds (omega arith) (omega (arith, f.held_bound.1)) f.feeds;
      held_bound = f.held_bound.0;
      room = c.loop-fed.invariant.room;
    }
