use Rattle.std.proofs.Common.{length, ◌-◌, ◌≤◌, take}
use Rattle.stream.specs.Stream.{state}
use Rattle.stream.specs.Feeds.{Feeds}
use Rattle.stream.proofs.feed_lines.Given as goal

abbrev pub invariant-loop-fed : goal.invariant-loop-fed
invariant-loop-fed l = record {
  feeds : Feeds (state (take l.held l.initial.kept) l.initial.image l.initial.space) l.piece l.initial.out l.fed l.kept l.image l.space l.out;
  held_bound : l.fed.held ≤ 81;
  room : 81 ≤ length l.initial.kept;
}

abbrev pub decreases-loop-fed : goal.decreases-loop-fed
decreases-loop-fed l = length l.piece - l.fed.used
