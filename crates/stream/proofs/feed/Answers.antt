use Rattle.stream.specs.LoopLaws.{feeds_start}
use Rattle.stream.proofs.feed.Goals as goal

pub returns-then-held-gt81-clause-feeds : goal.returns-then-held-gt81-clause-feeds
returns-then-held-gt81-clause-feeds c = feeds_start _ _ _ _ _ _
