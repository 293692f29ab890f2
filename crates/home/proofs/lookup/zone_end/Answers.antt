use native.Mathlib.Omega.{arith}
use Rattle.home.specs.EndLaws.{end_empty, end_full, zone-fits}
use borrow.Author.Rules.{rules}
use Rattle.home.proofs.lookup.zone_end.Goals as goal

pub returns-then-n-eq0 : goal.returns-then-n-eq0
returns-then-n-eq0 c = end_empty _ _ _ _ _ c.zone_count-n.ensures.0 c.if-n-eq0.true

pub returns : goal.returns
returns c = end_full _ _ _ _ _ _ _ c.zone_first.ensures.0 c.zone_count-n.ensures.0 c.cells.ensures.0 c.if-n-eq0.false
