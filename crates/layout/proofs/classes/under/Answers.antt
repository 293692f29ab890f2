use mathlib.Core.Path.{◌∙◌}
use Rattle.layout.specs.CapacitiesLaws.{under_none, under_some}
use borrow.Author.Rules.{rules}
use Rattle.layout.proofs.classes.under.Goals as goal

pub returns-then-c-eq0 : goal.returns-then-c-eq0
returns-then-c-eq0 c = under_none c.args.step c.args.c (search rules)

pub returns-else-c-eq0 : goal.returns-else-c-eq0
returns-else-c-eq0 c = c.capacity.ensures.0 ∙ under_some c.args.step c.args.c c.if-c-eq0.false
