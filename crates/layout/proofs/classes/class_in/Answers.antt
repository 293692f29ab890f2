use mathlib.Core.Path.{ap, ◌∙◌}
use native.Mathlib.Omega.{arith}
use lib.ListN.{length, get_or}
use Rattle.layout.specs.CapacitiesLaws.{short_class, short-length}
use borrow.Author.Rules.{rules}
use Rattle.layout.proofs.classes.class_in.Goals as goal

pub bounds-classes-n : goal.bounds-classes-n
bounds-classes-n c = omega (arith, ap length c.requires.1, short-length c.args.step)

pub returns-then-n-lt144 : goal.returns-then-n-lt144
returns-then-n-lt144 c = c.from.ensures ∙ ap (λ xs. get_or xs c.args.n 0) c.requires.1 ∙ short_class c.args.step c.args.n (search rules)
