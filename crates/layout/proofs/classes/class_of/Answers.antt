use Rattle.std.proofs.Common.{◌∙◌, rules}
use Rattle.layout.specs.Capacities.{table}
use Rattle.layout.specs.CapacitiesLaws.{table_class, fine_class, coarse_class}
use Rattle.layout.proofs.classes.class_of.Goals as goal
use Rattle.layout.proofs.classes.class_of.Goals.{then-step-eq0, else-step-eq0}

pub returns : goal.returns
unfolding table
returns c =
    let a = c.args in
    elim c.if-step-eq0.branch [
      | then-step-eq0 w ↦ c.from.ensures ∙ w.from-is ∙ table_class 0 a.n (search rules) ∙ fine_class a.step a.n w.if-step-eq0.true
      | else-step-eq0 w ↦ c.from.ensures ∙ w.from-is ∙ table_class 1 a.n (search rules) ∙ coarse_class a.step a.n w.if-step-eq0.false
    ]
