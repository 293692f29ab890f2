use mathlib.Core.Path.{sym, ◌∙◌}
use native.Mathlib.Omega.{arith}
use Rattle.home.specs.EmptyLaws.{bare-zero}
use Rattle.sound.specs.CheckLoopLaws.{bare-none, bare_as}
use Rattle.sound.proofs.bare.Goals as goal

pub returns-then-step-eq0 : goal.returns-then-step-eq0
returns-then-step-eq0 c = c.all_zero.ensures ∙ bare-zero _ (omega (arith, c.requires)) (sym c.step_of-step.ensures ∙ c.if-step-eq0.true)

pub returns-then-not-zeros : goal.returns-then-not-zeros
returns-then-not-zeros c = bare-none _ (sym c.zeros.ensures ∙ c.if-not-zeros.true)

pub returns : goal.returns
returns c = bare_as _ _ _ (sym c.zeros.ensures ∙ c.if-not-zeros.false) c.step_of-step.ensures c.zeros-2.ensures
