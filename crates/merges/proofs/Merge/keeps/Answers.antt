use mathlib.Core.Path.{◌≡◌, refl, ◌∙◌}
use denote.Enum.Bare.{sameb}
use Rattle.merges.specs.contracts.Side.{the_type}
use Rattle.merges.specs.declared.Side.{Side}
use Rattle.merges.specs.declared.Side.TheVariants.{First, Shared, Second}
use Rattle.merges.specs.declared.Merge.TheVariants.{Both, Without}
use Rattle.merges.specs.Merging.{keeps}
use Rattle.merges.proofs.Merge.keeps.Goals as goal

both : (w : Side) → sameb the_type w Shared ≡ keeps Both w
unfolding keeps
both First = refl
both Shared = refl
both Second = refl

without : (w : Side) → sameb the_type w First ≡ keeps Without w
unfolding keeps
without First = refl
without Shared = refl
without Second = refl

pub returns-in-Both : goal.returns-in-Both
returns-in-Both c = rw c.in-Both.is (c.eq.ensures ∙ both _)

pub returns-in-Either : goal.returns-in-Either
unfolding keeps
returns-in-Either c = rw c.in-Either.is

pub returns-in-Without : goal.returns-in-Without
returns-in-Without c = rw c.in-Without.is (c.eq-in-Without.ensures ∙ without _)
