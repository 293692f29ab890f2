use mathlib.Core.Path.{ap₂, ◌∙◌}
use native.Mathlib.Omega.{arith}
use lib.Dec.{eqb}
use Rattle.home.specs.BuildingsLaws.{early, eight_before}
use Rattle.home.proofs.buildings.beyond_eighth.Goals as goal

pub returns-then-i-ge8 : goal.returns-then-i-ge8
returns-then-i-ge8 c = ap₂ eqb c.building_at.ensures c.building_at-then-i-ge8.ensures ∙ eight_before _ c.requires.0 _ (omega arith) c.requires.1

pub returns-else-i-ge8 : goal.returns-else-i-ge8
returns-else-i-ge8 c = early _ c.requires.0 _ (omega arith)
