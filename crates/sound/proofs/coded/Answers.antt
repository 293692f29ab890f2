use native.Mathlib.Omega.{arith}
use Rattle.sound.specs.CheckLoopLaws.{coded_as}
use Rattle.sound.proofs.coded.Goals as goal

pub zeros-requires : goal.zeros-requires
zeros-requires c = omega (arith, c.requires)

pub returns : goal.returns
returns c = coded_as _ _ _ c.step_of.ensures c.zeros.ensures
