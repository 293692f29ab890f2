use native.Mathlib.Omega.{arith}
use Rattle.home.specs.LookupLaws.{entries_few}
use Rattle.home.specs.LookupLoopLaws.{sound_ordered}
use Rattle.home.specs.BuildingsLaws.{count-start, count_next, tally_is, at_most_one, few_counted, count_done}
use Rattle.home.proofs.buildings.building_full.Goals as goal

pub get16-n-requires : goal.get16-n-requires
get16-n-requires c = omega (arith, (sound_ordered _ c.requires).long)

pub returns-then-n-lt136 : goal.returns-then-n-lt136
returns-then-n-lt136 c = few_counted _ _ c.requires (omega arith) (omega (arith, c.get16-n.ensures.value))

pub loop-i-init : goal.loop-i-init
loop-i-init c = count-start _ _ c.requires

pub building_at-requires : goal.building_at-requires
building_at-requires c = (sound_ordered _ c.requires, omega (arith, c.get16-n.ensures.value))

pub beyond_eighth-requires : goal.beyond_eighth-requires
beyond_eighth-requires c = (sound_ordered _ c.requires, omega (arith, c.get16-n.ensures.value))

pub loop-i-preserved : goal.loop-i-preserved
loop-i-preserved c = count_next _ _ c.requires _ _ _ _ _ _ _ c.loop-i.invariant (omega (arith, c.get16-n.ensures.value)) c.building_at.ensures (tally_is _ _ c.from-own.ensures) c.beyond_eighth.ensures (tally_is _ _ c.from-beyond.ensures)

pub returns : goal.returns
returns c = count_done _ _ _ _ _ c.requires c.loop-i.invariant (omega (arith, c.get16-n.ensures.value))
