use Rattle.home.specs.BuildingsLaws.{Counting}
use Rattle.home.proofs.buildings.building_full.Given as goal

abbrev pub invariant-loop-i : goal.invariant-loop-i
invariant-loop-i l = Counting l.home l.mine l.own l.beyond l.i
