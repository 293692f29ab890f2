use Rattle.std.proofs.Common.{◌-◌}
use Rattle.zones.proofs.afresh.+lay_from.Given as goal

abbrev pub decreases-lay_from : goal.decreases-lay_from
decreases-lay_from l = 30 - l.c
