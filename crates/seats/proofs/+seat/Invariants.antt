use Rattle.std.proofs.Common.{◌-◌}
use Rattle.seats.proofs.+seat.Given as goal

abbrev pub decreases-seat : goal.decreases-seat
decreases-seat l = 30 - l.c
