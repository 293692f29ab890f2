use native.Mathlib.Omega.{arith}
use borrow.Author.Tests.{eq-eqb, ne_eqb}
use Rattle.seats.specs.Seat.{cell_for}
use Rattle.seats.specs.SeatLaws.{cell_some}
use Rattle.seats.proofs.cell_for.Goals as goal

pub overflow_mul-result : goal.overflow_mul-result
overflow_mul-result c = omega (arith, c.requires, cell_some c.args.e c.args.f _ c.args.k c.if-n-eq0.false)

pub overflow_add-result : goal.overflow_add-result
overflow_add-result c = omega (arith, c.requires, cell_some c.args.e c.args.f _ c.args.k c.if-n-eq0.false)

pub returns-then-n-eq0 : goal.returns-then-n-eq0
unfolding cell_for
returns-then-n-eq0 c = rw (eq-eqb c.args.n 0 c.if-n-eq0.true)

pub returns-else-n-eq0 : goal.returns-else-n-eq0
unfolding cell_for
returns-else-n-eq0 c = rw (ne_eqb c.args.n 0 c.if-n-eq0.false)
