use borrow.Author.Tests.{eq-eqb, ne_eqb}
use Rattle.seats.specs.Seat.{first_with}
use Rattle.seats.proofs.first_with.Goals as goal

pub returns-then-n-eq0 : goal.returns-then-n-eq0
unfolding first_with
returns-then-n-eq0 c = rw (eq-eqb c.args.n 0 c.if-n-eq0.true)

pub returns-else-n-eq0 : goal.returns-else-n-eq0
unfolding first_with
returns-else-n-eq0 c = rw (ne_eqb c.args.n 0 c.if-n-eq0.false)
