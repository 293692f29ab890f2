use Rattle.moves.specs.Moves.{celled}
use Rattle.moves.proofs.set_cell.Goals as goal

pub returns : goal.returns
unfolding celled
returns c = c.put16.ensures
