use Rattle.layout.specs.Capacities.{table, short}
use Rattle.layout.proofs.classes.fine_table.Goals as goal

pub returns : goal.returns
unfolding short table
returns c = (rw c.unwrap.ensures at c.try_into.ensures.1).same
