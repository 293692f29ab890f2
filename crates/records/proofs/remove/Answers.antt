use Rattle.records.specs.Records.{removed, down}
use Rattle.records.proofs.remove.Goals as goal

pub returns : goal.returns
unfolding removed down
returns c = rw (c.fill.ensures, c.copy_within.ensures)
