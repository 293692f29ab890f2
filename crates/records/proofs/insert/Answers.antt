use Rattle.records.specs.Records.{inserted, up}
use Rattle.records.proofs.insert.Goals as goal

pub returns : goal.returns
unfolding inserted up
returns c = rw (c.store.ensures, c.copy_within.ensures)
