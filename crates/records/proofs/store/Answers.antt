use Rattle.records.specs.Cells.{record_stored}
use Rattle.records.proofs.store.Goals as goal

pub returns : goal.returns
returns c = rw (c.put16.ensures, c.put32.ensures) (record_stored _ _ _)
