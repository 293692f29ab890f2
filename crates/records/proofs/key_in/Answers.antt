use Rattle.records.specs.Cells.{key_whole}
use Rattle.records.proofs.key_in.Goals as goal

pub returns-clause-value : goal.returns-clause-value
returns-clause-value c = rw c.from_be_bytes.ensures (key_whole _ (c.fits-cell 7))
