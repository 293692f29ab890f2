use Rattle.records.specs.Cells.{cells_of}
use Rattle.records.proofs.cells.Goals as goal

pub returns : goal.returns
returns c = cells_of _ _ c.as_chunks.ensures.front c.as_chunks.ensures.front_len
