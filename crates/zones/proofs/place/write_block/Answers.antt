use Rattle.zones.specs.PlaceLaws.{block_written}
use Rattle.zones.proofs.place.write_block.Goals as goal

pub returns : goal.returns
returns c = rw (c.fill.ensures, c.copy.ensures, c.put16-2.ensures, c.put16.ensures, c.put32.ensures) (block_written _ _ _ _ _ _ _ c.cells.ensures.0)
