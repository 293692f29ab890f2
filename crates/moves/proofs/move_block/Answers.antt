use native.Mathlib.Omega.{arith}
use mathlib.Core.Path.{ap}
use Rattle.home.specs.Lookup.{index_of}
use lib.ListN.{length}
use Rattle.layout.specs.CapacitiesLaws.{cells_pos}
use Rattle.moves.specs.MovesLaws.{moved_is}
use Rattle.moves.proofs.move_block.Goals as goal

pub get32-tag-requires : goal.get32-tag-requires
get32-tag-requires c = omega (arith, cells_pos c.args.step c.args.c)

pub set_cell-requires : goal.set_cell-requires
set_cell-requires c = (omega (arith, ap length c.carry.ensures), omega (arith, c.index_of-i.ensures.0, ap (index_of c.args.home.now) c.get32-tag.ensures))

pub returns : goal.returns
returns c = rw (c.set_cell.ensures, c.carry.ensures) (moved_is _ _ _ _ _ _ _ _ c.get32-tag.ensures c.index_of-i.ensures.0 c.cells-n.ensures.0)
