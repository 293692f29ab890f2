use Rattle.moves.specs.MovesLaws.{zoned_twice}
use Rattle.moves.proofs.set_zone.Goals as goal

pub returns : goal.returns
returns c = rw (c.put16-2.ensures, c.put16.ensures) (zoned_twice _ _ _ _)
