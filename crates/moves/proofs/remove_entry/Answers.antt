use Rattle.moves.specs.MovesLaws.{unentered_is}
use Rattle.moves.proofs.remove_entry.Goals as goal

pub returns : goal.returns
returns c = rw (c.put16.ensures, c.fill.ensures, c.copy_within.ensures) (unentered_is _ _ _ _ c.get16-n.ensures.value c.index_of-i.ensures.0)
