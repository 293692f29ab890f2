use Rattle.moves.specs.MovesLaws.{entered_is}
use Rattle.moves.proofs.insert_entry.Goals as goal

pub returns : goal.returns
returns c = rw (c.put16-2.ensures, c.put16.ensures, c.put32.ensures, c.copy_within.ensures) (entered_is _ _ _ _ _ c.get16-n.ensures.value c.index_of-i.ensures.0)
