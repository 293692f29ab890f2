use Rattle.records.specs.Records.{key}
use Rattle.records.proofs.key_of.Goals as goal

pub returns : goal.returns
unfolding key
returns c = rw (c.from.ensures, c.from-2.ensures, c.from-3.ensures)
