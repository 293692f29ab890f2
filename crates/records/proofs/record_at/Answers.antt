use Rattle.records.specs.Records.{record_at}
use Rattle.records.proofs.record_at.Goals as goal

pub returns : goal.returns
unfolding record_at
returns c = rw (c.get32.ensures, c.get16.ensures.value)
