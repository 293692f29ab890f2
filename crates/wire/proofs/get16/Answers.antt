use Rattle.wire.specs.Bytes.{get16}
use Rattle.wire.proofs.get16.Goals as goal

pub returns-clause-value : goal.returns-clause-value
unfolding get16
returns-clause-value c = cc
