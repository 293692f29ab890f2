use Rattle.wire.specs.Bytes.{get32}
use Rattle.wire.proofs.get32.Goals as goal

pub returns : goal.returns
unfolding get32
returns c = cc
