use Rattle.wire.specs.Bytes.{bytes32}
use Rattle.wire.proofs.put32.Goals as goal

pub returns : goal.returns
unfolding bytes32
returns c = cc
