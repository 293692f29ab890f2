use Rattle.std.proofs.Common.{refl}
use Rattle.wire.specs.Bytes.{bytes16}
use Rattle.wire.proofs.bytes16.Goals as goal

pub returns : goal.returns
unfolding bytes16
returns c = refl
