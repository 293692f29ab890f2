use Rattle.std.proofs.Common.{arith, ◌+◌, length}
use Rattle.wire.proofs.Part.{put-over}
use Rattle.wire.proofs.copy.Goals as goal

pub returns : goal.returns
returns c =
    let a = c.args in
    rw c.copy_from_slice.ensures.after (put-over a.at (a.at + length a.src.now) a.dst.now a.src.now (omega arith) (omega arith))
