use Rattle.wire.specs.BytesLaws.{part_of}
use Rattle.redo.proofs.entry.page_at.Goals as goal

pub returns : goal.returns
returns c = part_of c.args.bytes.now _ _
