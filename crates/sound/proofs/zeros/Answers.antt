use mathlib.Core.Path.{ap, ◌∙◌}
use Rattle.wire.specs.Bytes.{blank}
use Rattle.wire.specs.BytesLaws.{part_of}
use Rattle.sound.proofs.zeros.Goals as goal

pub returns : goal.returns
returns c = c.all_zero.ensures ∙ ap blank (part_of c.args.home.now c.args.at c.args.n)
