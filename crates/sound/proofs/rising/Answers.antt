use mathlib.Core.Path.{◌∙◌}
use Rattle.sound.specs.CheckLoopLaws.{rising_part}
use borrow.Author.Rules.{rules}
use Rattle.sound.proofs.rising.Goals as goal

pub returns : goal.returns
returns c = c.rising.ensures ∙ rising_part c.args.home.now c.args.at c.args.n (search rules)
