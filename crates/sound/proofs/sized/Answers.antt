use Rattle.sound.specs.CheckLoopLaws.{sized-short, sized-rest}
use borrow.Author.Rules.{rules}
use Rattle.sound.proofs.sized.Goals as goal

pub returns-then-n-lt1728 : goal.returns-then-n-lt1728
returns-then-n-lt1728 c = sized-short c.args.home.now (search rules)

pub returns : goal.returns
returns c = sized-rest c.args.home.now (search rules)
