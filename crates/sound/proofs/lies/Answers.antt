use native.Mathlib.Omega.{arith}
use Rattle.home.specs.EndLaws.{zone-fits}
use borrow.Author.Rules.{rules}
use Rattle.sound.proofs.lies.Goals as goal

pub overflow_mul-result : goal.overflow_mul-result
overflow_mul-result c = omega (arith, zone-fits c.args.many c.args.size (search rules) (search rules))

pub overflow_add-result-2 : goal.overflow_add-result-2
overflow_add-result-2 c = omega (arith, zone-fits c.args.many c.args.size (search rules) (search rules))
