use mathlib.Core.Path.{sym, ◌∙◌}
use native.Mathlib.Omega.{arith}
use Rattle.home.specs.SoundLaws.{t_sized, sound_unsized}
use Rattle.home.specs.EmptyLaws.{no_tags}
use borrow.Author.Rules.{rules}
use Rattle.sound.proofs.sound.Goals as goal

pub returns-then-not-sized : goal.returns-then-not-sized
returns-then-not-sized c = sym (sound_unsized c.args.home.now (sym c.sized.ensures ∙ c.if-not-sized.true))

pub get16-n-requires : goal.get16-n-requires
get16-n-requires c = let l = (t_sized c.args.home.now).says (sym c.sized.ensures ∙ c.if-not-sized.false) in omega arith

pub bare-requires : goal.bare-requires
bare-requires c = let l = (t_sized c.args.home.now).says (sym c.sized.ensures ∙ c.if-not-sized.false) in omega arith

pub step_of-requires : goal.step_of-requires
step_of-requires c = let l = (t_sized c.args.home.now).says (sym c.sized.ensures ∙ c.if-not-sized.false) in omega arith

pub returns-then-n-eq0 : goal.returns-then-n-eq0
returns-then-n-eq0 c = c.bare.ensures ∙ no_tags c.args.home.now (sym c.sized.ensures ∙ c.if-not-sized.false) (sym c.get16-n.ensures.value ∙ search rules)
