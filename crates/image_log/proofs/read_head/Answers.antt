use mathlib.Core.Path.{sym, ◌∙◌}
use native.Mathlib.Omega.{arith}
use Rattle.redo.specs.ImageLaws.{head_right}
use Rattle.image_log.specs.HeadLaws.{head_bad, head_clear, head_committed, head_spoiled}
use Rattle.image_log.proofs.read_head.Goals as goal

pub bounds-image-10 : goal.bounds-image-10
bounds-image-10 c = let r = head_right c.args.image.now (sym c.head_ok.ensures ∙ c.if-not-head_ok.false) in omega arith

pub returns-in-0 : goal.returns-in-0
returns-in-0 c = sym (head_clear c.args.image.now (sym c.head_ok.ensures ∙ c.if-not-head_ok.false) c.in-0.is)

pub returns-in-165 : goal.returns-in-165
returns-in-165 c = sym (head_committed c.args.image.now (sym c.head_ok.ensures ∙ c.if-not-head_ok.false) c.in-165.is)

pub returns-in_default : goal.returns-in_default
returns-in_default c = sym (head_spoiled c.args.image.now (sym c.head_ok.ensures ∙ c.if-not-head_ok.false) (λ e. omega arith) (λ e. omega arith))

pub returns-then-not-head_ok : goal.returns-then-not-head_ok
returns-then-not-head_ok c = sym (head_bad _ (sym c.head_ok.ensures ∙ c.if-not-head_ok.true))
