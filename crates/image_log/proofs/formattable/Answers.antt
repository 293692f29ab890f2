use mathlib.Core.Path.{refl, sym, ◌∙◌}
use native.Mathlib.Omega.{arith}
use Rattle.redo.specs.ImageLaws.{in_range_lem}
use Rattle.image_log.specs.Answers.{formattable-none, formattable-rest}
use Rattle.image_log.proofs.formattable.Goals as goal
use Rattle.image_log.proofs.formattable.Goals.{then-in_range, else-in_range}

pub image_length-requires : goal.image_length-requires
image_length-requires c = let r = in_range_lem c.args.capacity c.args.pages (sym c.in_range.ensures ∙ c.if-in_range.true) in omega arith

pub returns-then-image-image_length : goal.returns-then-image-image_length
returns-then-image-image_length c = elim c.if-in_range.branch [
  | then-in_range w ↦ rw (sym w.value-is ∙ c.if-image-image_length.true) at (formattable-rest c.args.image.now c.args.capacity c.args.pages c.args.p _ _ (sym c.in_range.ensures ∙ w.if-in_range.true) w.image_length.ensures refl)
  | else-in_range w ↦ cc
]

pub returns-else-image-image_length : goal.returns-else-image-image_length
returns-else-image-image_length c = elim c.if-in_range.branch [
  | then-in_range w ↦ c.if-image-image_length.false ∙ (rw (sym w.value-is ∙ c.if-image-image_length.false) at (formattable-rest c.args.image.now c.args.capacity c.args.pages c.args.p _ _ (sym c.in_range.ensures ∙ w.if-in_range.true) w.image_length.ensures refl))
  | else-in_range w ↦ w.value-is ∙ w.if-in_range.false ∙ formattable-none _ _ _ _ (sym c.in_range.ensures ∙ w.if-in_range.false)
]
