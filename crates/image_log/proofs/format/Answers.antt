use mathlib.Core.Path.{sym, ◌∙◌}
use Rattle.refusals.specs.declared.Refusal.TheVariants.{Sizes}
use Rattle.image_log.specs.Answers.{refused_is, format_unfit, format_fits, formattable-says}
use Rattle.image_log.proofs.format.Goals as goal

pub write_format-requires : goal.write_format-requires
write_format-requires c = let f = formattable-says _ _ _ _ (sym c.formattable.ensures ∙ c.if-not-formattable.false) in (f.sizes, f.long, f.inside)

pub returns : goal.returns
returns c =
    let a = c.args in
    rw (format_fits a.image.now a.capacity a.pages a.p a.v (sym c.formattable.ensures ∙ c.if-not-formattable.false)) c.write_format.ensures

pub returns-then-not-formattable : goal.returns-then-not-formattable
returns-then-not-formattable c =
    let a = c.args in
    let x = refused_is _ Sizes a.n a.image.now (format_unfit a.image.now a.capacity a.pages a.p a.v (sym c.formattable.ensures ∙ c.if-not-formattable.true)) in
    record { value = x.0; image_after = x.1 }
