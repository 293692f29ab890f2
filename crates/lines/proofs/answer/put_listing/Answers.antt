use Rattle.std.proofs.Common.{sym, ◌∙◌, arith}
use Rattle.lines.specs.AnswerLaws.{listing_is, counted_shows}
use Rattle.lines.proofs.answer.put_listing.Goals as goal

pub put_list-requires : goal.put_list-requires
put_list-requires c = let s = counted_shows c.args.image.now _ c.args.tag _ (sym c.count.ensures ∙ c.in-Ok.is) c.show-list.ensures.result_value in (s.short, c.requires)

pub returns-in-Ok : goal.returns-in-Ok
returns-in-Ok c = let s = counted_shows c.args.image.now _ c.args.tag _ (sym c.count.ensures ∙ c.in-Ok.is) c.show-list.ensures.result_value in rw (← s.text) c.put_list.ensures

pub returns-in-Err : goal.returns-in-Err
returns-in-Err c =
    rw (← listing_is c.args.image.now c.args.tag _ (sym c.count.ensures ∙ c.in-Err.is), ← c.from.ensures) (c.put_no.ensures.0, c.put_no.ensures.1, omega (arith, c.put_no.ensures.2))
