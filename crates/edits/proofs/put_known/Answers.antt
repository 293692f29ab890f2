use mathlib.Core.Path.{sym, ap₂, ◌∙◌}
use native.Mathlib.Omega.{arith}
use Rattle.records.specs.Records.{key, ranked as ranked_in}
use Rattle.records.specs.Order.{found_held, absent_held}
use Rattle.lists.specs.ListedLaws.{listed_inside, listed-rising, listed-records}
use Rattle.edits.specs.EditsLaws.{put-held}
use Rattle.edits.proofs.put_known.Goals as goal

pub search_at-requires : goal.search_at-requires
search_at-requires c = (listed_inside _ _ _ _ c.requires, listed-rising _ _ _ _ c.requires)

pub insert_record-requires : goal.insert_record-requires
insert_record-requires c =
    let a = absent_held (key c.args.r) c.in-Err.j _ (sym c.in-Err.is ∙ c.search_at.ensures ∙ ap₂ ranked_in c.key_of.ensures (listed-records _ _ _ _ c.requires)) in
    record { listed = c.requires; held = a.0; rank = a.1; fits = record { level = omega arith; second = omega arith; phone = omega arith; minutes = omega arith } }

pub returns-in-Ok : goal.returns-in-Ok
returns-in-Ok c =
    let f = found_held (key c.args.r) c.in-Ok.field-0 _ (sym c.in-Ok.is ∙ c.search_at.ensures ∙ ap₂ ranked_in c.key_of.ensures (listed-records _ _ _ _ c.requires)) in
    let r = put-held _ _ _ _ c.requires _ _ f.0 in
    record { value = r.0; home_after = r.1 }
