use mathlib.Core.Path.{sym, ap, ◌∙◌}
use Rattle.records.specs.Records.{ranked as ranked_in}
use Rattle.records.specs.Order.{found_held, absent_held}
use Rattle.lists.specs.ListedLaws.{listed_inside, listed-rising, listed-records, listed-some}
use Rattle.edits.specs.EditsLaws.{delete-none, delete_done}
use Rattle.edits.proofs.Exits.{returned, found, not_found}
use Rattle.edits.proofs.delete_known.Goals as goal

pub search_at-requires : goal.search_at-requires
search_at-requires c = (listed_inside _ _ _ _ c.requires, listed-rising _ _ _ _ c.requires)

pub remove_record-requires : goal.remove_record-requires
remove_record-requires c =
    let f = found_held _ _ _ (sym (found _ _ _ c.in_ok-j.ensures) ∙ c.search_at.ensures ∙ ap (ranked_in c.args.key) (listed-records _ _ _ _ c.requires)) in
    record { listed = c.requires; key = c.args.key; held = f.0; rank = f.1 }

pub overflow_sub-result : goal.overflow_sub-result
overflow_sub-result c = listed-some _ _ _ _ c.requires

pub returns-in_err-j : goal.returns-in_err-j
returns-in_err-j c =
    let b = not_found _ _ _ c.in_err-j.ensures in
    let a = absent_held _ _ _ (sym b.0.1 ∙ c.search_at.ensures ∙ ap (ranked_in c.args.key) (listed-records _ _ _ _ c.requires)) in
    let r = delete-none _ _ _ a.0 in
    record { value = returned _ _ _ c.from_residual.ensures.1 b.1 ∙ r.0; home_after = r.1 }

pub returns : goal.returns
returns c =
    let f = found_held _ _ _ (sym (found _ _ _ c.in_ok-j.ensures) ∙ c.search_at.ensures ∙ ap (ranked_in c.args.key) (listed-records _ _ _ _ c.requires)) in
    let d = delete_done _ _ _ _ _ (record { listed = c.requires; key = c.args.key; held = f.0; rank = f.1 }) in
    record { value = d.0; home_after = c.remove_record.ensures ∙ d.1 }
