use mathlib.Core.Path.{sym, ◌∙◌}
use Rattle.edits.specs.EditsLaws.{absent_new, new_either}
use Rattle.edits.proofs.put.Goals as goal

pub put_new-requires : goal.put_new-requires
put_new-requires c = (c.requires, (absent_new _ _ c.requires (sym c.block_of.ensures ∙ c.in-None.is)))

pub returns-in-None : goal.returns-in-None
returns-in-None c =
    let pre = c.requires in
    let new = absent_new _ _ pre (sym c.block_of.ensures ∙ c.in-None.is) in
    let e = new_either _ _ pre new _ _ in record {
      value = c.put_new.ensures.value ∙ e.0;
      home_after = c.put_new.ensures.home_after ∙ e.1;
    }
