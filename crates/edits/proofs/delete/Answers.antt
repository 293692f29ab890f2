use mathlib.Core.Path.{sym, ◌∙◌}
use Rattle.edits.specs.EditsLaws.{absent_new, unknown_held, delete-none}
use Rattle.edits.proofs.Exits.{returned, no_block}
use Rattle.edits.proofs.delete.Goals as goal

pub returns-in_err-block : goal.returns-in_err-block
returns-in_err-block c =
    let b = no_block _ _ _ c.in_err-block.ensures.value in
    let r = delete-none _ _ _ (unknown_held _ _ c.requires (absent_new _ _ c.requires (sym c.block_of.ensures ∙ b.0)) c.args.key) in
    record { value = returned _ _ _ c.from_residual.ensures.1 b.1 ∙ r.0; home_after = r.1 }
