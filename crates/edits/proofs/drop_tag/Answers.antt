use mathlib.Core.Path.{sym, ◌∙◌}
use native.Mathlib.Omega.{arith}
use Rattle.home.specs.SoundLaws.{sound_long}
use Rattle.lists.specs.ListedLaws.{listed_known, listed_most}
use Rattle.lists.specs.ChangedLaws.{changed-none}
use Rattle.edits.specs.EditsLaws.{absent_new, drop_done, drop_unknown}
use Rattle.edits.proofs.Exits.{returned, no_block}
use Rattle.edits.proofs.drop_tag.Goals as goal

pub returns-in_err-cell : goal.returns-in_err-cell
returns-in_err-cell c =
    let b = no_block _ _ _ c.in_err-cell.ensures.value in
    let r = drop_unknown _ _ c.requires (absent_new _ _ c.requires (sym c.block_of.ensures ∙ b.0)) in
    record { value = returned _ _ _ c.from_residual.ensures.1 b.1 ∙ r.0; home_after = r.1 }

pub step_of-step-requires : goal.step_of-step-requires
step_of-step-requires c = omega (arith, sound_long _ c.requires)

pub class_of-requires : goal.class_of-requires
class_of-requires c = omega (arith, listed_most _ _ _ _ (record { sound = c.requires; block = sym c.block_of.ensures ∙ c.in_ok-cell.ensures.ok_part }))

pub take_out-requires : goal.take_out-requires
take_out-requires c = rw (c.class_of.ensures, c.step_of-step.ensures) (listed_known _ _ _ _ (record { sound = c.requires; block = sym c.block_of.ensures ∙ c.in_ok-cell.ensures.ok_part }))

pub returns : goal.returns
returns c =
    let d = drop_done _ _ _ _ (record { sound = c.requires; block = sym c.block_of.ensures ∙ c.in_ok-cell.ensures.ok_part }) in record {
      value = d.0;
      home_after = (rw c.step_of-step.ensures at c.take_out.ensures) ∙ changed-none _ _ _ _ (record { sound = c.requires; block = sym c.block_of.ensures ∙ c.in_ok-cell.ensures.ok_part }) ∙ d.1;
    }
