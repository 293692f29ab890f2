use native.Mathlib.Omega.{arith}
use Rattle.home.specs.SoundLaws.{sound_long}
use Rattle.lists.specs.ListedLaws.{listed_known, listed_most}
use Rattle.lists.specs.ChangedLaws.{moving_placeable, moving_changed}
use Rattle.lists.proofs.change.move_list.Goals as goal

pub step_of-step-requires : goal.step_of-step-requires
step_of-step-requires c = omega (arith, sound_long _ c.requires.listed.sound)

pub class_of-requires : goal.class_of-requires
class_of-requires c = omega (arith, listed_most _ _ _ _ c.requires.listed)

pub take_out-requires : goal.take_out-requires
take_out-requires c = rw (c.class_of.ensures, c.step_of-step.ensures) (listed_known _ _ _ _ c.requires.listed)

pub settle-requires : goal.settle-requires
settle-requires c = moving_placeable _ _ _ _ _ c.requires _ (rw c.step_of-step.ensures at c.take_out.ensures)

pub returns : goal.returns
returns c =
    moving_changed _ _ _ _ _ c.requires _
    (rw c.step_of-step.ensures at c.take_out.ensures) _ c.settle.ensures.1
