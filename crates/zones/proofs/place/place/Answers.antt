use native.Mathlib.Omega.{arith}
use Rattle.home.specs.SoundLaws.{sound_long}
use Rattle.zones.specs.FromSound.{sound-start, placed_sound}
use Rattle.zones.proofs.place.place.Goals as goal

pub step_of-step-requires : goal.step_of-step-requires
step_of-step-requires c = omega (arith, sound_long _ c.requires.sound)

pub place_from-requires : goal.place_from-requires
place_from-requires c = rw c.step_of-step.ensures (sound-start _ c.args.tag _ c.requires)

pub returns : goal.returns
returns c =
    placed_sound _ _ _ c.requires (omega arith) (λ i. omega (arith, c.type_inv.list i)) _ _
    (rw c.step_of-step.ensures at c.place_from.ensures.value) (rw c.step_of-step.ensures at c.place_from.ensures.home_after)
