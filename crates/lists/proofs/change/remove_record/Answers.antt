use mathlib.Core.Path.{◌≡◌, ◌∙◌}
use mathlib.Core.List.{List}
use Prim.Native.Nat.{ℕ, ◌<◌}
use native.Mathlib.Omega.{arith}
use Rattle.layout.specs.CapacitiesLaws.{class_below, class_kept, class_lost}
use Rattle.home.specs.SoundLaws.{sound_long}
use Rattle.lists.specs.Listed.{Listed}
use Rattle.lists.specs.ListedLaws.{listed_known, listed-some, listed_most, listed_inside}
use Rattle.lists.specs.RecordLaws.{ranked-under, out_last, out_here}
use Rattle.lists.proofs.change.remove_record.Goals as goal

more_than_one : (h : List ℕ) (t p n : ℕ) → Listed h t p n → (n ≡ 1 → ⊥) → 1 < n
more_than_one h t p n l e = omega (arith, listed-some h t p n l)

pub step_of-step-requires : goal.step_of-step-requires
step_of-step-requires c = omega (arith, sound_long _ c.requires.listed.sound)

pub class_of-c-requires : goal.class_of-c-requires
class_of-c-requires c = omega (arith, listed_most _ _ _ _ c.requires.listed)

pub take_out-requires : goal.take_out-requires
take_out-requires c = rw (c.class_of-c.ensures, c.step_of-step.ensures) (listed_known _ _ _ _ c.requires.listed)

pub under-requires : goal.under-requires
under-requires c = rw c.class_of-c.ensures (class_below _ _ (listed_most _ _ _ _ c.requires.listed))

pub overflow_sub-block : goal.overflow_sub-block
overflow_sub-block c = listed-some _ _ _ _ c.requires.listed

pub remove_here-requires : goal.remove_here-requires
remove_here-requires c = (ranked-under _ _ _ _ _ c.requires, listed_inside _ _ _ _ c.requires.listed)

pub remove_moving-requires : goal.remove_moving-requires
remove_moving-requires c =
    let r = c.requires in
    let several = more_than_one _ _ _ _ r.listed c.if-block-eq1.false in
    (r, several, rw c.step_of-step.ensures at (class_lost _ _ _ several c.class_of-c.ensures (omega (arith, c.if-under-block.false, c.under.ensures))), omega (arith, listed_most _ _ _ _ r.listed))

pub returns-then-block-eq1 : goal.returns-then-block-eq1
returns-then-block-eq1 c = (rw c.step_of-step.ensures at c.take_out.ensures) ∙ out_last _ _ _ _ _ c.requires c.if-block-eq1.true

pub returns-then-under-block : goal.returns-then-under-block
returns-then-under-block c =
    let r = c.requires in
    let several = more_than_one _ _ _ _ r.listed c.if-block-eq1.false in
    c.remove_here.ensures ∙ out_here _ _ _ _ _ r several (rw c.step_of-step.ensures at (class_kept _ _ _ several (listed_most _ _ _ _ r.listed) c.class_of-c.ensures (omega (arith, c.if-under-block.true, c.under.ensures))))
