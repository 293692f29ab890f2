use Prim.Native.Nat.{◌+◌, ◌-◌, ◌*◌}
use native.Mathlib.Omega.{arith}
use lib.ListN.{length, drop, length-drop}
use lib.Seq.{take_all}
use Rattle.redo.specs.Image.{home}
use Rattle.redo.specs.ImageLaws.{head_right}
use Rattle.image_log.proofs.home_behind.Goals as goal

pub get16-requires : goal.get16-requires
get16-requires c = let r = head_right c.args.image.now c.requires in omega arith

pub slice_bounds-result-count : goal.slice_bounds-result-count
slice_bounds-result-count c = let r = head_right c.args.image.now c.requires in omega arith

pub slice_bounds-result-start : goal.slice_bounds-result-start
slice_bounds-result-start c = let r = head_right c.args.image.now c.requires in omega arith

pub returns-clause-result_value : goal.returns-clause-result_value
unfolding home
returns-clause-result_value c =
    let l = c.args.image.now in
    let at = 64 + 66 * c.get16.result in
    rw (← c.get16.ensures.value) (take_all (length l - at) (drop at l) (omega (arith, length-drop at l)))
