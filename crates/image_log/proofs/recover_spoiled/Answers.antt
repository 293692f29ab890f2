use native.Mathlib.Omega.{arith}
use Rattle.redo.specs.ImageLaws.{head_right}
use Rattle.image_log.specs.Answers.{cleared_is}
use Rattle.image_log.proofs.recover_spoiled.Goals as goal

pub write_at-made-requires : goal.write_at-made-requires
write_at-made-requires c = let r = head_right c.args.image.now c.requires in omega arith

pub returns : goal.returns
returns c =
    let x = cleared_is c.write_at-made.ensures in
    record { value = rw c.report.ensures x.0; image_after = x.1 }
