use Prim.Native.Nat.{◌+◌, ◌-◌, ◌*◌}
use Rattle.redo.specs.Image.{image_length}
use Rattle.redo.specs.Stage.{stage_next}
use Rattle.image_log.specs.Answers.{format_stages}
use mathlib.Core.Path.{◌≡◌, refl}
use native.Mathlib.Omega.{arith}
use lib.ListN.{length}
use Rattle.image_log.proofs.write_format.Goals as goal

pub returns : goal.returns
returns c =
    let a = c.args in
    let n = a.n in
    let first = c.write_at-made.result in
    let second = c.write_at-made-2.result in
    let third = c.write_rest-made.result in
    let head = c.head_page-head.ensures in
    let long : length c.write_at-made-2.new.image ≡ image_length a.capacity a.pages = omega (arith, c.requires.1) in
    let start : 64 + 66 * a.capacity + a.p - 64 ≡ 66 * a.capacity + a.p = omega arith in
    let x = format_stages a.capacity a.pages a.p a.v c.requires.2 c.write_at-made.ensures (stage_next n first refl (rw head at c.write_at-made-2.ensures)) (stage_next n (first + second) refl (rw (long, start) at c.write_rest-made.ensures)) (stage_next n (first + second + third) refl (rw head at c.write_at-made-3.ensures)) in
    record { value = rw (c.report.ensures, c.requires.1) x.0; image_after = x.1 }
