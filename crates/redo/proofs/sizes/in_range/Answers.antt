use Rattle.std.proofs.Common.{arith}
use Rattle.std.proofs.lemmas.Bool.Decides.{nat_tests}
use Rattle.redo.specs.Image.{in_range}
use Rattle.redo.proofs.sizes.in_range.Goals as goal

pub returns-then-contains : goal.returns-then-contains
unfolding in_range
returns-then-contains c =
    let n = c.new.ensures in
    let h = rw (n.start, n.end, n.exhausted) at c.contains.ensures.value in
    let m = c.new-then-contains.ensures in
    let k = rw (m.start, m.end, m.exhausted) at c.contains-then-contains.ensures.value in
    grind (arith, nat_tests)

pub returns-else-contains : goal.returns-else-contains
unfolding in_range
returns-else-contains c =
    let n = c.new.ensures in
    let h = rw (n.start, n.end, n.exhausted) at c.contains.ensures.value in
    grind (arith, nat_tests)
