use mathlib.Core.Path.{◌≡◌}
use native.Mathlib.Omega.{arith}
use Prim.Native.Nat.{◌<◌}
use Rattle.std.specs.Cmp.{ranked}
use Rattle.merges.specs.LoopLaws.{lowest_alone, lowest_over, lowest_before, lowest_after, lowest_same}
use Rattle.merges.proofs.Lists.lowest.Goals as goal

pub returns-else-first_ended : goal.returns-else-first_ended
returns-else-first_ended c = lowest_alone _ _ (omega arith) (omega arith)

pub returns-then-first_ended-2 : goal.returns-then-first_ended-2
returns-then-first_ended-2 c = lowest_over _ _ (omega arith) (omega arith)

pub returns-in-Less : goal.returns-in-Less
returns-in-Less c =
    let h : c.key_at-x.result < c.key_at-y.result = ranked _ _ _ c.in-Less.ensures in
    lowest_before _ _ (omega arith) (omega arith) (omega arith)

pub returns-in-Equal : goal.returns-in-Equal
returns-in-Equal c =
    let h : c.key_at-x.result ≡ c.key_at-y.result = ranked _ _ _ c.in-Equal.ensures in
    lowest_same _ _ (omega arith) (omega arith) (omega arith)

pub returns-in-Greater : goal.returns-in-Greater
returns-in-Greater c =
    let h : c.key_at-y.result < c.key_at-x.result = ranked _ _ _ c.in-Greater.ensures in
    lowest_after _ _ (omega arith) (omega arith) (omega arith)
