use Rattle.merges.specs.Merging.{of_first, of_second, next}
use mathlib.Core.Path.{◌≡◌, ap}
use native.Mathlib.Omega.{arith}
use Rattle.merges.proofs.Lists.record.Goals as goal

pub record_at-requires : goal.record_at-requires
unfolding of_first
record_at-requires c =
    let e : of_first c.args.side ≡ 1 = ap of_first c.in-First.is in
    omega arith

pub record_at-requires-in-Shared : goal.record_at-requires-in-Shared
unfolding of_first of_second
record_at-requires-in-Shared c =
    let e : of_first c.args.side ≡ 1 = ap of_first c.in-Shared.is in
    let f : of_second c.args.side ≡ 1 = ap of_second c.in-Shared.is in
    omega arith

pub record_at-requires-in-Second : goal.record_at-requires-in-Second
unfolding of_second
record_at-requires-in-Second c =
    let e : of_second c.args.side ≡ 1 = ap of_second c.in-Second.is in
    omega arith

pub returns-in-First : goal.returns-in-First
unfolding next
returns-in-First c = rw c.in-First.is c.record_at.ensures

pub returns-in-Shared : goal.returns-in-Shared
unfolding next
returns-in-Shared c = rw c.in-Shared.is c.record_at-in-Shared.ensures

pub returns-in-Second : goal.returns-in-Second
unfolding next
returns-in-Second c = rw c.in-Second.is c.record_at-in-Second.ensures
