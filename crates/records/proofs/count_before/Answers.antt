use Rattle.std.proofs.Common.{inl, inr}
use Rattle.records.specs.Order.{found_below}
use Rattle.records.proofs.count_before.Goals as goal

pub returns-in-Ok : goal.returns-in-Ok
returns-in-Ok c = found_below _ _ _ _ c.requires c.search.ensures (inl c.in-Ok.is)

pub returns-in-Err : goal.returns-in-Err
returns-in-Err c = found_below _ _ _ _ c.requires c.search.ensures (inr c.in-Err.is)
