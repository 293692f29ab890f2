use Rattle.std.proofs.Common.{inl, inr}
use Rattle.merges.specs.Merging.{of_first}
use Rattle.merges.proofs.Side.of_first.Goals as goal

pub returns-in-First : goal.returns-in-First
unfolding of_first
returns-in-First c = elim c.in-First.is [ inl e ↦ rw e | inr e ↦ rw e ]

pub returns-in-Second : goal.returns-in-Second
unfolding of_first
returns-in-Second c = rw c.in-Second.is
