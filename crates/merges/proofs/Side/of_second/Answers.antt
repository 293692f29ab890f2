use Rattle.std.proofs.Common.{inl, inr}
use Rattle.merges.specs.Merging.{of_second}
use Rattle.merges.proofs.Side.of_second.Goals as goal

pub returns-in-Shared : goal.returns-in-Shared
unfolding of_second
returns-in-Shared c = elim c.in-Shared.is [ inl e ↦ rw e | inr e ↦ rw e ]

pub returns-in-First : goal.returns-in-First
unfolding of_second
returns-in-First c = rw c.in-First.is
