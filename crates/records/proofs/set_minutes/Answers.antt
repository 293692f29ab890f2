use Rattle.records.specs.Records.{amended}
use mathlib.Core.Path.{refl}
use Rattle.records.proofs.set_minutes.Goals as goal

pub returns : goal.returns
unfolding amended
returns c = refl
