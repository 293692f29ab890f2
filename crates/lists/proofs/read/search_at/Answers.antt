use mathlib.Core.Path.{ap, ◌∙◌}
use Rattle.records.specs.Records.{ranked as ranked_in}
use Rattle.lists.specs.ListedLaws.{part-records}
use Rattle.lists.proofs.read.search_at.Goals as goal

pub search-requires : goal.search-requires
search-requires c = rw (c.records.ensures, part-records _ _ _ c.requires.0) c.requires.1

pub returns : goal.returns
returns c = (rw c.records.ensures at c.search.ensures) ∙ ap (ranked_in c.args.key) (part-records _ _ _ c.requires.0)
