use mathlib.Core.Path.{sym, ap, ◌∙◌}
use lib.ListN.{length}
use Rattle.home.specs.TagBlockLaws.{list_at_lem, list-none}
use Rattle.home.proofs.lookup.count.Goals as goal

pub returns-in-Some : goal.returns-in-Some
returns-in-Some c = (list_at_lem c.args.home.now c.args.tag _ _ c.requires (sym c.block_of.ensures ∙ c.in-Some.is)).count

pub returns-in-None : goal.returns-in-None
returns-in-None c =
    let a = c.args in
    sym (ap length (list-none a.home.now a.tag c.requires (sym c.block_of.ensures ∙ c.in-None.is)))
