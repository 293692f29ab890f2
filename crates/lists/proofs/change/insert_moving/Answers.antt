use Rattle.lists.specs.ListsLaws.{length-grown}
use Rattle.lists.specs.ListedLaws.{listed_inside}
use Rattle.lists.specs.RecordLaws.{front_is, missing_under, in_moving, in_moved}
use borrow.Author.Rules.{rules}
use Rattle.lists.proofs.change.insert_moving.Goals as goal

pub insert_aside-requires : goal.insert_aside-requires
insert_aside-requires c = (missing_under _ _ _ _ _ _ c.requires.missing.0, listed_inside _ _ _ _ c.requires.missing.0.listed, search rules)

pub move_list-requires : goal.move_list-requires
move_list-requires c = in_moving _ _ _ _ _ _ c.requires.missing.0 c.requires.missing.1 _ (front_is _ _ _ _ c.insert_aside.ensures (length-grown _ _ _ _ _ (missing_under _ _ _ _ _ _ c.requires.missing.0) (listed_inside _ _ _ _ c.requires.missing.0.listed))) c.requires.missing.2 c.requires.home_value

pub returns : goal.returns
returns c = in_moved _ _ _ _ _ _ c.requires.missing.0 c.requires.missing.1 _ (front_is _ _ _ _ c.insert_aside.ensures (length-grown _ _ _ _ _ (missing_under _ _ _ _ _ _ c.requires.missing.0) (listed_inside _ _ _ _ c.requires.missing.0.listed))) _ c.move_list.ensures
