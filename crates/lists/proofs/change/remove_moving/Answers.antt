use Rattle.lists.specs.ListsLaws.{length-shrunk}
use Rattle.lists.specs.ListedLaws.{listed_inside}
use Rattle.lists.specs.RecordLaws.{front_is, ranked-under, out_moving, out_moved}
use borrow.Author.Rules.{rules}
use Rattle.lists.proofs.change.remove_moving.Goals as goal

pub remove_aside-requires : goal.remove_aside-requires
remove_aside-requires c = (ranked-under _ _ _ _ _ c.requires.0, listed_inside _ _ _ _ c.requires.0.listed, search rules)

pub move_list-requires : goal.move_list-requires
move_list-requires c = out_moving _ _ _ _ _ c.requires.0 _ (front_is _ _ _ _ c.remove_aside.ensures (length-shrunk _ _ _ _ (ranked-under _ _ _ _ _ c.requires.0) (listed_inside _ _ _ _ c.requires.0.listed))) c.requires.1 c.requires.2

pub returns : goal.returns
returns c = out_moved _ _ _ _ _ c.requires.0 _ (front_is _ _ _ _ c.remove_aside.ensures (length-shrunk _ _ _ _ (ranked-under _ _ _ _ _ c.requires.0) (listed_inside _ _ _ _ c.requires.0.listed))) _ c.move_list.ensures
