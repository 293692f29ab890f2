-- What the head says of an image to a call on it.
use Rattle.std.specs.Prelude.{ℕ, List, eqb, Ok, Err}
use Rattle.std.specs.declared.result.Result.{Result}
use Rattle.wire.specs.Bytes.{pick}
use Rattle.redo.specs.Image.{mark, head_ok}
use Rattle.refusals.specs.declared.Refusal.{Refusal}
use Rattle.refusals.specs.declared.Refusal.TheVariants.{BadHead}
use Rattle.image_log.specs.declared.Mark.{Mark}
use Rattle.image_log.specs.declared.Mark.TheVariants.{Clear, Committed, Spoiled}

-- what an image call meets first: refused with 1, mark 0, mark 165, or any other mark
unfoldable pub head_of : List ℕ → Result Mark Refusal
head_of l =
    pick (head_ok l)
    (Ok (pick (eqb (mark l) 0) Clear (pick (eqb (mark l) 165) Committed Spoiled)))
    (Err BadHead)
