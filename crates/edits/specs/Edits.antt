-- The edits of a sound home.
use Rattle.std.specs.Prelude.{Bool, List, ℕ, ◌+◌, ◌*◌, leb, length, Ok}
use Rattle.refusals.specs.declared.Refusal.{Refusal}
use Rattle.refusals.specs.declared.Refusal.TheVariants.{ListFull, PitFull}
use Rattle.refusals.specs.Rules.{Answer, Ruled}
use Rattle.records.specs.declared.Record.{Record}
use Rattle.layout.specs.Capacities.{cells}
use Rattle.layout.specs.Zones.{total}
use Rattle.layout.specs.Edits.{Edit, delete, set_minutes, drop_tag}
use Rattle.home.specs.Layout.{put}
use Rattle.home.specs.Bytes.{step_of, decode}
use Rattle.home.specs.Sound.{pages_of}
use Rattle.lists.specs.Listed.{changed}
use Rattle.edits.specs.declared.Terminal.{Terminal}
use Rattle.edits.specs.declared.Terminal.TheVariants.{Desk, Pit}

-- an edit of tag t in home's bytes
abbrev pub edited : List ℕ → ℕ → Edit → Ruled Answer
edited h t e = record { rules = e.rules; answer = Ok (length e.list); bytes = changed h t e.list }

-- "10: put to a list of 989", "17 a pit put to a list of 64 or more": how many records close a list to a terminal, and the refusal then
unfoldable pub limit_of : Terminal → ℕ
limit_of Desk = 989
limit_of Pit = 64

unfoldable pub full_of : Terminal → Refusal
full_of Desk = ListFull
full_of Pit = PitFull

-- each on the layout in home's bytes
abbrev pub put_of : Terminal → List ℕ → ℕ → Record → Edit
put_of by h t r = put (step_of h) (8 * pages_of h) (limit_of by) (full_of by) t r (decode h)

abbrev pub put_in : Terminal → List ℕ → ℕ → Record → Ruled Answer
put_in by h t r = edited h t (put_of by h t r)

abbrev pub delete_in : List ℕ → ℕ → ℕ → Ruled Answer
delete_in h t k = edited h t (delete t k (decode h))

abbrev pub set_in : List ℕ → ℕ → ℕ → ℕ → Ruled Answer
set_in h t k m = edited h t (set_minutes t k m (decode h))

abbrev pub drop_in : List ℕ → ℕ → Ruled Answer
drop_in h t = edited h t (drop_tag t (decode h))

-- do all blocks fit in the area once one of class d stands for one of class c
abbrev pub fits_after : ℕ → List ℕ → ℕ → ℕ → Bool
fits_after step h c d = leb (total (cells step) 0 (decode h) + cells step d) (8 * pages_of h + cells step c)
