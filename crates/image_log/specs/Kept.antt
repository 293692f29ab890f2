-- The claim in the user's words: which index is found after a switch-off, and that a completed commit is kept.
use Rattle.std.specs.Prelude.{◌≡◌, Bool, ◌⊎◌, Ok}
use Prim.Native.Nat.{ℕ, ◌+◌, ◌*◌, ◌≤◌, ◌<◌}
use mathlib.Core.List.{List}
use Rattle.redo.specs.Image.{capacity, mark, home}
use Rattle.image_log.specs.declared.Stored.TheVariants.{Done}
use Rattle.image_log.specs.Calls.{answer, after, recover_plan, commit_plan}
use Rattle.image_log.specs.Book.{Call, recover, Book, start, book_after}

-- the book after a list of calls that starts on l
abbrev pub book_of : (List ℕ → Bool) → List ℕ → List Call → Book
book_of accept l cs = book_after accept (capacity l) cs (start (home l))

-- the image after one more recovery or commit
abbrev pub recovered : List ℕ → ℕ → List ℕ
recovered x n = after (recover_plan x) n x

abbrev pub committed : (List ℕ → Bool) → List ℕ → List ℕ → ℕ → List ℕ
committed accept x w n = after (commit_plan accept x w) n x

pub data IsRecover : Call → Type 0 where
  is_recover : (n v : ℕ) → IsRecover (recover n v)

-- "A user who switches off in the middle of any byte of a commit or recovery finds": a commit of w with k pages had n whole stores, and v in the byte of the next one
pub record Finds (n v k : ℕ) (old w found : List ℕ) : Type 0 where
  -- "the old index if the store of 165 hadn't begun"
  pub before : n < 66 * k + 2 → found ≡ old
  -- "the new one if it went through whole"
  pub whole : 66 * k + 3 ≤ n → found ≡ w
  -- "and one of the two, entire, if it was the byte caught"
  pub halfway : n ≡ 66 * k + 2 → (found ≡ old) ⊎ (found ≡ w)
  -- with the value of a mark there, that mark's
  pub halfway_clear : n ≡ 66 * k + 2 → v ≡ 0 → found ≡ old
  pub halfway_set : n ≡ 66 * k + 2 → v ≡ 165 → found ≡ w

-- what is found in x: with mark 0 home at once, and with any mark what the first recovery to finish leaves, with mark 0
pub record Found (n v k : ℕ) (old w x : List ℕ) : Type 0 where
  pub at_once : mark x ≡ 0 → Finds n v k old w (home x)
  pub finished : (j m : ℕ) → answer (recover_plan x) j ≡ Ok (Done m) → Finds n v k old w (home (recovered x j)) × (mark (recovered x j) ≡ 0)
