-- The claim about whole lists of commits and recoveries, cut and caught anywhere, refused ones included.
use Rattle.std.specs.Prelude.{◌≡◌, Bool, not, length, eqb, Ok}
use Rattle.std.proofs.Math.Bool.{true}
use Prim.Native.Nat.{ℕ}
use mathlib.Core.List.{List}
use Rattle.redo.specs.Image.{capacity, record_pages, mark, home, head_ok}
use Rattle.image_log.specs.declared.Stored.TheVariants.{Done}
use Rattle.image_log.specs.Calls.{answer, after, recover_plan}
use Rattle.image_log.specs.Book.{Call, report, recover_need, trace, Book, start, ledger}

-- "The list starts on a sound image with mark 0": a right head, mark 0 and accepted home
pub record Starts (accept : List ℕ → Bool) (l : List ℕ) : Type 0 where
  pub head : head_ok l ≡ true
  pub unmarked : mark l ≡ 0
  pub fine : accept (home l) ≡ true

-- The list starts on l. b is the book after it, x the image.
pub record Claim (accept : List ℕ → Bool) (l : List ℕ) (cs : List Call) (b : Book) (x : List ℕ) : Type 0 where
  -- each call has given the book's answer, and left every byte as after that many of its stores, the next one's as told if it was cut
  pub calls : trace accept cs l ≡ ledger accept (capacity l) cs (start (home l)) l
  -- the image's mark is the book's
  pub marks : mark x ≡ b.mark
  -- p isn't 0 exactly with mark 165
  pub owes : eqb b.owed 0 ≡ not (eqb b.mark 165)
  -- with every mark but 165 the home bytes are H
  pub stands : (mark x ≡ 165 → ⊥) → home x ≡ b.kept
  -- with any mark, a recovery is done next if it is allowed no store with mark 0, 64p + 1 with mark 165, one with any other, and otherwise cut
  pub needs : (n : ℕ) → answer (recover_plan x) n ≡ Ok (report (recover_need b) n)
  -- one that is done leaves home bytes H and mark 0
  pub recovers : (n m : ℕ) → answer (recover_plan x) n ≡ Ok (Done m) → (home (after (recover_plan x) n x) ≡ b.kept) × (mark (after (recover_plan x) n x) ≡ 0)
  -- length, L and R are as at the start
  pub long : length x ≡ length l
  pub same_capacity : capacity x ≡ capacity l
  pub same_pages : record_pages x ≡ record_pages l
  -- what is kept is accepted, and so is what was last logged
  pub fine : accept b.kept ≡ true
  pub fine_logged : accept b.logged ≡ true
