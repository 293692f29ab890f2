-- What holds of an image and the book between the calls of a list, and that any value in the mark keeps it.
use Rattle.std.specs.Prelude.{◌≡◌, Bool, true, ℕ, ◌*◌, List, length}
use Rattle.redo.specs.Image.{mark, pages, home}
use Rattle.redo.specs.ImageLaws.{SameHead}
use Rattle.image_log.specs.Book.{Book}
use Rattle.image_log.specs.Logged.{Logged}

-- settled: mark 0, and home is what is kept. Owing: mark 165, and the log holds what is kept.
-- Spoiled: any other mark, home is what is kept, and the log holds the workspace last logged
pub data State (l : List ℕ) (b : Book) : Type 0 where
  settled : b.mark ≡ 0 → b.owed ≡ 0 → home l ≡ b.kept → State l b
  owing : b.mark ≡ 165 → b.owed ≡ b.logged_pages → b.kept ≡ b.logged → Logged l b.logged b.logged_pages → State l b
  spoiled : (b.mark ≡ 0 → ⊥) → (b.mark ≡ 165 → ⊥) → b.owed ≡ 0 → home l ≡ b.kept → Logged l b.logged b.logged_pages → State l b

-- what is kept and what was last logged are accepted, and as long as home
pub record Fits (accept : List ℕ → Bool) (l₀ : List ℕ) (b : Book) : Type 0 where
  pub fine : accept b.kept ≡ true
  pub long : length b.kept ≡ 64 * pages l₀
  pub fine_logged : accept b.logged ≡ true
  pub long_logged : length b.logged ≡ 64 * pages l₀

-- of the image l and the book b, in a list of calls that started on l₀
pub record Holds (accept : List ℕ → Bool) (l₀ l : List ℕ) (b : Book) : Type 0 where
  pub head : SameHead l₀ l
  pub fits : Fits accept l₀ b
  pub marks : mark l ≡ b.mark
  pub state : State l b

-- the log is whole, and home is what is kept
pub record Ready (accept : List ℕ → Bool) (l₀ x : List ℕ) (b : Book) : Type 0 where
  pub head : SameHead l₀ x
  pub fits : Fits accept l₀ b
  pub stands : home x ≡ b.kept
  pub log : Logged x b.logged b.logged_pages
