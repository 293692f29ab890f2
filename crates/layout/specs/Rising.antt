-- Tables of sizes and classes by which blocks can be moved.
use Rattle.std.specs.Prelude.{ℕ, suc, ◌≤◌, ◌<◌}

-- the cells of a block of each class, and the class of each number of records. "every rising table of sizes": what is known of moving blocks rests on this alone
pub record Rising (cells class_of : ℕ → ℕ) : Type 0 where
  pub mono : (c : ℕ) → cells c ≤ cells (suc c)
  pub pos : (c : ℕ) → 0 < cells c
  pub most : (c : ℕ) → cells c ≤ 990
  pub holds : (n : ℕ) → n ≤ 989 → n < cells (class_of n)
  pub below : (n : ℕ) → n ≤ 989 → class_of n < 30
  pub ordered : (m n : ℕ) → m ≤ n → class_of m ≤ class_of n
