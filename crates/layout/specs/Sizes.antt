-- The sizes of all blocks, by their lists, and after an edit.
use Rattle.std.specs.Prelude.{List, [], ◌∷◌, ℕ, ◌+◌, ◌-◌, length}
use Rattle.records.specs.declared.Record.{Record}
use Rattle.layout.specs.Zones.{Block, Zone, blocks, find, total}
use Rattle.layout.specs.Perm.{sum}

module _ (cells : ℕ → ℕ) where
  -- the size of a list's block; the empty list has none
  unfoldable pub block_size : (ℕ → ℕ) → List Record → ℕ
  block_size class_of [] = 0
  block_size class_of (r ∷ rs) = cells (class_of (length (r ∷ rs)))

  -- "the sizes of all blocks", by their lists
  abbrev pub sizes : (ℕ → ℕ) → List Block → ℕ
  sizes class_of bs = sum (λ (b : Block). block_size class_of b.list) bs

  -- "the sizes of all blocks after the edit" by which tag t's list becomes rs: of all before it, less the tag's old block, with its new one
  unfoldable pub total_after : (ℕ → ℕ) → ℕ → List Record → List Zone → ℕ
  unfolding total block_size
  total_after class_of t rs zs = total cells 0 zs - block_size class_of (find t (blocks zs)) + block_size class_of rs
