-- Where a tag stands in the dictionary, and its block.
use Rattle.std.specs.Prelude.{Bool, false, ◌||◌, List, ℕ, zero, suc, ◌+◌, ◌*◌, ◌≤◌, ◌<◌, ltb, eqb, length, Ok, Err, Some, None}
use Rattle.wire.specs.Bytes.{pick, get16}
use Rattle.std.specs.declared.result.Result.{Result}
use Rattle.std.specs.declared.option.Option.{Option}
use Rattle.home.specs.declared.lookup.Block.{Block}
use Rattle.home.specs.Bytes.{list_at, tag_at, entry_cell, count_at}

-- "up to 256 entries .., strictly rising by tag": a dictionary in which a tag can be found
pub record Ordered (h : List ℕ) : Type 0 where
  pub few : get16 h 0 ≤ 256
  pub long : 1664 ≤ length h
  pub rise : (i j : ℕ) → i < j → j < get16 h 0 → tag_at h i < tag_at h j

-- has one of the n entries from the i-th on this tag
unfoldable pub has_entry : List ℕ → ℕ → ℕ → ℕ → Bool
has_entry h t i zero = false
has_entry h t i (suc n) = eqb (tag_at h i) t || has_entry h t (suc i) n

-- how many of them stand before it: those at the front of a rising dictionary
unfoldable pub rank_at : List ℕ → ℕ → ℕ → ℕ → ℕ
rank_at h t i zero = 0
rank_at h t i (suc n) = pick (ltb (tag_at h i) t) (suc (rank_at h t (suc i) n)) 0

-- the number of a tag's entry, or of the one that it would be
abbrev pub index_of : List ℕ → ℕ → ℕ
index_of h t = rank_at h t 0 (get16 h 0)

-- the entry that has it, or would have it
unfoldable pub slot_of : List ℕ → ℕ → Result ℕ ℕ
slot_of h t = pick (has_entry h t 0 (get16 h 0)) (Ok (index_of h t)) (Err (index_of h t))

-- a block with its first cell and its record count
abbrev pub known : ℕ → ℕ → Option Block
known p n = Some (record { cell = p; count = n })

-- "each dictionary entry leads to a block's first cell bearing its tag": the block's first cell and its record count
unfoldable pub slot_block : List ℕ → Result ℕ ℕ → Option Block
slot_block h (Ok i) = known (entry_cell h i) (count_at h (entry_cell h i))
slot_block h (Err i) = None

unfoldable pub block_of : List ℕ → ℕ → Option Block
unfolding slot_block slot_of
block_of h t = slot_block h (slot_of h t)

-- a block's records lie in home's bytes
abbrev pub Within : List ℕ → Block → Type 0
Within h b = list_at b.cell + 8 * b.count ≤ length h

-- where its records begin in home, behind the header; 0 for an unknown tag
unfoldable pub behind_header : Option Block → ℕ
behind_header (Some b) = list_at b.cell
behind_header None = 0

unfoldable pub offset_of : List ℕ → ℕ → ℕ
unfolding behind_header block_of
offset_of h t = behind_header (block_of h t)
