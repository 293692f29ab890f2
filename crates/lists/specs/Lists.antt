-- A tag's list changed where its block lies in home's bytes, and the changed list made aside. The block lies at cell p and has n records.
use Rattle.std.specs.Prelude.{List, ◌++◌, ℕ, ◌+◌, ◌*◌, ◌-◌, replicate}
use Rattle.wire.specs.Bytes.{part, over, bytes16}
use Rattle.records.specs.declared.Record.{Record}
use Rattle.records.specs.Records.{bytes_of, amended}
use Rattle.layout.specs.Zones.{Block}
use Rattle.home.specs.Bytes.{cell_at, list_at}

-- a block with another list
abbrev pub holding : Block → List Record → Block
holding b rs = record { tag = b.tag; list = rs }

-- ---- the list's bytes

-- with a record before the j-th
unfoldable pub grown : List ℕ → ℕ → ℕ → ℕ → Record → List ℕ
grown h p n j r = part h (list_at p) (8 * j) ++ (bytes_of r ++ part h (list_at p + 8 * j) (8 * (n - j)))

-- without the j-th
unfoldable pub shrunk : List ℕ → ℕ → ℕ → ℕ → List ℕ
shrunk h p n j = part h (list_at p) (8 * j) ++ part h (list_at p + 8 * j + 8) (8 * (n - (j + 1)))

-- ---- home's bytes

-- a block's records written, and their count
unfoldable pub relisted : List ℕ → ℕ → ℕ → List ℕ → List ℕ
unfolding bytes16
relisted h p n bs = over (over h (list_at p) bs) (cell_at p + 4) (bytes16 n)

unfoldable pub inserted_here : List ℕ → ℕ → ℕ → ℕ → Record → List ℕ
unfolding grown relisted
inserted_here h p n j r = relisted h p (n + 1) (grown h p n j r)

-- "Freed cells become zero"
unfoldable pub removed_here : List ℕ → ℕ → ℕ → ℕ → List ℕ
unfolding shrunk relisted
removed_here h p n j = relisted h p (n - 1) (shrunk h p n j ++ replicate 8 0)

unfoldable pub set_here : List ℕ → ℕ → ℕ → ℕ → ℕ → List ℕ
unfolding amended
set_here h p n j m = over h (list_at p) (amended (part h (list_at p) (8 * n)) j m)
