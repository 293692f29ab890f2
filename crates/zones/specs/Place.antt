-- A block placed: what it needs, and the bytes afterwards.
use Rattle.std.specs.Prelude.{◌≡◌, true, false, List, ◌∷◌, ◌++◌, ℕ, ◌+◌, ◌*◌, ◌-◌, ◌/◌, ◌≤◌, ◌<◌, length, replicate}
use Rattle.std.proofs.Math.Option.{Option, map}
use Rattle.wire.specs.Bytes.{over, get16, bytes16, bytes32}
use Rattle.records.specs.Records.{rising, decode as records_in}
use Rattle.layout.specs.Capacities.{cells, class_of}
use Rattle.layout.specs.Zones.{Block, Zone, blocks, has_tag, place}
use Rattle.home.specs.Bytes.{step_of, decode, cell_at, first_at, many_at, end_at}
use Rattle.home.specs.Sound.{pages_of, sound}
use Rattle.home.specs.Lookup.{Ordered}
use Rattle.moves.specs.Moves.{zoned, entered}
use Rattle.seats.specs.Seat.{first_with, end_from, raised, seated, Stacked}

-- a whole block of class c: tag t and the bytes bs of its list
unfoldable pub whole_block : ℕ → ℕ → ℕ → List ℕ → List ℕ
unfolding bytes16 bytes32 cells
whole_block step c t bs = bytes32 t ++ (bytes16 (length bs / 8) ++ (0 ∷ 0 ∷ (bs ++ replicate (8 * cells step c - 8 - length bs) 0)))

-- room at cell p for a block of class c with tag t and the bytes bs of its list
pub record RoomAt (step : ℕ) (h : List ℕ) (c p t : ℕ) (bs : List ℕ) : Type 0 where
  pub class : c < 30
  pub long : 1664 ≤ length h
  pub inside : cell_at p + 8 * cells step c ≤ length h
  pub fits : length bs + 8 ≤ 8 * cells step c
  pub ordered : Ordered (over h (cell_at p) (whole_block step c t bs))
  pub few : get16 (over h (cell_at p) (whole_block step c t bs)) 0 < 256

-- home with that block, its tag's entry, and its zone's
unfoldable pub with_block : ℕ → List ℕ → ℕ → ℕ → ℕ → List ℕ → List ℕ
with_block step h c p t bs = zoned (entered (over h (cell_at p) (whole_block step c t bs)) t p) c (first_with (many_at h c) (first_at h c) p) (many_at h c + 1)

-- "placing from a class up, given that end": zones c and up of home's bytes, where the lower ones end at e, with a block of that class or a higher one
unfoldable pub placed_from : ℕ → List ℕ → ℕ → ℕ → ℕ → List ℕ → Option (List ℕ)
unfolding end_from end_at raised with_block
placed_from step h c e t bs =
    let k : ℕ = class_of step (length bs / 8) in
    let end : ℕ = end_from step (k - c) h c e in
    map (λ (x : List ℕ). with_block step x k (end_at step h k end) t bs) (seated step h k (first_at h k) (many_at h k) end)

-- bytes no longer than a home of 1,024 pages, of which only the dictionary, zones c and up, and e are spoken of; and a list of class c or above
pub record From (step : ℕ) (h : List ℕ) (c e : ℕ) (bs : List ℕ) : Type 0 where
  pub long : length h ≤ 67200
  pub ordered : Ordered h
  pub few : get16 h 0 < 256
  pub above : Stacked step (30 - c) h c e
  pub class : c ≤ class_of step (length bs / 8)
  pub whole : length bs ≡ 8 * (length bs / 8)
  pub most : length bs / 8 ≤ 989

-- ---- in a sound home

-- the block of tag t with the records in bs
abbrev pub block_in : ℕ → List ℕ → Block
block_in t bs = record { tag = t; list = records_in bs }

-- the layout with that block placed
abbrev pub placed_in : List ℕ → ℕ → List ℕ → Option (List Zone)
placed_in h t bs = place (cells (step_of h)) (8 * pages_of h) 0 0 (class_of (step_of h) (length bs / 8)) (block_in t bs) (decode h)

-- a sound home in which tag t has no block, and a list for it
pub record Placeable (h : List ℕ) (t : ℕ) (bs : List ℕ) : Type 0 where
  pub sound : sound h ≡ true
  pub new : has_tag t (blocks (decode h)) ≡ false
  pub few : length (blocks (decode h)) < 256
  pub whole : length bs ≡ 8 * (length bs / 8)
  pub some : 0 < length bs / 8
  pub most : length bs / 8 ≤ 989
  pub rising : rising (records_in bs) ≡ true
