-- Soundness as a program tests it: loops over the bytes of home. That these tests together are `sound` of home is in ChecksLaws.
use Rattle.std.specs.Prelude.{Bool, true, false, ◌&&◌, ◌||◌, List, ℕ, zero, suc, ◌+◌, ◌*◌, ◌-◌, ◌%◌, leb, ltb, eqb}
use Rattle.wire.specs.Bytes.{pick, part, get16, get32, blank}
use Rattle.records.specs.Records.{rising, records}
use Rattle.layout.specs.Capacities.{capacity, cells, class_of}
use Rattle.home.specs.Bytes.{step_of, cell_at, count_at, first_at, many_at, tag_at, entry_cell, end_at}
use Rattle.home.specs.Sound.{pages_of, sized}

-- a block at cell p in zone c: conditions 11, 13, 7, 12 and 8
unfoldable pub block_fine : ℕ → List ℕ → ℕ → ℕ → Bool
block_fine step h c p =
    let n : ℕ = count_at h p in
    ltb 0 n
    && (ltb n 990 && (eqb (class_of step n) c && (eqb (get16 h (cell_at p + 6)) 0 && (rising (records h (cell_at p + 8) n) && blank (part h (cell_at p + 8 + 8 * n) (8 * (capacity step c - n)))))))

-- n blocks from cell p on
unfoldable pub blocks_fine : ℕ → List ℕ → ℕ → ℕ → ℕ → Bool
blocks_fine step h c p zero = true
blocks_fine step h c p (suc n) = block_fine step h c p && blocks_fine step h c (p + cells step c) n

-- m blocks of s cells from cell f on, where the lower zones end at e: conditions 9 and 10
abbrev pub lies : ℕ → ℕ → ℕ → ℕ → ℕ → Bool
lies area e s f m = leb e f && (ltb f (e + s) && leb (f + m * s) area)

-- zone c, where the lower zones end at e, in an area of so many cells: conditions 3, 9, 10 and 16
unfoldable pub zone_fine : ℕ → List ℕ → ℕ → ℕ → ℕ → Bool
zone_fine step h area c e =
    pick (eqb (many_at h c) 0) (eqb (first_at h c) 0)
    (leb e (first_at h c)
    && (ltb (first_at h c) (e + cells step c)
    && (leb (first_at h c + many_at h c * cells step c) area && (blank (part h (cell_at e) (8 * (first_at h c - e))) && blocks_fine step h c (first_at h c) (many_at h c)))))

-- n zones from class c on, and what lies behind them
unfoldable pub zones_fine : ℕ → List ℕ → ℕ → ℕ → ℕ → ℕ → Bool
zones_fine step h area c e zero = leb e area && blank (part h (cell_at e) (8 * (area - e)))
zones_fine step h area c e (suc n) = zone_fine step h area c e && zones_fine step h area (suc c) (end_at step h c e) n

-- how many blocks they have
unfoldable pub many_in : List ℕ → ℕ → ℕ → ℕ
many_in h c zero = 0
many_in h c (suc n) = many_at h c + many_in h (suc c) n

-- is p the first cell of a block of zone c
unfoldable pub starts : ℕ → List ℕ → ℕ → ℕ → Bool
starts step h c p = leb (first_at h c) p && (ltb p (first_at h c + many_at h c * cells step c) && eqb ((p - first_at h c) % cells step c) 0)

-- or of a block of these zones
unfoldable pub leads : ℕ → List ℕ → ℕ → ℕ → ℕ → Bool
unfolding starts
leads step h c zero p = false
leads step h c (suc n) p = starts step h c p || leads step h (suc c) n p

-- n entries from the i-th on, of which no tag is below `low`: conditions 5 and 14
unfoldable pub tags_fine : ℕ → List ℕ → ℕ → ℕ → ℕ → Bool
tags_fine step h low i zero = true
tags_fine step h low i (suc n) =
    leb low (tag_at h i) && (leads step h 0 30 (entry_cell h i) && (eqb (get32 h (cell_at (entry_cell h i))) (tag_at h i) && tags_fine step h (tag_at h i + 1) (suc i) n))

-- condition 4: byte 122 is 0 or 1, bytes 123-127 are zero
unfoldable pub coded : List ℕ → Bool
coded h = leb (step_of h) 1 && blank (part h 123 5)

-- all of it: conditions 1, 2, 4, the zones, 15, the dictionary and 6
unfoldable pub checked : List ℕ → Bool
checked h =
    sized h
    && (leb (get16 h 0) 256
    && (coded h
    && (zones_fine (step_of h) h (8 * pages_of h) 0 0 30
    && (eqb (many_in h 0 30) (get16 h 0)
    && (tags_fine (step_of h) h 0 0 (get16 h 0)
    && blank (part h (128 + 6 * get16 h 0) (1536 - 6 * get16 h 0)))))))

-- ---- a dictionary entry by the block that it leads to: the same, where the zones are fine

-- is p the first cell of a block of the zone that the count there names
unfoldable pub leads_at : ℕ → List ℕ → ℕ → ℕ → Bool
leads_at step h area p = ltb p area && (ltb (count_at h p) 990 && starts step h (class_of step (count_at h p)) p)

-- the i-th entry
unfoldable pub entry_fine : ℕ → List ℕ → ℕ → ℕ → ℕ → Bool
entry_fine step h area low i = leb low (tag_at h i) && (leads_at step h area (entry_cell h i) && eqb (get32 h (cell_at (entry_cell h i))) (tag_at h i))
