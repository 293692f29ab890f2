-- The bytes of home: a layout to bytes, and back.
use Rattle.std.specs.Prelude.{List, [], ◌∷◌, ◌++◌, map, ℕ, zero, suc, ◌+◌, ◌*◌, ◌-◌, ltb, eqb, length, get_or, replicate}
use Rattle.wire.specs.Bytes.{pick, over, get16, get32, bytes16, bytes32}
use Rattle.records.specs.Records.{records, encode as record_bytes}
use Rattle.layout.specs.Capacities.{capacity, cells}
use Rattle.layout.specs.Zones.{Block, Zone, empty, from, zone, blocks}

-- ---- a layout's bytes

-- "A block is one cell of header, tag (4), record count (2), two zero bytes, then its records, then zero cells": a block of class c
unfoldable pub block_bytes : ℕ → ℕ → Block → List ℕ
unfolding bytes16 bytes32 record_bytes
block_bytes step c b =
    bytes32 b.tag ++ (bytes16 (length b.list) ++ (0 ∷ 0 ∷ (record_bytes b.list ++ replicate (8 * (capacity step c - length b.list)) 0)))

-- a block with its first cell and its class
pub record Spot : Type 0 where
  pub cell : ℕ
  pub class : ℕ
  pub block : Block

-- blocks of class c from cell p on, one directly after the other
unfoldable pub row : ℕ → ℕ → ℕ → List Block → List Spot
row step c p [] = []
row step c p (x ∷ xs) = record { cell = p; class = c; block = x } ∷ row step c (p + cells step c) xs

-- the blocks of zones c and up
unfoldable pub spots : ℕ → ℕ → List Zone → List Spot
unfolding row
spots step c [] = []
spots step c (empty ∷ zs) = spots step (suc c) zs
spots step c (from f x xs ∷ zs) = row step c f (x ∷ xs) ++ spots step (suc c) zs

-- each block's bytes written from its first cell on
unfoldable pub paint : ℕ → List Spot → List ℕ → List ℕ
unfolding over block_bytes
paint step [] a = a
paint step (s ∷ ss) a = over (paint step ss a) (8 * s.cell) (block_bytes step s.class s.block)

-- "the record area", here of n "cells of 8 bytes"; "every cell in no zone is zero"
unfoldable pub area : ℕ → ℕ → List Zone → List ℕ
unfolding paint spots
area step n zs = paint step (spots step 0 zs) (replicate (8 * n) 0)

-- "For each class c .. the zone's first cell (2) and its block count (2); an empty zone has first cell 0"
unfoldable pub zone_entries : List Zone → List ℕ
unfolding bytes16
zone_entries [] = []
zone_entries (empty ∷ zs) = 0 ∷ 0 ∷ 0 ∷ 0 ∷ zone_entries zs
zone_entries (from f x xs ∷ zs) = bytes16 f ++ (bytes16 (suc (length xs)) ++ zone_entries zs)

-- "entries of tag (4) and block's first cell (2)"
pub record Entry : Type 0 where
  pub tag : ℕ
  pub cell : ℕ

abbrev pub entry_of : Spot → Entry
entry_of s = record { tag = s.block.tag; cell = s.cell }

-- "strictly rising by tag": an entry before the first of a higher tag, and all of them in that order
unfoldable pub enter : Entry → List Entry → List Entry
enter x [] = x ∷ []
enter x (y ∷ ys) = pick (ltb x.tag y.tag) (x ∷ y ∷ ys) (y ∷ enter x ys)

unfoldable pub sorted : List Entry → List Entry
unfolding enter
sorted [] = []
sorted (x ∷ xs) = enter x (sorted xs)

-- "the dictionary": every block's tag and first cell
unfoldable pub dictionary : ℕ → List Zone → List Entry
unfolding sorted spots
dictionary step zs = sorted (map entry_of (spots step 0 zs))

-- its bytes
unfoldable pub entries_bytes : List Entry → List ℕ
unfolding bytes16 bytes32
entries_bytes [] = []
entries_bytes (x ∷ xs) = bytes32 x.tag ++ (bytes16 x.cell ++ entries_bytes xs)

-- "Bytes 128–1,663 are the dictionary: up to 256 entries .., zero after the last"
unfoldable pub padded : List Entry → List ℕ
unfolding entries_bytes
padded ds = entries_bytes ds ++ replicate (1536 - 6 * length ds) 0

-- "Home byte 122 now carries a step code"; bytes 123 to 127 are zero
abbrev pub step_bytes : ℕ → List ℕ
step_bytes k = k ∷ 0 ∷ 0 ∷ 0 ∷ 0 ∷ 0 ∷ []

abbrev pub step_of : List ℕ → ℕ
step_of h = get_or h 122 0

-- home's bytes with R record pages: "bytes 0–1 hold the tag count", zone entries, the step code, dictionary, "From byte 1,664 lies the record area of 8R cells"
unfoldable pub encode : ℕ → ℕ → List Zone → List ℕ
unfolding bytes16 zone_entries dictionary padded area blocks
encode step R zs = bytes16 (length (blocks zs)) ++ (zone_entries zs ++ (step_bytes step ++ (padded (dictionary step zs) ++ area step (8 * R) zs)))

-- ---- back, of any bytes h

-- where a cell lies in home, and where a zone's entry lies
abbrev pub cell_at : ℕ → ℕ
cell_at p = 1664 + 8 * p

-- a block's records begin behind its header
abbrev pub list_at : ℕ → ℕ
list_at p = cell_at p + 8

abbrev pub zone_entry_at : ℕ → ℕ
zone_entry_at c = 2 + 4 * c

-- a block's record count, and the block
abbrev pub count_at : List ℕ → ℕ → ℕ
count_at h p = get16 h (cell_at p + 4)

unfoldable pub block_at : List ℕ → ℕ → Block
unfolding get16 get32 records
block_at h p = record { tag = get32 h (cell_at p); list = records h (list_at p) (count_at h p) }

-- n blocks of class c from cell p on
unfoldable pub blocks_at : ℕ → List ℕ → ℕ → ℕ → ℕ → List Block
unfolding block_at
blocks_at step h c p zero = []
blocks_at step h c p (suc n) = block_at h p ∷ blocks_at step h c (p + cells step c) n

-- zone c's first cell, its block count, and the zone
abbrev pub first_at : List ℕ → ℕ → ℕ
first_at h c = get16 h (zone_entry_at c)

abbrev pub many_at : List ℕ → ℕ → ℕ
many_at h c = get16 h (zone_entry_at c + 2)

unfoldable pub zone_at : ℕ → List ℕ → ℕ → Zone
unfolding get16 blocks_at zone
zone_at step h c = zone (first_at h c) (blocks_at step h c (first_at h c) (many_at h c))

-- where it ends, if the lower zones end at e: an empty one changes nothing
unfoldable pub end_at : ℕ → List ℕ → ℕ → ℕ → ℕ
unfolding get16 cells
end_at step h c e = pick (eqb (many_at h c) 0) e (first_at h c + many_at h c * cells step c)

-- n zones from class c on
unfoldable pub zones_from : ℕ → List ℕ → ℕ → ℕ → List Zone
unfolding zone_at
zones_from step h c zero = []
zones_from step h c (suc n) = zone_at step h c ∷ zones_from step h (suc c) n

-- the layout that home's bytes tell, by their step code
unfoldable pub decode : List ℕ → List Zone
decode h = zones_from (step_of h) h 0 30

-- the dictionary's i-th entry
abbrev pub tag_at : List ℕ → ℕ → ℕ
tag_at h i = get32 h (128 + 6 * i)

abbrev pub entry_cell : List ℕ → ℕ → ℕ
entry_cell h i = get16 h (128 + 6 * i + 4)

-- n entries from the i-th on
unfoldable pub entries_at : List ℕ → ℕ → ℕ → List Entry
entries_at h i zero = []
entries_at h i (suc n) = record { tag = tag_at h i; cell = entry_cell h i } ∷ entries_at h (suc i) n

-- the tags of the first n, and of all
abbrev pub first_tags : List ℕ → ℕ → List ℕ
first_tags h n = map (λ (d : Entry). d.tag) (entries_at h 0 n)

abbrev pub tags_of : List ℕ → List ℕ
tags_of h = first_tags h (get16 h 0)
