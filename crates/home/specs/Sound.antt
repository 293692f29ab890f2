-- Which bytes are a sound home.
use Rattle.std.specs.Prelude.{◌≡◌, Bool, ◌&&◌, List, ℕ, ◌+◌, ◌*◌, ◌-◌, ◌/◌, ◌≤◌, leb, eqb, length}
use Rattle.wire.specs.Bytes.{part, blank, equal}
use Rattle.records.specs.declared.Record.{Record}
use Rattle.layout.specs.Zones.{Zone, blocks, find}
use Rattle.home.specs.Layout.{Valid, valid}
use Rattle.home.specs.Bytes.{step_of, encode, decode}

-- "26 + R pages", of 64 bytes
abbrev pub pages_of : List ℕ → ℕ
pages_of h = length h / 64 - 26

-- "R is 1 to 1,024"
unfoldable pub sized : List ℕ → Bool
sized h = leb 1 (pages_of h) && (leb (pages_of h) 1024 && eqb (length h) (64 * (26 + pages_of h)))

-- "Home is sound if all this holds": the step code is one of the two, the layout read off the bytes is valid with its sizes, and its bytes are these. The 16 conditions, and what asks for each
-- (the crate `sound` asks for them one by one in the bytes: Checks there, and ChecksLaws says that this is the same):
--   1 the length is 64(26 + R), R from 1 to 1,024       sized
--   2 the tag count is at most 256                      valid (few), and encode writes the count
--   3 an empty zone has first cell 0                    encode (entries)
--   4 byte 122 is 0 or 1, bytes 123-127 are zero        the test of the code, encode
--   5 the dictionary is strictly rising by tag          encode (dictionary sorts), valid (distinct)
--   6 it is zero after its last entry                   encode (padded)
--   7 a header's two last bytes are zero                encode (block_bytes)
--   8 the cells after a block's records are zero        encode (block_bytes)
--   9 nonempty zones lie in class order inside the area, without overlap    valid (laid: after, and the end)
--  10 the gap before each is less than its block size   valid (laid: tight)
--  11 every block holds at least one record             valid (sits: some)
--  12 its records are strictly rising                   valid (sits: rising)
--  13 it has its zone's class                           valid (sits: room, class)
--  14 each dictionary entry leads to a block's first cell bearing its tag   encode (dictionary is made of the blocks)
--  15 blocks are as many as tags                        encode writes the number of blocks as the tag count
--  16 every cell in no zone is zero                     encode (area paints blocks over zeros)
unfoldable pub sound : List ℕ → Bool
unfolding sized
sound h = sized h && (leb (step_of h) 1 && (valid (step_of h) (8 * pages_of h) (decode h) && equal h (encode (step_of h) (pages_of h) (decode h))))

-- what that says: these are the bytes of some valid layout
pub record Sound (h : List ℕ) : Type 0 where
  pub pages : ℕ
  pub low : 1 ≤ pages
  pub high : pages ≤ 1024
  pub step : ℕ
  pub code : step ≤ 1
  pub zones : List Zone
  pub valid : Valid step (8 * pages) zones
  pub bytes : h ≡ encode step pages zones

-- a home without tags: are all bytes zero but for the step code
unfoldable pub bare : List ℕ → Bool
bare h = blank (part h 0 122) && (leb (step_of h) 1 && blank (part h 123 (length h - 123)))

-- a tag's list in a sound home; empty for an unknown tag
unfoldable pub list_of : List ℕ → ℕ → List Record
list_of h t = find t (blocks (decode h))
