-- What the moves of blocks do to the bytes of home.
use Rattle.std.specs.Prelude.{List, ◌++◌, ℕ, ◌+◌, ◌*◌, ◌-◌, ◌<◌, replicate}
use Rattle.wire.specs.Bytes.{part, over, get16, get32, bytes16, bytes32}
use Rattle.layout.specs.Capacities.{cells}
use Rattle.home.specs.Bytes.{cell_at, zone_entry_at}
use Rattle.home.specs.Lookup.{Ordered, index_of}

-- n bytes carried to another place, zeros left behind
unfoldable pub carried : List ℕ → ℕ → ℕ → ℕ → List ℕ
carried l from to n = over (over l from (replicate n 0)) to (part l from n)

-- ---- the dictionary

-- where the i-th entry lies
abbrev pub word_at : ℕ → ℕ
word_at i = 128 + 6 * i

-- the i-th entry leads to cell p
unfoldable pub celled : List ℕ → ℕ → ℕ → List ℕ
unfolding bytes16
celled h i p = over h (word_at i + 4) (bytes16 p)

-- there are n tags
unfoldable pub counted : List ℕ → ℕ → List ℕ
unfolding bytes16
counted h n = over h 0 (bytes16 n)

-- tag t entered with cell p: the entries behind it move up
unfoldable pub entered : List ℕ → ℕ → ℕ → List ℕ
unfolding bytes32 counted
entered h t p =
    let n : ℕ = get16 h 0 in
    let i : ℕ = index_of h t in
    counted (over (over h (word_at i + 6) (part h (word_at i) (6 * (n - i)))) (word_at i) (bytes32 t ++ bytes16 p)) (n + 1)

-- tag t's entry taken out: those behind it move down, and the last one's bytes become zero
unfoldable pub unentered : List ℕ → ℕ → List ℕ
unfolding counted
unentered h t =
    let n : ℕ = get16 h 0 in
    let i : ℕ = index_of h t in
    counted (over (over h (word_at i) (part h (word_at i + 6) (6 * (n - (i + 1))))) (word_at (n - 1)) (replicate 6 0)) (n - 1)

-- ---- zones and blocks

-- zone c starts at cell f and has n blocks
unfoldable pub zoned : List ℕ → ℕ → ℕ → ℕ → List ℕ
zoned h c f n = over h (zone_entry_at c) (bytes16 f ++ bytes16 n)

-- the block at cell p has a tag that can be found
pub record Movable (h : List ℕ) (p : ℕ) : Type 0 where
  pub ordered : Ordered h
  pub found : index_of h (get32 h (cell_at p)) < get16 h 0

-- the block of class c at cell p moved to cell q, and its tag's entry with it
unfoldable pub moved : ℕ → List ℕ → ℕ → ℕ → ℕ → List ℕ
unfolding carried celled
moved step h c p q = celled (carried h (cell_at p) (cell_at q) (8 * cells step c)) (index_of h (get32 h (cell_at p))) q
