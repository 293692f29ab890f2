-- A tag's block in home, and home's bytes once it is taken out.
use Rattle.std.specs.Prelude.{◌≡◌, false, List, ◌∷◌, ◌++◌, ℕ, zero, suc, ◌+◌, ◌*◌, ◌≤◌, ltb, length, take, drop, replicate}
use Rattle.wire.specs.Bytes.{pick, over}
use Rattle.layout.specs.Capacities.{cells}
use Rattle.layout.specs.Zones.{Block, Zone, empty, from, zone, blocks, has_tag, removed}
use Rattle.home.specs.Bytes.{encode, cell_at}
use Rattle.home.specs.Layout.{Loose}
use Rattle.moves.specs.Moves.{moved}
use Rattle.moves.specs.Close.{zone_of}

-- tag t's first block in a layout, those before and behind it in its zone, that zone's first cell, and the lower and higher zones
pub record Located (t : ℕ) (zs : List Zone) : Type 0 where
  pub lower : List Zone
  pub first : ℕ
  pub before : List Block
  pub block : Block
  pub behind : List Block
  pub higher : List Zone
  pub is : zs ≡ lower ++ zone first (before ++ block ∷ behind) ∷ higher
  pub tag : block.tag ≡ t
  pub none_lower : has_tag t (blocks lower) ≡ false
  pub none_before : has_tag t before ≡ false

-- the bytes of a layout zs that is valid but for its gaps, in which that block has class c and lies at cell p
pub record Known (step R : ℕ) (h : List ℕ) (zs : List Zone) (t c p : ℕ) : Type 0 where
  pub pages : R ≤ 1024
  pub bytes : h ≡ encode step R zs
  pub loose : Loose step R zs
  pub found : Located t zs
  pub class : length found.lower ≡ c
  pub cell : found.first + length found.before * cells step c ≡ p

-- the first cell of a zone from f on with so many blocks: "an empty zone has first cell 0"
unfoldable pub first_if : ℕ → ℕ → ℕ
first_if f zero = 0
first_if f (suc n) = f

-- a zone without tag t's block
unfoldable pub lacking : ℕ → Zone → Zone
unfolding removed zone
lacking t empty = empty
lacking t (from f x xs) = zone f (removed t (x ∷ xs))

-- home with that zone c: its gaps are not closed yet
unfoldable pub out_bytes : ℕ → ℕ → List Zone → ℕ → ℕ → List ℕ
unfolding lacking
out_bytes step R zs t c = encode step R (take c zs ++ lacking t (zone_of zs c) ∷ drop (suc c) zs)

-- the place of the block of class c at cell p, filled by the zone's last one, or zero if it is that one
unfoldable pub filled : ℕ → List ℕ → ℕ → ℕ → ℕ → List ℕ
unfolding moved
filled step h c last p = pick (ltb p last) (moved step h c last p) (over h (cell_at p) (replicate (8 * cells step c) 0))
