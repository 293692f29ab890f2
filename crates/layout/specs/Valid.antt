-- Which layouts are valid, for any table of block sizes and classes: as a record, and as a test that computes.
use Rattle.std.specs.Prelude.{◌≡◌, Bool, true, not, ◌&&◌, ◌≢◌, length}
use mathlib.Core.List.{List, [], ◌∷◌}
use Prim.Native.Nat.{ℕ, suc, ◌+◌, ◌*◌, ◌≤◌, ◌<◌}
use Rattle.std.proofs.Math.Dec.{leb, ltb, eqb}
use Rattle.wire.specs.All.{All}
use Rattle.records.specs.declared.Record.{Record}
use Rattle.records.specs.Records.{Fits, rising}
use Rattle.layout.specs.Zones.{Block, Zone, empty, from, blocks}
use Rattle.layout.specs.Perm.{Pairs}

-- blocks of different tags
abbrev pub Other : Block → Block → Type 0
Other x y = x.tag ≢ y.tag

-- does p hold of all
unfoldable pub all : {A : Type 0} → (A → Bool) → List A → Bool
all p [] = true
all p (x ∷ xs) = p x && all p xs

-- do a record's numbers fit their bytes
unfoldable pub fits : Record → Bool
fits r = ltb r.level 256 && (ltb r.second 4294967296 && (ltb r.phone 65536 && ltb r.minutes 256))

-- has no tag two blocks
unfoldable pub distinct : List Block → Bool
unfolding all
distinct [] = true
distinct (x ∷ xs) = all (λ (y : Block). not (eqb x.tag y.tag)) xs && distinct xs

-- what a new list has to be
pub record Proper (rs : List Record) : Type 0 where
  pub rising : rising rs ≡ true
  pub fits : All Fits rs
  pub short : length rs ≤ 989

module _ (cells class_of : ℕ → ℕ) where
  -- a block of class c: "A tag is any 32-bit number"; "every block holds at least one record, its records strictly rising by primary part, and has its zone's class"
  pub record Sits (c : ℕ) (b : Block) : Type 0 where
    pub tag : b.tag < 4294967296
    pub some : 0 < length b.list
    pub room : length b.list < cells c
    pub class : class_of (length b.list) ≡ c
    pub rising : rising b.list ≡ true
    pub fits : All Fits b.list

  -- zone c from cell f on, where the lower zones end at e: "without overlap; the gap before each nonempty zone .. is less than its block size"
  pub record Lies (c e f : ℕ) (bs : List Block) : Type 0 where
    pub after : e ≤ f
    pub tight : f < e + cells c
    pub sit : All (Sits c) bs

  -- zones c and up: "nonempty zones lie in class order inside the area"
  abbrev pub Laid : ℕ → ℕ → ℕ → List Zone → Type 0
  Laid area c e [] = e ≤ area
  Laid area c e (empty ∷ zs) = Laid area (suc c) e zs
  Laid area c e (from f x xs ∷ zs) = Lies c e f (x ∷ xs) × Laid area (suc c) (f + suc (length xs) * cells c) zs

  -- the same without the rule on gaps, as it holds between two moves as well
  pub record Stands (c e f : ℕ) (bs : List Block) : Type 0 where
    pub after : e ≤ f
    pub sit : All (Sits c) bs

  abbrev pub Fit : ℕ → ℕ → ℕ → List Zone → Type 0
  Fit area c e [] = e ≤ area
  Fit area c e (empty ∷ zs) = Fit area (suc c) e zs
  Fit area c e (from f x xs ∷ zs) = Stands c e f (x ∷ xs) × Fit area (suc c) (f + suc (length xs) * cells c) zs

  -- a layout in an area of so many cells: 30 zones, no tag twice, "up to 256 entries"
  pub record Valid (area : ℕ) (zs : List Zone) : Type 0 where
    pub classes : length zs ≡ 30
    pub laid : Laid area 0 0 zs
    pub distinct : Pairs Other (blocks zs)
    pub few : length (blocks zs) ≤ 256

  -- ---- the same as tests

  unfoldable pub sits : ℕ → Block → Bool
  unfolding all fits
  sits c b =
      ltb b.tag 4294967296
      && (ltb 0 (length b.list) && (ltb (length b.list) (cells c) && (eqb (class_of (length b.list)) c && (rising b.list && all fits b.list))))

  unfoldable pub laid : ℕ → ℕ → ℕ → List Zone → Bool
  unfolding sits all
  laid area c e [] = leb e area
  laid area c e (empty ∷ zs) = laid area (suc c) e zs
  laid area c e (from f x xs ∷ zs) = (leb e f && (ltb f (e + cells c) && all (sits c) (x ∷ xs))) && laid area (suc c) (f + suc (length xs) * cells c) zs

  unfoldable pub valid : ℕ → List Zone → Bool
  unfolding laid distinct
  valid area zs = eqb (length zs) 30 && (laid area 0 0 zs && (distinct (blocks zs) && leb (length (blocks zs)) 256))
