-- The layout: blocks in zones, and how they move ("How blocks move").
use Rattle.std.specs.Prelude.{Bool, true, false, leb, eqb, length}
use Rattle.std.proofs.Math.Option
use Rattle.std.proofs.Math.Option.{Option, none, some}
use mathlib.Core.List.{List, [], ◌∷◌, ◌++◌, map}
use Prim.Native.Nat.{ℕ, zero, suc, ◌+◌, ◌*◌, ◌-◌}
use Rattle.wire.specs.Bytes.{pick}
use Rattle.records.specs.declared.Record.{Record}
use Rattle.layout.specs.Cases.{or_else}

-- "A block is one cell of header, tag (4), record count (2), .., then its records"
pub record Block : Type 0 where
  pub tag : ℕ
  pub list : List Record

-- A layout has one zone for each class, from class 0 up. A zone is empty, or has its first cell, its first block and the others.
pub data Zone : Type 0 where
  empty : Zone
  from : ℕ → Block → List Block → Zone

-- the zone of these blocks from a cell on
unfoldable pub zone : ℕ → List Block → Zone
zone f [] = empty
zone f (x ∷ xs) = from f x xs

-- ---- what is in it

-- all blocks, by their cells
unfoldable pub blocks : List Zone → List Block
blocks [] = []
blocks (empty ∷ zs) = blocks zs
blocks (from f x xs ∷ zs) = x ∷ (xs ++ blocks zs)

-- their tags
abbrev pub tags : List Block → List ℕ
tags bs = map (λ (b : Block). b.tag) bs

-- has a tag a block
unfoldable pub has_tag : ℕ → List Block → Bool
has_tag t [] = false
has_tag t (x ∷ xs) = pick (eqb x.tag t) true (has_tag t xs)

-- a tag's list; "an unknown tag has 0" records
unfoldable pub find : ℕ → List Block → List Record
find t [] = []
find t (x ∷ xs) = pick (eqb x.tag t) x.list (find t xs)

-- ---- one zone changed

-- "it goes to the end of zone c, or if that is empty to the end of the nearest lower nonempty zone, or to cell 0": e is the end of the lower zones
unfoldable pub added : ℕ → Block → Zone → Zone
added e b empty = from e b []
added e b (from f x xs) = from f x (xs ++ (b ∷ []))

-- the last of these blocks, and those before it
unfoldable pub last_of : Block → List Block → Block
last_of x [] = x
last_of x (y ∷ ys) = last_of y ys

unfoldable pub init_of : Block → List Block → List Block
init_of x [] = []
init_of x (y ∷ ys) = x ∷ init_of y ys

-- the last block in front
unfoldable pub turned : List Block → List Block
unfolding last_of init_of
turned [] = []
turned (x ∷ xs) = last_of x xs ∷ init_of x xs

-- "the zone's last block fills its place"
unfoldable pub removed : ℕ → List Block → List Block
unfolding turned
removed t [] = []
removed t (x ∷ xs) = pick (eqb x.tag t) (turned xs) (x ∷ removed t xs)

-- a list changed where it lies
unfoldable pub replaced : ℕ → List Record → List Block → List Block
replaced t rs [] = []
replaced t rs (x ∷ xs) = pick (eqb x.tag t) (record { tag = t; list = rs } ∷ xs) (x ∷ replaced t rs xs)

-- in its zone
unfoldable pub rewritten : ℕ → List Record → List Zone → List Zone
unfolding replaced has_tag zone
rewritten t rs [] = []
rewritten t rs (empty ∷ zs) = empty ∷ rewritten t rs zs
rewritten t rs (from f x xs ∷ zs) = pick (has_tag t (x ∷ xs)) (zone f (replaced t rs (x ∷ xs)) ∷ zs) (from f x xs ∷ rewritten t rs zs)

-- a zone from another cell on
unfoldable pub based : ℕ → Zone → Zone
based e empty = empty
based e (from f x xs) = from e x xs

-- "the new block last in its zone", which is zone n of these, wherever they lie
unfoldable pub joined : ℕ → Block → List Zone → List Zone
unfolding added
joined n b [] = []
joined zero b (z ∷ zs) = added 0 b z ∷ zs
joined (suc n) b (z ∷ zs) = z ∷ joined n b zs

-- ---- blocks moved: c is the class of the first zone given, e the cell at which the lower zones end

module _ (cells : ℕ → ℕ) where
  -- where zone c ends
  unfoldable pub end_of : ℕ → ℕ → Zone → ℕ
  end_of c e empty = e
  end_of c e (from f x xs) = f + suc (length xs) * cells c

  -- "d's first block is lifted off (nothing fills its place; zone d starts one block later)", "and the lifted one is placed by the same rule"
  unfoldable pub lifted : ℕ → ℕ → ℕ → Block → List Block → Zone
  unfolding added zone
  lifted c e f x xs = added e x (zone (f + cells c) xs)

  -- zones c and up after the lower ones have come to end at e. "If it fits before the next higher nonempty zone d (or the area's end), done. If not and no d exists: no room."
  unfoldable pub shift : ℕ → ℕ → ℕ → List Zone → Option (List Zone)
  unfolding lifted end_of
  shift area c e [] = pick (leb e area) (some []) none
  shift area c e (empty ∷ zs) = Option.map (λ (r : List Zone). empty ∷ r) (shift area (suc c) e zs)
  shift area c e (from f x xs ∷ zs) =
      pick (leb e f) (some (from f x xs ∷ zs))
      (Option.map (λ (r : List Zone). lifted c e f x xs ∷ r) (shift area (suc c) (end_of c e (lifted c e f x xs)) zs))

  -- "Place a block of class c": here of class c + n, into zones c and up
  unfoldable pub place : ℕ → ℕ → ℕ → ℕ → Block → List Zone → Option (List Zone)
  unfolding added shift end_of
  place area c e n b [] = none
  place area c e zero b (z ∷ zs) = Option.map (λ (r : List Zone). added e b z ∷ r) (shift area (suc c) (end_of c e (added e b z)) zs)
  place area c e (suc n) b (z ∷ zs) = Option.map (λ (r : List Zone). z ∷ r) (place area (suc c) (end_of c e z) n b zs)

  -- "while the gap before it is at least its block size, its last block moves to directly before its first"; the first number bounds the moves
  unfoldable pub lowered : ℕ → ℕ → ℕ → ℕ → Block → List Block → Zone
  unfolding last_of init_of
  lowered zero c e f x xs = from f x xs
  lowered (suc n) c e f x xs = pick (leb (e + cells c) f) (lowered n c e (f - cells c) (last_of x xs) (init_of x xs)) (from f x xs)

  -- "Then, for each higher nonempty zone in rising order"
  unfoldable pub close : ℕ → ℕ → List Zone → List Zone
  unfolding lowered end_of
  close c e [] = []
  close c e (empty ∷ zs) = empty ∷ close (suc c) e zs
  close c e (from f x xs ∷ zs) = lowered f c e f x xs ∷ close (suc c) (end_of c e (lowered f c e f x xs)) zs

  -- "Take out a block", the one with tag t, and close up
  unfoldable pub take_out : ℕ → ℕ → ℕ → List Zone → List Zone
  unfolding removed close has_tag end_of zone
  take_out t c e [] = []
  take_out t c e (empty ∷ zs) = empty ∷ take_out t (suc c) e zs
  take_out t c e (from f x xs ∷ zs) =
      pick (has_tag t (x ∷ xs))
      (zone f (removed t (x ∷ xs)) ∷ close (suc c) (end_of c e (zone f (removed t (x ∷ xs)))) zs)
      (from f x xs ∷ take_out t (suc c) (f + suc (length xs) * cells c) zs)

  -- the sizes of all blocks of zones c and up
  unfoldable pub total : ℕ → List Zone → ℕ
  total c [] = 0
  total c (empty ∷ zs) = total (suc c) zs
  total c (from f x xs ∷ zs) = suc (length xs) * cells c + total (suc c) zs

  -- "lay out all zones afresh .. without gaps, blocks in the order they had just before the placing": zones c and up from cell e on
  unfoldable pub afresh : ℕ → ℕ → List Zone → List Zone
  unfolding based end_of
  afresh c e [] = []
  afresh c e (z ∷ zs) = based e z ∷ afresh (suc c) (end_of c e (based e z)) zs

  -- "from cell 0", unless "the sizes of all blocks after the edit add up to more than the record area"
  unfoldable pub lay_afresh : ℕ → ℕ → Block → List Zone → Option (List Zone)
  unfolding joined total afresh
  lay_afresh area n b zs = pick (leb (total 0 (joined n b zs)) area) (some (afresh 0 0 (joined n b zs))) none

  -- a block of class n is placed. "When placing finds no room, lay out all zones afresh"
  unfoldable pub settle : ℕ → ℕ → Block → List Zone → Option (List Zone)
  unfolding or_else lay_afresh place
  settle area n b zs = or_else (place area 0 0 n b zs) (lay_afresh area n b zs)

  -- tag t's list becomes rs. "a list that becomes empty loses its dictionary entry"; "An unknown tag gets a class 0 block"; one that keeps its class stays where it is;
  -- "a list that changes class is taken out, gaps closed, then placed". None if "the sizes of all blocks after the edit add up to more than the record area".
  unfoldable pub change : (ℕ → ℕ) → ℕ → ℕ → List Record → List Zone → Option (List Zone)
  change class_of area t [] zs = some (take_out t 0 0 zs)
  change class_of area t (r ∷ rs) zs =
      let b : Block = record { tag = t; list = r ∷ rs } in
      let c : ℕ = class_of (length (r ∷ rs)) in
      pick (has_tag t (blocks zs))
      (pick (eqb (class_of (length (find t (blocks zs)))) c) (some (rewritten t (r ∷ rs) zs)) (settle area c b (take_out t 0 0 zs)))
      (settle area c b zs)
