-- Each kind of move in home's bytes, between any lower zones ls and higher zones hs.
use Rattle.std.specs.Prelude.{◌≡◌, replicate}
use Rattle.std.proofs.Math.Path.{refl, sym, ap}
use Rattle.std.proofs.Common.{ap₂, ◌∙◌, subst, arith}
use mathlib.Core.List.{List, [], ◌∷◌, ◌++◌, append_assoc, append-nil}
use Prim.Native.Nat.{ℕ, suc, ◌+◌, ◌*◌, ◌-◌, ◌≤◌, ◌<◌}
use Rattle.std.proofs.Math.ListN.{length, length-append}
use Rattle.wire.specs.Bytes.{over, bytes16}
use Rattle.wire.specs.BytesLaws.{length-bytes16, over_seam}
use Rattle.layout.specs.Capacities.{cells}
use Rattle.layout.specs.Zones.{Block, Zone, empty, from, zone, added, lifted, end_of, last_of, init_of, turned}
use Rattle.layout.specs.Perm.{Perm, pskip, ptrans}
use Rattle.layout.specs.PermLaws.{prefl, pright, pfront}
use Rattle.home.specs.Bytes.{Spot, row, spots, zone_entries, encode, block_bytes, cell_at}
use Rattle.home.specs.HomeLaws.{length-entries}
use Rattle.home.specs.DictionaryLaws.{zone-spots}
use Rattle.home.specs.Layout.{Loose}
use Rattle.moves.specs.Moves.{zoned, moved, entered, unentered}
use Rattle.moves.specs.SpotLaws.{spot, spots_in, in_context, lifted_to, lifted_first, lifted-spots, added-spots, length_init, lower-before, lower-after, gone_before, fill_before, fill_after}
use Rattle.moves.specs.HomeLaws.{home-moved, home-added, home_gone, home-filled, home-rewritten}

-- ---- a zone's entry

-- its first cell and its number of blocks
unfoldable pub first_of : Zone → ℕ
first_of empty = 0
first_of (from f x xs) = f

unfoldable pub many_of : Zone → ℕ
many_of empty = 0
many_of (from f x xs) = suc (length xs)

abbrev entry_bytes : Zone → List ℕ
entry_bytes z = bytes16 (first_of z) ++ bytes16 (many_of z)

length-entry : (z : Zone) → length (entry_bytes z) ≡ 4
length-entry z = length-append (bytes16 (first_of z)) (bytes16 (many_of z)) ∙ omega (arith, length-bytes16 (first_of z), length-bytes16 (many_of z))

entries-cons : (z : Zone) (zs : List Zone) → zone_entries (z ∷ zs) ≡ entry_bytes z ++ zone_entries zs
unfolding zone_entries first_of many_of bytes16
entries-cons empty zs = refl
entries-cons (from f x xs) zs = refl

entries-append : (ls hs : List Zone) → zone_entries (ls ++ hs) ≡ zone_entries ls ++ zone_entries hs
unfolding zone_entries
entries-append [] hs = refl
entries-append (z ∷ ls) hs =
    entries-cons z (ls ++ hs) ∙ ap (λ (l : List ℕ). entry_bytes z ++ l) (entries-append ls hs)
    ∙ sym (append_assoc (entry_bytes z) (zone_entries ls) (zone_entries hs)) ∙ ap (λ (l : List ℕ). l ++ zone_entries hs) (sym (entries-cons z ls))

zone-written : (ls : List Zone) (z z' : Zone) (hs : List Zone) → over (zone_entries (ls ++ z ∷ hs)) (4 * length ls) (entry_bytes z') ≡ zone_entries (ls ++ z' ∷ hs)
zone-written ls z z' hs =
    ap (λ (l : List ℕ). over l (4 * length ls) (entry_bytes z')) (entries-append ls (z ∷ hs) ∙ ap (λ (l : List ℕ). zone_entries ls ++ l) (entries-cons z hs))
    ∙ over_seam (zone_entries ls) (entry_bytes z) (zone_entries hs) (entry_bytes z') (4 * length ls) (length-entries ls) (length-entry z ∙ sym (length-entry z'))
    ∙ sym (entries-append ls (z' ∷ hs) ∙ ap (λ (l : List ℕ). zone_entries ls ++ l) (entries-cons z' hs))

pub zone-set : (ls : List Zone) (z z' : Zone) (hs : List Zone) (f k : ℕ) → first_of z' ≡ f → many_of z' ≡ k → over (zone_entries (ls ++ z ∷ hs)) (4 * length ls) (bytes16 f ++ bytes16 k) ≡ zone_entries (ls ++ z' ∷ hs)
zone-set ls z z' hs f k a b = ap₂ (λ (x y : ℕ). over (zone_entries (ls ++ z ∷ hs)) (4 * length ls) (bytes16 x ++ bytes16 y)) (sym a) (sym b) ∙ zone-written ls z z' hs

pub class_below : (ls : List Zone) (z : Zone) (hs : List Zone) → length (ls ++ z ∷ hs) ≡ 30 → length ls < 30
class_below ls z hs e = omega (arith, length-append ls (z ∷ hs))

-- ---- lifted

first-lifted : (step c e f : ℕ) (x : Block) (xs : List Block) → first_of (lifted (cells step) c e f x xs) ≡ lifted_first step c e f xs
unfolding lifted first_of lifted_first
first-lifted step c e f x [] = refl
first-lifted step c e f x (y ∷ ys) = refl

many-lifted : (step c e f : ℕ) (x : Block) (xs : List Block) → many_of (lifted (cells step) c e f x xs) ≡ suc (length xs)
unfolding lifted many_of
many-lifted step c e f x [] = refl
many-lifted step c e f x (y ∷ ys) = ap suc (length-append ys (x ∷ []) ∙ omega arith)

many-added : (e : ℕ) (b : Block) (z : Zone) → many_of (added e b z) ≡ suc (many_of z)
unfolding many_of added
many-added e b empty = refl
many-added e b (from f x xs) = ap suc (length-append xs (b ∷ []) ∙ omega arith)

module _ (step R : ℕ) (small : R ≤ 1024) (ls : List Zone) where
  abbrev c : ℕ
  c = length ls

  pub home-lifted : (e f : ℕ) (x : Block) (xs : List Block) (hs : List Zone) → Loose step R (ls ++ from f x xs ∷ hs) → Loose step R (ls ++ lifted (cells step) c e f x xs ∷ hs)
      → encode step R (ls ++ lifted (cells step) c e f x xs ∷ hs) ≡ zoned (moved step (encode step R (ls ++ from f x xs ∷ hs)) c f (lifted_to step c e f xs)) c (lifted_first step c e f xs) (suc (length xs))
  unfolding spots row
  home-lifted e f x xs hs v v' =
      let z' : Zone = lifted (cells step) c e f x xs in
      let ss : List Spot = row step c (f + cells step c) xs ++ spots step (suc c) hs in
      home-moved step R small (ls ++ from f x xs ∷ hs) (ls ++ z' ∷ hs) v v' c (lifted_first step c e f xs) (suc (length xs)) (class_below ls z' hs v'.classes)
      (zone-set ls (from f x xs) z' hs (lifted_first step c e f xs) (suc (length xs)) (first-lifted step c e f x xs) (many-lifted step c e f x xs))
      (spot c f x) (lifted_to step c e f xs) (spots step 0 ls ++ ss)
      (in_context step ls (from f x xs ∷ hs) (spot c f x) ss (prefl (spot c f x ∷ ss)))
      (in_context step ls (z' ∷ hs) (spot c (lifted_to step c e f xs) x) ss (lifted-spots step c e f x xs hs))

  -- lowered by one block
  pub home-lowered : (f : ℕ) (x : Block) (xs : List Block) (hs : List Zone) → cells step c ≤ f
      → Loose step R (ls ++ from f x xs ∷ hs) → Loose step R (ls ++ from (f - cells step c) (last_of x xs) (init_of x xs) ∷ hs)
      → encode step R (ls ++ from (f - cells step c) (last_of x xs) (init_of x xs) ∷ hs)
      ≡ zoned (moved step (encode step R (ls ++ from f x xs ∷ hs)) c (f + length xs * cells step c) (f - cells step c)) c (f - cells step c) (suc (length xs))
  unfolding first_of many_of
  home-lowered f x xs hs g v v' =
      let y : Block = last_of x xs in
      let z' : Zone = from (f - cells step c) y (init_of x xs) in
      let ss : List Spot = row step c f (init_of x xs) ++ spots step (suc c) hs in
      home-moved step R small (ls ++ from f x xs ∷ hs) (ls ++ z' ∷ hs) v v' c (f - cells step c) (suc (length xs)) (class_below ls z' hs v'.classes)
      (zone-set ls (from f x xs) z' hs (f - cells step c) (suc (length xs)) refl (ap suc (length_init x xs)))
      (spot c (f + length xs * cells step c) y) (f - cells step c) (spots step 0 ls ++ ss)
      (in_context step ls (from f x xs ∷ hs) (spot c (f + length xs * cells step c) y) ss (lower-before step c f x xs hs))
      (in_context step ls (z' ∷ hs) (spot c (f - cells step c) y) ss
      (subst (λ (l : List Spot). Perm l (spot c (f - cells step c) y ∷ ss)) (sym (lower-after step c f x xs hs g)) (prefl (spot c (f - cells step c) y ∷ ss))))

  -- a block put in at the zone's end, or at the lower zones' end e
  pub home_placed : (e : ℕ) (b : Block) (z : Zone) (hs : List Zone) → Loose step R (ls ++ z ∷ hs) → Loose step R (ls ++ added e b z ∷ hs)
      → encode step R (ls ++ added e b z ∷ hs)
      ≡ zoned (entered (over (encode step R (ls ++ z ∷ hs)) (cell_at (end_of (cells step) c e z)) (block_bytes step c b)) b.tag (end_of (cells step) c e z)) c (first_of (added e b z)) (suc (many_of z))
  home_placed e b z hs v v' =
      let s : Spot = spot c (end_of (cells step) c e z) b in
      home-added step R small (ls ++ z ∷ hs) (ls ++ added e b z ∷ hs) v v' c (first_of (added e b z)) (suc (many_of z)) (class_below ls z hs v.classes)
      (zone-set ls z (added e b z) hs (first_of (added e b z)) (suc (many_of z)) refl (many-added e b z))
      s
      (subst (λ (l : List Spot). Perm (spots step 0 (ls ++ added e b z ∷ hs)) (s ∷ l)) (sym (spots_in step ls (z ∷ hs)))
      (in_context step ls (added e b z ∷ hs) s (spots step c (z ∷ hs)) (added-spots step c e b z hs)))

  -- ---- a block b taken out of the zone from f, with the blocks pre before it

  pub many-zone : (f : ℕ) (bs : List Block) → many_of (zone f bs) ≡ length bs
  unfolding many_of zone
  many-zone f [] = refl
  many-zone f (x ∷ xs) = refl

  pub first-zone : (f : ℕ) (pre : List Block) (b : Block) (post : List Block) → first_of (zone f (pre ++ b ∷ post)) ≡ f
  unfolding first_of zone
  first-zone f [] b post = refl
  first-zone f (x ∷ pre) b post = refl

  -- a spot of this zone's row among all
  pub in_zone : (f : ℕ) (bs : List Block) (hs : List Zone) (s : Spot) (rs : List Spot) → Perm (row step c f bs) (s ∷ rs) → Perm (spots step 0 (ls ++ zone f bs ∷ hs)) (s ∷ (spots step 0 ls ++ (rs ++ spots step (suc c) hs)))
  in_zone f bs hs s rs p =
      in_context step ls (zone f bs ∷ hs) s (rs ++ spots step (suc c) hs)
      (subst (λ (l : List Spot). Perm l (s ∷ (rs ++ spots step (suc c) hs))) (sym (zone-spots step c f bs hs)) (pright (spots step (suc c) hs) p))

  -- it is the last one
  pub home_last_gone : (f : ℕ) (pre : List Block) (b : Block) (hs : List Zone) → Loose step R (ls ++ zone f (pre ++ b ∷ []) ∷ hs) → Loose step R (ls ++ zone f pre ∷ hs)
      → encode step R (ls ++ zone f pre ∷ hs)
      ≡ zoned (over (unentered (encode step R (ls ++ zone f (pre ++ b ∷ []) ∷ hs)) b.tag) (cell_at (f + length pre * cells step c)) (replicate (8 * cells step c) 0)) c (first_of (zone f pre)) (length pre)
  unfolding row
  home_last_gone f pre b hs v v' =
      let q : ℕ = f + length pre * cells step c in
      let s : Spot = spot c q b in
      home_gone step R small (ls ++ zone f (pre ++ b ∷ []) ∷ hs) (ls ++ zone f pre ∷ hs) v v' c (first_of (zone f pre)) (length pre) (class_below ls (zone f pre) hs v'.classes)
      (zone-set ls (zone f (pre ++ b ∷ [])) (zone f pre) hs (first_of (zone f pre)) (length pre) refl (many-zone f pre))
      s
      (subst (λ (l : List Spot). Perm (spots step 0 (ls ++ zone f (pre ++ b ∷ []) ∷ hs)) (s ∷ l))
      (ap (λ (l : List Spot). spots step 0 ls ++ (l ++ spots step (suc c) hs)) (append-nil (row step c f pre))
      ∙ ap (λ (l : List Spot). spots step 0 ls ++ l) (sym (zone-spots step c f pre hs)) ∙ sym (spots_in step ls (zone f pre ∷ hs)))
      (in_zone f (pre ++ b ∷ []) hs s (row step c f pre ++ row step c (q + cells step c) []) (gone_before step c f pre b [])))

  -- the last of those behind it, and the others
  pub fill_spots : (f : ℕ) (pre : List Block) (b y : Block) (ys : List Block) (hs : List Zone)
      → Perm (spots step 0 (ls ++ zone f (pre ++ b ∷ y ∷ ys) ∷ hs))
      (spot c (f + length pre * cells step c) b ∷ spot c (f + length pre * cells step c + cells step c + length ys * cells step c) (last_of y ys)
      ∷ (spots step 0 ls ++ ((row step c f pre ++ row step c (f + length pre * cells step c + cells step c) (init_of y ys)) ++ spots step (suc c) hs)))
  fill_spots f pre b y ys hs =
      let q : ℕ = f + length pre * cells step c in
      let w : Spot = spot c (q + cells step c + length ys * cells step c) (last_of y ys) in
      let r : List Spot = row step c f pre ++ row step c (q + cells step c) (init_of y ys) in
      ptrans (in_zone f (pre ++ b ∷ y ∷ ys) hs (spot c q b) (w ∷ r) (fill_before step c f pre b y ys)) (pskip (spot c q b) (pfront w (spots step 0 ls) (r ++ spots step (suc c) hs)))

  -- it fills its place
  pub home-place-filled : (f : ℕ) (pre : List Block) (b y : Block) (ys : List Block) (hs : List Zone)
      → Loose step R (ls ++ zone f (pre ++ b ∷ y ∷ ys) ∷ hs) → Loose step R (ls ++ zone f (pre ++ turned (y ∷ ys)) ∷ hs)
      → encode step R (ls ++ zone f (pre ++ turned (y ∷ ys)) ∷ hs)
      ≡ zoned (moved step (unentered (encode step R (ls ++ zone f (pre ++ b ∷ y ∷ ys) ∷ hs)) b.tag) c (f + length pre * cells step c + cells step c + length ys * cells step c) (f + length pre * cells step c)) c f (length pre + suc (length ys))
  unfolding turned
  home-place-filled f pre b y ys hs v v' =
      let q : ℕ = f + length pre * cells step c in
      let w : Block = last_of y ys in
      let r : List Spot = row step c f pre ++ row step c (q + cells step c) (init_of y ys) in
      let bs : List Block = pre ++ b ∷ y ∷ ys in
      let bs' : List Block = pre ++ turned (y ∷ ys) in
      home-filled step R small (ls ++ zone f bs ∷ hs) (ls ++ zone f bs' ∷ hs) v v' c f (length pre + suc (length ys)) (class_below ls (zone f bs) hs v.classes)
      (zone-set ls (zone f bs) (zone f bs') hs f (length pre + suc (length ys)) (first-zone f pre w (init_of y ys))
      (many-zone f bs' ∙ length-append pre (w ∷ init_of y ys) ∙ ap (λ (k : ℕ). length pre + suc k) (length_init y ys)))
      c q (q + cells step c + length ys * cells step c) b w (spots step 0 ls ++ (r ++ spots step (suc c) hs))
      (fill_spots f pre b y ys hs)
      (in_zone f bs' hs (spot c q w) r (fill_after step c f pre y ys))

  -- another list of the same tag in its block
  pub home-list-set : (f : ℕ) (pre : List Block) (b b' : Block) (post : List Block) (hs : List Zone) → b.tag ≡ b'.tag
      → Loose step R (ls ++ zone f (pre ++ b ∷ post) ∷ hs) → Loose step R (ls ++ zone f (pre ++ b' ∷ post) ∷ hs)
      → encode step R (ls ++ zone f (pre ++ b' ∷ post) ∷ hs) ≡ over (encode step R (ls ++ zone f (pre ++ b ∷ post) ∷ hs)) (cell_at (f + length pre * cells step c)) (block_bytes step c b')
  home-list-set f pre b b' post hs t v v' =
      let q : ℕ = f + length pre * cells step c in
      let z : Zone = zone f (pre ++ b ∷ post) in
      let z' : Zone = zone f (pre ++ b' ∷ post) in
      let r : List Spot = row step c f pre ++ row step c (q + cells step c) post in
      home-rewritten step R small (ls ++ z ∷ hs) (ls ++ z' ∷ hs) v v' c q b b' (spots step 0 ls ++ (r ++ spots step (suc c) hs)) t
      (sym (zone-written ls z z hs)
      ∙ ap₂ (λ (x y : ℕ). over (zone_entries (ls ++ z ∷ hs)) (4 * length ls) (bytes16 x ++ bytes16 y)) (first-zone f pre b post ∙ sym (first-zone f pre b' post))
      (many-zone f (pre ++ b ∷ post) ∙ length-append pre (b ∷ post) ∙ sym (many-zone f (pre ++ b' ∷ post) ∙ length-append pre (b' ∷ post)))
      ∙ zone-written ls z z' hs)
      (in_zone f (pre ++ b ∷ post) hs (spot c q b) r (gone_before step c f pre b post))
      (in_zone f (pre ++ b' ∷ post) hs (spot c q b') r (gone_before step c f pre b' post))
