-- A zone's blocks moved one after the other: the first ones lie from p on, the others from q on, p at or below q.
use Rattle.std.specs.Prelude.{◌≡◌, refl}
use Rattle.std.proofs.Math.Path.{sym, ap}
use Rattle.std.proofs.Common.{ap₂, ◌∙◌, subst, arith, length-append, length-take}
use mathlib.Core.List.{List, [], ◌∷◌, ◌++◌, map, map-append, append-nil}
use Prim.Native.Nat.{ℕ, zero, suc, ◌+◌, ◌*◌, ◌≤◌, ◌<◌}
use Rattle.std.proofs.Math.ListN.{length, take, drop, take-append-drop, drop_of_length-le}
use Rattle.std.proofs.lemmas.List.{length-map}
use Rattle.wire.specs.All.{All, all_append, all_head}
use Rattle.layout.specs.Capacities.{cells}
use Rattle.layout.specs.Zones.{Block, Zone, from, blocks, based}
use Rattle.layout.specs.Perm.{Perm, Pairs, ptrans}
use Rattle.layout.specs.PermLaws.{pleft, pright, pfront, all_left, all_right}
use Rattle.layout.specs.Valid.{Other}
use Rattle.home.specs.Layout.{Sits, Fit, Loose}
use Rattle.home.specs.Bytes.{Spot, row, spots, zone_entries, cell_at}
use Rattle.home.specs.AreaLaws.{spots_sit, row-sits}
use Rattle.home.specs.DictionaryLaws.{row-blocks, spots-blocks}
use Rattle.home.specs.EncodeLaws.{length-zones}
use Rattle.moves.specs.Moves.{Movable, moved}
use Rattle.moves.specs.SpotLaws.{spot, spots_in, gone_before}
use Rattle.moves.specs.LooseLaws.{fit_above, blocks-append}
use Rattle.moves.specs.Stored.{end_after}
use Rattle.moves.specs.AtLaws.{take_here, drop-next, zone_here}
use Rattle.moves.specs.Slide.{rebased}
use Rattle.moves.specs.AtSpotsLaws.{spot_block, SitsAt, at_spots, Kept, kept_perm, spots_perm, spots_long, spots_movable, spots-moved, lined_lower, lined_append, row_lined, spots_lined, below_lined, kept_lined}

-- ---- halfway

abbrev halfway : ℕ → List Zone → ℕ → ℕ → ℕ → List Block → List Block → List Zone → List Spot
halfway step ls c p q front back hs = spots step 0 ls ++ ((row step c p front ++ row step c q back) ++ spots step (suc c) hs)

half-blocks : (step : ℕ) (ls : List Zone) (c p q : ℕ) (front back : List Block) (hs : List Zone) (f : ℕ) (x : Block) (xs : List Block) → front ++ back ≡ x ∷ xs
    → map spot_block (halfway step ls c p q front back hs) ≡ blocks (ls ++ from f x xs ∷ hs)
unfolding blocks
half-blocks step ls c p q front back hs f x xs w =
    map-append spot_block (spots step 0 ls) ((row step c p front ++ row step c q back) ++ spots step (suc c) hs)
    ∙ ap₂ (λ (l r : List Block). l ++ r) (spots-blocks step 0 ls)
    (map-append spot_block (row step c p front ++ row step c q back) (spots step (suc c) hs)
    ∙ ap₂ (λ (l r : List Block). l ++ r) (map-append spot_block (row step c p front) (row step c q back) ∙ ap₂ (λ (l r : List Block). l ++ r) (row-blocks step c p front) (row-blocks step c q back) ∙ w) (spots-blocks step (suc c) hs))
    ∙ sym (blocks-append ls (from f x xs ∷ hs))

half-kept : (step R : ℕ) (ls : List Zone) (c f : ℕ) (x : Block) (xs : List Block) (hs : List Zone) → Loose step R (ls ++ from f x xs ∷ hs) → length ls ≡ c → (p q : ℕ) (front back : List Block)
    → front ++ back ≡ x ∷ xs → end_after step 0 0 ls ≤ p → p + length front * cells step c ≤ q → Fit step (8 * R) (suc c) (q + length back * cells step c) hs → Kept step R (halfway step ls c p q front back hs)
half-kept step R ls c f x xs hs v k p q front back w lo mid hi =
    let n : ℕ = 8 * R in
    let e : ℕ = end_after step 0 0 ls in
    let g : ℕ = q + length back * cells step c in
    let a : Fit step n c e (from f x xs ∷ hs) = fit_above step n 0 0 c ls (from f x xs ∷ hs) (omega arith) v.fit in
    let s : All (Sits step c) (front ++ back) = subst (All (Sits step c)) (sym w) a.0.sit in
    let m : map spot_block (halfway step ls c p q front back hs) ≡ blocks (ls ++ from f x xs ∷ hs) = half-blocks step ls c p q front back hs f x xs w in
    kept_lined step R (halfway step ls c p q front back hs)
    (all_append (all_left (SitsAt step) (spots step 0 ls) (spots step (length ls) (from f x xs ∷ hs)) (subst (All (SitsAt step)) (spots_in step ls (from f x xs ∷ hs)) (spots_sit step n 0 0 (ls ++ from f x xs ∷ hs) v.fit)))
    (all_append (all_append (row-sits step c p front (all_left (Sits step c) front back s)) (row-sits step c q back (all_right (Sits step c) front back s)))
    (spots_sit step n (suc c) (f + suc (length xs) * cells step c) hs a.1)))
    (lined_append step 0 e n (spots step 0 ls) ((row step c p front ++ row step c q back) ++ spots step (suc c) hs) (below_lined step n 0 0 ls (from f x xs ∷ hs) v.fit)
    (lined_lower step p e ((row step c p front ++ row step c q back) ++ spots step (suc c) hs) n lo
    (lined_append step p g n (row step c p front ++ row step c q back) (spots step (suc c) hs)
    (lined_append step p q g (row step c p front) (row step c q back) (row_lined step c p q front mid) (row_lined step c q g back (omega arith)))
    (spots_lined step n (suc c) g hs hi))))
    (subst (Pairs Other) (sym m) v.distinct)
    (omega (arith, length-map (halfway step ls c p q front back hs) spot_block, ap length m, v.few))

among : (l r : List Spot) (s : Spot) {xs ys : List Spot} → Perm xs (s ∷ ys) → Perm (l ++ (xs ++ r)) (s ∷ (l ++ (ys ++ r)))
among l r s {ys = ys} p = ptrans (pleft l (pright r p)) (pfront s l (ys ++ r))

high_one : (step : ℕ) (ls : List Zone) (c p q : ℕ) (front : List Block) (y : Block) (back : List Block) (hs : List Zone)
    → Perm (halfway step ls c p q front (y ∷ back) hs) (spot c q y ∷ halfway step ls c p (q + cells step c) front back hs)
unfolding row
high_one step ls c p q front y back hs = among (spots step 0 ls) (spots step (suc c) hs) (spot c q y) (pfront (spot c q y) (row step c p front) (row step c (q + cells step c) back))

low-one : (step : ℕ) (ls : List Zone) (c p q : ℕ) (front : List Block) (y : Block) (back : List Block) (hs : List Zone)
    → Perm (halfway step ls c p q (front ++ y ∷ []) back hs) (spot c (p + length front * cells step c) y ∷ halfway step ls c p q front back hs)
unfolding row
low-one step ls c p q front y back hs =
    let s : Spot = spot c (p + length front * cells step c) y in
    among (spots step 0 ls) (spots step (suc c) hs) s
    (pright (row step c q back) (subst (λ (l : List Spot). Perm (row step c p (front ++ y ∷ [])) (s ∷ l)) (append-nil (row step c p front)) (gone_before step c p front y [])))

-- ---- one block moved

pub record Moves (step R : ℕ) (h h' : List ℕ) (c from to : ℕ) : Type 0 where
  pub movable : Movable h from
  pub old : cell_at from + 8 * cells step c ≤ length h
  pub new : cell_at to + 8 * cells step c ≤ length h
  pub bytes : moved step h c from to ≡ h'

-- named in another order before and after
moves_perm : (step R : ℕ) → R ≤ 1024 → (es : List ℕ) → length es ≡ 120 → (ss ts rest : List Spot) (c p q : ℕ) (y : Block)
    → Kept step R ss → Kept step R ts → Perm ss (spot c p y ∷ rest) → Perm ts (spot c q y ∷ rest) → Moves step R (at_spots step R es ss) (at_spots step R es ts) c p q
moves_perm step R small es le ss ts rest c p q y k k' a b =
    let m : Kept step R (spot c p y ∷ rest) = kept_perm step R a k in
    let m' : Kept step R (spot c q y ∷ rest) = kept_perm step R b k' in
    let e : at_spots step R es ss ≡ at_spots step R es (spot c p y ∷ rest) = spots_perm step R small es le a k in
    let l : length (at_spots step R es ss) ≡ 1664 + 64 * R = spots_long step R small es le ss k in
    record {
      movable = subst (λ (h : List ℕ). Movable h p) (sym e) (spots_movable step R small es le (spot c p y) rest m);
      old = omega (arith, l, (all_head m.good).inside);
      new = omega (arith, l, (all_head m'.good).inside);
      bytes = ap (λ (h : List ℕ). moved step h c p q) e ∙ spots-moved step R small es le (spot c p y) q rest m m' ∙ sym (spots_perm step R small es le b k');
    }

-- ---- a zone on its way

-- zone c of a layout that is valid but for its gaps, and the zones below and above it
pub record Here (step R : ℕ) (zs : List Zone) (c : ℕ) : Type 0 where
  pub pages : R ≤ 1024
  pub loose : Loose step R zs
  pub lower : List Zone
  pub first : ℕ
  pub head : Block
  pub tail : List Block
  pub higher : List Zone
  pub is : zs ≡ lower ++ from first head tail ∷ higher
  pub class : length lower ≡ c
  pub under : c < 30

-- the j-th block, and those before and behind it
record At (bs : List Block) (j : ℕ) : Type 0 where
  block : Block
  rest : List Block
  here : drop j bs ≡ block ∷ rest
  next : take (suc j) bs ≡ take j bs ++ block ∷ []
  after : drop (suc j) bs ≡ rest

at : (bs : List Block) (j : ℕ) → j < length bs → At bs j
at [] j g = absurd (omega arith)
at (x ∷ xs) zero g = record { block = x; rest = xs; here = refl; next = refl; after = refl }
at (x ∷ xs) (suc j) g =
    let a : At xs j = at xs j (omega arith) in
    record { block = a.block; rest = a.rest; here = a.here; next = ap (λ (l : List Block). x ∷ l) a.next; after = a.after }

module _ (step R : ℕ) (zs : List Zone) (c : ℕ) (z : Here step R zs c) where
  abbrev bs : List Block
  bs = z.head ∷ z.tail

  abbrev es : List ℕ
  es = zone_entries zs

  le : length es ≡ 120
  le = length-zones step R zs z.loose

  -- with zone c from another cell on
  abbrev pub starting_at : ℕ → List Zone
  starting_at p = z.lower ++ from p z.head z.tail ∷ z.higher

  -- its first j blocks lie from p on, the others from where they would lie from q on
  abbrev half : ℕ → ℕ → ℕ → List Spot
  half p q j = halfway step z.lower c p (q + j * cells step c) (take j bs) (drop j bs) z.higher

  abbrev pub half_bytes : ℕ → ℕ → ℕ → List ℕ
  half_bytes p q j = at_spots step R es (half p q j)

  -- from p on it fits behind the lower zones, from q on before the higher ones
  pub record Reach (p q : ℕ) : Type 0 where
    pub low : end_after step 0 0 z.lower ≤ p
    pub order : p ≤ q
    pub high : Fit step (8 * R) (suc c) (q + suc (length z.tail) * cells step c) z.higher

  spots-at : (p : ℕ) → spots step 0 (starting_at p) ≡ spots step 0 z.lower ++ (row step c p bs ++ spots step (suc c) z.higher)
  unfolding spots
  spots-at p = spots_in step z.lower (from p z.head z.tail ∷ z.higher) ∙ ap (λ (d : ℕ). spots step 0 z.lower ++ spots step d (from p z.head z.tail ∷ z.higher)) z.class

  -- none of them, and all
  pub half-none : (p q : ℕ) → half_bytes p q 0 ≡ at_spots step R es (spots step 0 (starting_at q))
  unfolding row
  half-none p q = ap (at_spots step R es) (ap (λ (d : ℕ). spots step 0 z.lower ++ (row step c d bs ++ spots step (suc c) z.higher)) (omega arith) ∙ sym (spots-at q))

  pub half_all : (p q : ℕ) → half_bytes p q (suc (length z.tail)) ≡ at_spots step R es (spots step 0 (starting_at p))
  unfolding row
  half_all p q =
      let n : ℕ = length bs in
      let d : drop n bs ≡ [] = drop_of_length-le bs {i = n} (omega arith) in
      let t : take n bs ≡ bs = sym (append-nil (take n bs)) ∙ ap (λ (l : List Block). take n bs ++ l) (sym d) ∙ take-append-drop n bs in
      ap (at_spots step R es) (ap₂ (λ (x y : List Block). halfway step z.lower c p (q + n * cells step c) x y z.higher) t d
      ∙ ap (λ (l : List Spot). spots step 0 z.lower ++ (l ++ spots step (suc c) z.higher)) (append-nil (row step c p bs)) ∙ sym (spots-at p))

  module _ (p q : ℕ) (w : Reach p q) where
    half_apart : (j : ℕ) → j ≤ length bs → Kept step R (half p q j)
    half_apart j g =
        let t : length (take j bs) ≡ j = omega (arith, length-take j bs) in
        let u : length (take j bs) + length (drop j bs) ≡ length bs = sym (length-append (take j bs) (drop j bs)) ∙ ap length (take-append-drop j bs) in
        half-kept step R z.lower c z.first z.head z.tail z.higher (subst (Loose step R) z.is z.loose) z.class p (q + j * cells step c) (take j bs) (drop j bs) (take-append-drop j bs) w.low
        (rw t (omega (arith, w.order)))
        (subst (λ (m : ℕ). Fit step (8 * R) (suc c) m z.higher) (rw (← u, t) (omega arith)) w.high)

    -- the j-th block moved down, and up again
    pub half_moves : (j : ℕ) → j < length bs
        → Moves step R (half_bytes p q j) (half_bytes p q (suc j)) c (q + j * cells step c) (p + j * cells step c) × Moves step R (half_bytes p q (suc j)) (half_bytes p q j) c (p + j * cells step c) (q + j * cells step c)
    half_moves j g =
        let k : ℕ = cells step c in
        let a : At bs j = at bs j g in
        let y : Block = a.block in
        let front : List Block = take j bs in
        let rest : List Spot = halfway step z.lower c p (q + suc j * k) front a.rest z.higher in
        let up : Perm (half p q j) (spot c (q + j * k) y ∷ rest) =
        subst (λ (l : List Block). Perm (halfway step z.lower c p (q + j * k) front l z.higher) (spot c (q + j * k) y ∷ rest)) (sym a.here)
        (subst (λ (x : ℕ). Perm (halfway step z.lower c p (q + j * k) front (y ∷ a.rest) z.higher) (spot c (q + j * k) y ∷ halfway step z.lower c p x front a.rest z.higher)) (omega arith)
        (high_one step z.lower c p (q + j * k) front y a.rest z.higher)) in
        let down : Perm (half p q (suc j)) (spot c (p + j * k) y ∷ rest) =
        rw (a.next, a.after)
        (subst (λ (x : ℕ). Perm (halfway step z.lower c p (q + suc j * k) (front ++ y ∷ []) a.rest z.higher) (spot c (p + x * k) y ∷ rest)) (omega (arith, length-take j bs))
        (low-one step z.lower c p (q + suc j * k) front y a.rest z.higher)) in
        let now : Kept step R (half p q j) = half_apart j (omega arith) in
        let then : Kept step R (half p q (suc j)) = half_apart (suc j) (omega arith) in (
          moves_perm step R z.pages es le (half p q j) (half p q (suc j)) rest c (q + j * k) (p + j * k) y now then up down,
          moves_perm step R z.pages es le (half p q (suc j)) (half p q j) rest c (p + j * k) (q + j * k) y then now down up,
        )

-- ---- the zone's entry

pub rebased-at : (ls : List Zone) (z : Zone) (hs : List Zone) (c to : ℕ) → length ls ≡ c → rebased (ls ++ z ∷ hs) c to ≡ ls ++ based to z ∷ hs
rebased-at ls z hs c to e =
    subst (λ (d : ℕ). rebased (ls ++ z ∷ hs) d to ≡ ls ++ based to z ∷ hs) e
    (ap₂ (λ (l : List Zone) (y : Zone). l ++ based to y ∷ drop (suc (length ls)) (ls ++ z ∷ hs)) (take_here ls z hs) (zone_here ls z hs)
    ∙ ap (λ (l : List Zone). ls ++ based to z ∷ l) (drop-next ls z hs))

pub loose_kept : (step R : ℕ) (zs : List Zone) → Loose step R zs → Kept step R (spots step 0 zs)
loose_kept step R zs v =
    let b : map spot_block (spots step 0 zs) ≡ blocks zs = spots-blocks step 0 zs in
    kept_lined step R (spots step 0 zs) (spots_sit step (8 * R) 0 0 zs v.fit) (spots_lined step (8 * R) 0 0 zs v.fit) (subst (Pairs Other) (sym b) v.distinct) (omega (arith, length-map (spots step 0 zs) spot_block, ap length b, v.few))
