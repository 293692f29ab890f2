-- Which block lies where before and after a move.
use Rattle.std.specs.Prelude.{◌≡◌, refl, List, [], ◌∷◌, ◌++◌, ℕ, suc, ◌+◌, ◌*◌, ◌-◌, ◌≤◌, length}
use Rattle.std.proofs.Common.{sym, ap, ◌∙◌, subst, append_assoc, arith}
use Rattle.layout.specs.Capacities.{cells}
use Rattle.layout.specs.Zones.{Block, Zone, empty, from, added, lifted, end_of, last_of, init_of, turned}
use Rattle.layout.specs.Perm.{Perm, pskip, ptrans}
use Rattle.layout.specs.PermLaws.{prefl, pleft, pright, pfront, protate}
use Rattle.home.specs.Bytes.{Spot, row, spots}

abbrev pub spot : ℕ → ℕ → Block → Spot
spot c p x = record { cell = p; class = c; block = x }

-- ---- rows and zones joined

row-append : (step c p : ℕ) (xs ys : List Block) → row step c p (xs ++ ys) ≡ row step c p xs ++ row step c (p + length xs * cells step c) ys
unfolding row
row-append step c p [] ys = ap (λ (q : ℕ). row step c q ys) (omega arith)
row-append step c p (x ∷ xs) ys = ap (λ (l : List Spot). spot c p x ∷ l)
    (row-append step c (p + cells step c) xs ys ∙ ap (λ (q : ℕ). row step c (p + cells step c) xs ++ row step c q ys) (omega arith))

spots-append : (step c : ℕ) (ls hs : List Zone) → spots step c (ls ++ hs) ≡ spots step c ls ++ spots step (c + length ls) hs
unfolding spots
spots-append step c [] hs = ap (λ (d : ℕ). spots step d hs) (omega arith)
spots-append step c (empty ∷ ls) hs = spots-append step (suc c) ls hs ∙ ap (λ (d : ℕ). spots step (suc c) ls ++ spots step d hs) (omega arith)
spots-append step c (from f x xs ∷ ls) hs =
    ap (λ (l : List Spot). row step c f (x ∷ xs) ++ l) (spots-append step (suc c) ls hs ∙ ap (λ (d : ℕ). spots step (suc c) ls ++ spots step d hs) (omega arith))
    ∙ sym (append_assoc (row step c f (x ∷ xs)) (spots step (suc c) ls) (spots step (c + suc (length ls)) hs))

pub spots_in : (step : ℕ) (ls hs : List Zone) → spots step 0 (ls ++ hs) ≡ spots step 0 ls ++ spots step (length ls) hs
spots_in step ls hs = let e : 0 + length ls ≡ length ls = omega arith in spots-append step 0 ls hs ∙ ap (λ (d : ℕ). spots step 0 ls ++ spots step d hs) e

-- a block of these zones among those of lower ones
pub in_context : (step : ℕ) (ls hs : List Zone) (s : Spot) (ss : List Spot) → Perm (spots step (length ls) hs) (s ∷ ss) → Perm (spots step 0 (ls ++ hs)) (s ∷ (spots step 0 ls ++ ss))
in_context step ls hs s ss p =
    subst (λ (l : List Spot). Perm l (s ∷ (spots step 0 ls ++ ss))) (sym (spots_in step ls hs)) (ptrans (pleft (spots step 0 ls) p) (pfront s (spots step 0 ls) ss))

-- ---- lifted off: its first block goes to the zone's end, or to the lower zones' end

-- the cell to which it goes, and the zone's first cell then
unfoldable pub lifted_to : ℕ → ℕ → ℕ → ℕ → List Block → ℕ
lifted_to step c e f [] = e
lifted_to step c e f (y ∷ ys) = f + suc (length (y ∷ ys)) * cells step c

unfoldable pub lifted_first : ℕ → ℕ → ℕ → ℕ → List Block → ℕ
lifted_first step c e f [] = e
lifted_first step c e f (y ∷ ys) = f + cells step c

pub lifted-spots : (step c e f : ℕ) (x : Block) (xs : List Block) (zs : List Zone)
    → Perm (spots step c (lifted (cells step) c e f x xs ∷ zs)) (spot c (lifted_to step c e f xs) x ∷ (row step c (f + cells step c) xs ++ spots step (suc c) zs))
unfolding spots lifted lifted_to row
lifted-spots step c e f x [] zs = prefl (spot c e x ∷ spots step (suc c) zs)
lifted-spots step c e f x (y ∷ ys) zs =
    let p : ℕ = f + cells step c in
    let r : List Spot = row step c p (y ∷ ys) in
    let q : p + suc (length ys) * cells step c ≡ f + suc (suc (length ys)) * cells step c = omega arith in
    subst (λ (l : List Spot). Perm (l ++ spots step (suc c) zs) (spot c (f + suc (suc (length ys)) * cells step c) x ∷ (r ++ spots step (suc c) zs)))
    (sym (row-append step c p (y ∷ ys) (x ∷ []) ∙ ap (λ (j : ℕ). r ++ (spot c j x ∷ [])) q))
    (pright (spots step (suc c) zs) (protate (spot c (f + suc (suc (length ys)) * cells step c) x) r))

-- ---- added at the zone's end

pub added-spots : (step c e : ℕ) (b : Block) (z : Zone) (zs : List Zone) → Perm (spots step c (added e b z ∷ zs)) (spot c (end_of (cells step) c e z) b ∷ spots step c (z ∷ zs))
unfolding spots added end_of row
added-spots step c e b empty zs = prefl (spot c e b ∷ spots step (suc c) zs)
added-spots step c e b (from f x xs) zs =
    let q : ℕ = f + suc (length xs) * cells step c in
    let r : List Spot = row step c f (x ∷ xs) in
    subst (λ (l : List Spot). Perm (l ++ spots step (suc c) zs) (spot c q b ∷ (r ++ spots step (suc c) zs))) (sym (row-append step c f (x ∷ xs) (b ∷ [])))
    (subst (λ (l : List Spot). Perm l (spot c q b ∷ (r ++ spots step (suc c) zs))) (sym (append_assoc r (spot c q b ∷ []) (spots step (suc c) zs))) (pfront (spot c q b) r (spots step (suc c) zs)))

-- ---- a zone's last block

pub init_last : (x : Block) (xs : List Block) → init_of x xs ++ (last_of x xs ∷ []) ≡ x ∷ xs
unfolding init_of last_of
init_last x [] = refl
init_last x (y ∷ ys) = ap (λ (l : List Block). x ∷ l) (init_last y ys)

pub length_init : (x : Block) (xs : List Block) → length (init_of x xs) ≡ length xs
unfolding init_of
length_init x [] = refl
length_init x (y ∷ ys) = ap suc (length_init y ys)

row_last : (step c p : ℕ) (x : Block) (xs : List Block) → Perm (row step c p (x ∷ xs)) (spot c (p + length xs * cells step c) (last_of x xs) ∷ row step c p (init_of x xs))
unfolding row
row_last step c p x xs =
    let q : ℕ = p + length xs * cells step c in
    let r : List Spot = row step c p (init_of x xs) in
    subst (λ (l : List Spot). Perm l (spot c q (last_of x xs) ∷ r))
    (ap (λ (j : ℕ). r ++ (spot c (p + j * cells step c) (last_of x xs) ∷ [])) (sym (length_init x xs))
    ∙ sym (row-append step c p (init_of x xs) (last_of x xs ∷ [])) ∙ ap (row step c p) (init_last x xs))
    (protate (spot c q (last_of x xs)) r)

-- one step of closing up, before and after
pub lower-before : (step c f : ℕ) (x : Block) (xs : List Block) (zs : List Zone)
    → Perm (spots step c (from f x xs ∷ zs)) (spot c (f + length xs * cells step c) (last_of x xs) ∷ (row step c f (init_of x xs) ++ spots step (suc c) zs))
unfolding spots
lower-before step c f x xs zs = pright (spots step (suc c) zs) (row_last step c f x xs)

pub lower-after : (step c f : ℕ) (x : Block) (xs : List Block) (zs : List Zone) → cells step c ≤ f
    → spots step c (from (f - cells step c) (last_of x xs) (init_of x xs) ∷ zs) ≡ spot c (f - cells step c) (last_of x xs) ∷ (row step c f (init_of x xs) ++ spots step (suc c) zs)
unfolding spots row
lower-after step c f x xs zs h = ap (λ (q : ℕ). spot c (f - cells step c) (last_of x xs) ∷ (row step c q (init_of x xs) ++ spots step (suc c) zs)) (omega arith)

-- ---- a block taken out of the zone from f, with the blocks pre before it

pub gone_before : (step c f : ℕ) (pre : List Block) (b : Block) (post : List Block)
    → Perm (row step c f (pre ++ b ∷ post)) (spot c (f + length pre * cells step c) b ∷ (row step c f pre ++ row step c (f + length pre * cells step c + cells step c) post))
unfolding row
gone_before step c f pre b post =
    let q : ℕ = f + length pre * cells step c in
    subst (λ (l : List Spot). Perm l (spot c q b ∷ (row step c f pre ++ row step c (q + cells step c) post))) (sym (row-append step c f pre (b ∷ post)))
    (pfront (spot c q b) (row step c f pre) (row step c (q + cells step c) post))

pub fill_before : (step c f : ℕ) (pre : List Block) (b y : Block) (ys : List Block)
    → Perm (row step c f (pre ++ b ∷ y ∷ ys))
    (spot c (f + length pre * cells step c) b ∷ spot c (f + length pre * cells step c + cells step c + length ys * cells step c) (last_of y ys)
    ∷ (row step c f pre ++ row step c (f + length pre * cells step c + cells step c) (init_of y ys)))
unfolding row
fill_before step c f pre b y ys =
    let q : ℕ = f + length pre * cells step c in
    let u : Spot = spot c (q + cells step c + length ys * cells step c) (last_of y ys) in
    ptrans (gone_before step c f pre b (y ∷ ys))
    (pskip (spot c q b) (ptrans (pleft (row step c f pre) (row_last step c (q + cells step c) y ys)) (pfront u (row step c f pre) (row step c (q + cells step c) (init_of y ys)))))

-- the last of those behind it fills its place
pub fill_after : (step c f : ℕ) (pre : List Block) (y : Block) (ys : List Block)
    → Perm (row step c f (pre ++ turned (y ∷ ys)))
    (spot c (f + length pre * cells step c) (last_of y ys) ∷ (row step c f pre ++ row step c (f + length pre * cells step c + cells step c) (init_of y ys)))
unfolding turned
fill_after step c f pre y ys = gone_before step c f pre (last_of y ys) (init_of y ys)
