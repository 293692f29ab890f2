-- The record area: every block's bytes lie where its spot says, and between the zones are zeros.
use Rattle.std.specs.Prelude.{◌≡◌, refl, length, replicate}
use Rattle.std.proofs.Common.{◌∙◌, inl, inr, arith, length-append}
use Rattle.std.proofs.Math.Path.{subst}
use mathlib.Core.List.{List, [], ◌∷◌, ◌++◌, append_assoc}
use Prim.Native.Nat.{ℕ, suc, ◌+◌, ◌*◌, ◌-◌, ◌≤◌}
use Rattle.std.proofs.lemmas.List.{length-replicate}
use Rattle.wire.specs.Bytes.{part, over, bytes16, bytes32}
use Rattle.wire.specs.BytesLaws.{length_over, part-over, Clear, part_else}
use Rattle.wire.specs.All.{All, none, more, all_append, all_map, all_head, all_tail}
use Rattle.records.specs.Edits.{length-encode}
use Rattle.layout.specs.Capacities.{cells, capacity, class_of}
use Rattle.layout.specs.Zones.{Block, Zone, empty, from}
use Rattle.layout.specs.Perm.{Pairs, single, after}
use Rattle.home.specs.Layout.{Sits, Laid, Fit}
use Rattle.home.specs.Bytes.{block_bytes, Spot, row, spots, paint, area}
use Rattle.layout.specs.PermLaws.{pairs_append}
use Rattle.layout.proofs.AfreshLaws.{laid_fit as laid-fit-by}
use Rattle.home.specs.BytesLaws.{part-zeros}

-- ---- layouts

pub laid_fit : (step n c e : ℕ) (zs : List Zone) → Laid step n c e zs → Fit step n c e zs
laid_fit step n c e zs h = laid-fit-by (cells step) (class_of step) n c e zs h

pub fit_le : (step n c e : ℕ) (zs : List Zone) → Fit step n c e zs → e ≤ n
fit_le step n c e [] h = h
fit_le step n c e (empty ∷ zs) h = fit_le step n (suc c) e zs h
fit_le step n c e (from f x xs ∷ zs) h = omega (arith, fit_le step n (suc c) (f + suc (length xs) * cells step c) zs h.1, h.0.after)

-- ---- a layout's blocks lie apart, inside the area

-- within the cells from lo to hi
record Within (step lo hi : ℕ) (s : Spot) : Type 0 where
  low : lo ≤ s.cell
  high : s.cell + cells step s.class ≤ hi

-- in an area of n cells, with no more records than its class holds
pub record Good (step n : ℕ) (s : Spot) : Type 0 where
  pub room : length s.block.list ≤ capacity step s.class
  pub inside : s.cell + cells step s.class ≤ n

abbrev pub Apart : ℕ → Spot → Spot → Type 0
Apart step s t = Clear s.cell (cells step s.class) t.cell (cells step t.class)

within_more : (step lo hi lo' hi' : ℕ) (ss : List Spot) → lo' ≤ lo → hi ≤ hi' → All (Within step lo hi) ss → All (Within step lo' hi') ss
within_more step lo hi lo' hi' ss a b h = all_map (λ s w. record { low = omega arith; high = omega arith }) h

row_within : (step c p : ℕ) (xs : List Block) → All (Within step p (p + length xs * cells step c)) (row step c p xs)
unfolding row
row_within step c p [] = none
row_within step c p (x ∷ xs) =
    more {x = record { cell = p; class = c; block = x }} (record { low = omega arith; high = omega arith })
    (within_more step (p + cells step c) (p + cells step c + length xs * cells step c) p (p + suc (length xs) * cells step c) (row step c (p + cells step c) xs) (omega arith) (omega arith)
    (row_within step c (p + cells step c) xs))

spots_within : (step n c e : ℕ) (zs : List Zone) → Fit step n c e zs → All (Within step e n) (spots step c zs)
unfolding spots
spots_within step n c e [] h = none
spots_within step n c e (empty ∷ zs) h = spots_within step n (suc c) e zs h
spots_within step n c e (from f x xs ∷ zs) h =
    let g : ℕ = f + suc (length xs) * cells step c in
    all_append
    (within_more step f g e n (row step c f (x ∷ xs)) h.0.after (fit_le step n (suc c) g zs h.1) (row_within step c f (x ∷ xs)))
    (within_more step g n e n (spots step (suc c) zs) (omega (arith, h.0.after)) (omega arith) (spots_within step n (suc c) g zs h.1))

before : (step lo mid hi : ℕ) (ss ts : List Spot) → All (Within step lo mid) ss → All (Within step mid hi) ts → All (λ (s : Spot). All (Apart step s) ts) ss
before step lo mid hi ss ts h k = all_map (λ s w. all_map (λ t v. inl (omega arith)) k) h

row_apart : (step c p : ℕ) (xs : List Block) → Pairs (Apart step) (row step c p xs)
unfolding row
row_apart step c p [] = single
row_apart step c p (x ∷ xs) = after (all_map (λ t w. inl w.low) (row_within step c (p + cells step c) xs)) (row_apart step c (p + cells step c) xs)

pub spots_apart : (step n c e : ℕ) (zs : List Zone) → Fit step n c e zs → Pairs (Apart step) (spots step c zs)
unfolding spots
spots_apart step n c e [] h = single
spots_apart step n c e (empty ∷ zs) h = spots_apart step n (suc c) e zs h
spots_apart step n c e (from f x xs ∷ zs) h =
    let g : ℕ = f + suc (length xs) * cells step c in
    pairs_append (Apart step) (row step c f (x ∷ xs)) (spots step (suc c) zs) (row_apart step c f (x ∷ xs)) (spots_apart step n (suc c) g zs h.1)
    (before step f g n (row step c f (x ∷ xs)) (spots step (suc c) zs) (row_within step c f (x ∷ xs)) (spots_within step n (suc c) g zs h.1))

pub row-sits : (step c p : ℕ) (xs : List Block) → All (Sits step c) xs → All (λ (s : Spot). Sits step s.class s.block) (row step c p xs)
unfolding row
row-sits step c p [] h = none
row-sits step c p (x ∷ xs) (more s h) = more s (row-sits step c (p + cells step c) xs h)

pub spots_sit : (step n c e : ℕ) (zs : List Zone) → Fit step n c e zs → All (λ (s : Spot). Sits step s.class s.block) (spots step c zs)
unfolding spots
spots_sit step n c e [] h = none
spots_sit step n c e (empty ∷ zs) h = spots_sit step n (suc c) e zs h
spots_sit step n c e (from f x xs ∷ zs) h = all_append (row-sits step c f (x ∷ xs) h.0.sit) (spots_sit step n (suc c) (f + suc (length xs) * cells step c) zs h.1)

good : (step n e : ℕ) (ss : List Spot) → All (λ (s : Spot). Sits step s.class s.block) ss → All (Within step e n) ss → All (Good step n) ss
unfolding cells
good step n e [] h k = none
good step n e (s ∷ ss) h k = more {x = s} (record { room = omega (arith, (all_head h).room); inside = (all_head k).high }) (good step n e ss (all_tail h) (all_tail k))

pub spots_good : (step n c e : ℕ) (zs : List Zone) → Fit step n c e zs → All (Good step n) (spots step c zs)
spots_good step n c e zs h = good step n e (spots step c zs) (spots_sit step n c e zs h) (spots_within step n c e zs h)

-- ---- blocks written

pub length_block : (step c : ℕ) (b : Block) → length b.list ≤ capacity step c → length (block_bytes step c b) ≡ 8 * cells step c
unfolding block_bytes bytes32 bytes16 cells
length_block step c b h = simp (length-append, length-encode, length-replicate) (omega arith)

abbrev pub bytes_of : ℕ → Spot → List ℕ
bytes_of step s = block_bytes step s.class s.block

-- the bytes a hold the block where it lies
abbrev pub Reads : ℕ → List ℕ → Spot → Type 0
Reads step a s = part a (8 * s.cell) (8 * cells step s.class) ≡ bytes_of step s

pub clear8 : (i n j m : ℕ) → Clear i n j m → Clear (8 * i) (8 * n) (8 * j) (8 * m)
clear8 i n j m (inl h) = inl (omega arith)
clear8 i n j m (inr h) = inr (omega arith)

pub length-paint : (step : ℕ) (ss : List Spot) (a : List ℕ) → length (paint step ss a) ≡ length a
unfolding paint
length-paint step [] a = refl
length-paint step (s ∷ ss) a = length_over (paint step ss a) (8 * s.cell) (bytes_of step s) ∙ length-paint step ss a

-- bytes where no block lies
pub paint_else : (step n j m : ℕ) (ss : List Spot) (a : List ℕ) → All (Good step n) ss → All (λ (s : Spot). Clear s.cell (cells step s.class) j m) ss
    → part (paint step ss a) (8 * j) (8 * m) ≡ part a (8 * j) (8 * m)
unfolding paint
paint_else step n j m [] a g h = refl
paint_else step n j m (s ∷ ss) a (more x g) (more y h) =
    part_else (paint step ss a) (8 * s.cell) (bytes_of step s) (8 * j) (8 * m) (rw (length_block step s.class s.block x.room) (clear8 s.cell (cells step s.class) j m y))
    ∙ paint_else step n j m ss a g h

module _ (step n : ℕ) (a : List ℕ) (la : length a ≡ 8 * n) where
  -- the bytes of the first block
  paint-first : (s : Spot) (ss : List Spot) → Good step n s → Reads step (paint step (s ∷ ss) a) s
  unfolding paint
  paint-first s ss g =
      subst (λ (k : ℕ). part (over (paint step ss a) (8 * s.cell) (bytes_of step s)) (8 * s.cell) k ≡ bytes_of step s) (length_block step s.class s.block g.room)
      (part-over (paint step ss a) (8 * s.cell) (bytes_of step s) (omega (arith, length_block step s.class s.block g.room, g.inside, length-paint step ss a)))

  -- and of those behind it
  reads_more : (s : Spot) (ss ts : List Spot) → Good step n s → All (Apart step s) ts → All (Reads step (paint step ss a)) ts → All (Reads step (paint step (s ∷ ss) a)) ts
  unfolding paint
  reads_more s ss [] g h r = none
  reads_more s ss (t ∷ ts) g (more x h) (more y r) =
      more
      (part_else (paint step ss a) (8 * s.cell) (bytes_of step s) (8 * t.cell) (8 * cells step t.class)
      (rw (length_block step s.class s.block g.room) (clear8 s.cell (cells step s.class) t.cell (cells step t.class) x)) ∙ y)
      (reads_more s ss ts g h r)

  paint_reads : (ss : List Spot) → All (Good step n) ss → Pairs (Apart step) ss → All (Reads step (paint step ss a)) ss
  paint_reads [] g h = none
  paint_reads (s ∷ ss) (more x g) (after y h) = more (paint-first s ss x) (reads_more s ss ss x y (paint_reads ss g h))

pub area_reads : (step n : ℕ) (zs : List Zone) → Fit step n 0 0 zs → All (Reads step (area step n zs)) (spots step 0 zs)
unfolding area
area_reads step n zs h = paint_reads step n (replicate (8 * n) 0) (length-replicate (8 * n) 0) (spots step 0 zs) (spots_good step n 0 0 zs h) (spots_apart step n 0 0 zs h)

pub length-area : (step n : ℕ) (zs : List Zone) → length (area step n zs) ≡ 8 * n
unfolding area
length-area step n zs = length-paint step (spots step 0 zs) (replicate (8 * n) 0) ∙ length-replicate (8 * n) 0

-- ---- gaps

-- m cells from i on are zero
abbrev pub Zero : List ℕ → ℕ → ℕ → Type 0
Zero a i m = part a (8 * i) (8 * m) ≡ replicate (8 * m) 0

-- so are the gaps of zones c and up, and what is behind the last
abbrev pub Clean : ℕ → (ℕ → ℕ → Type 0) → ℕ → ℕ → ℕ → List Zone → Type 0
Clean step Z n c e [] = Z e (n - e)
Clean step Z n c e (empty ∷ zs) = Clean step Z n (suc c) e zs
Clean step Z n c e (from f x xs ∷ zs) = Z e (f - e) × Clean step Z n (suc c) (f + suc (length xs) * cells step c) zs

module _ (step n : ℕ) (ss : List Spot) (good : All (Good step n) ss) where
  gap_zero : (e f : ℕ) (lo hi : List Spot) → lo ++ hi ≡ ss → e ≤ f → f ≤ n → All (Within step 0 e) lo → All (Within step f n) hi → Zero (paint step ss (replicate (8 * n) 0)) e (f - e)
  gap_zero e f lo hi q b d h k =
      paint_else step n e (f - e) ss (replicate (8 * n) 0) good
      (subst (All (λ (s : Spot). Clear s.cell (cells step s.class) e (f - e))) q
      (all_append
      (all_map {P = Within step 0 e} {Q = λ (s : Spot). Clear s.cell (cells step s.class) e (f - e)} (λ s w. inl w.high) h)
      (all_map {P = Within step f n} {Q = λ (s : Spot). Clear s.cell (cells step s.class) e (f - e)} (λ s w. inr (omega arith)) k)))
      ∙ part-zeros (8 * n) (8 * e) (8 * (f - e)) (omega arith)

  clean : (c e : ℕ) (zs : List Zone) (lo : List Spot) → lo ++ spots step c zs ≡ ss → Fit step n c e zs → All (Within step 0 e) lo → Clean step (Zero (paint step ss (replicate (8 * n) 0))) n c e zs
  unfolding spots
  clean c e [] lo q l h = gap_zero e n lo [] q l (omega arith) h none
  clean c e (empty ∷ zs) lo q l h = clean (suc c) e zs lo q l h
  clean c e (from f x xs ∷ zs) lo q l h =
      let g : ℕ = f + suc (length xs) * cells step c in
      let r : List Spot = row step c f (x ∷ xs) in
      let t : List Spot = spots step (suc c) zs in
      let gn : g ≤ n = fit_le step n (suc c) g zs l.1 in (
        gap_zero e f lo (r ++ t) q l.0.after (omega arith) h
            (all_append (within_more step f g f n r (omega arith) gn (row_within step c f (x ∷ xs))) (within_more step g n f n t (omega arith) (omega arith) (spots_within step n (suc c) g zs l.1))),
        clean (suc c) g zs (lo ++ r) (append_assoc lo r t ∙ q) l.1
            (all_append (within_more step 0 e 0 g lo (omega arith) (omega (arith, l.0.after)) h) (within_more step f g 0 g r (omega arith) (omega arith) (row_within step c f (x ∷ xs)))),
      )

pub area_clean : (step n : ℕ) (zs : List Zone) → Fit step n 0 0 zs → Clean step (Zero (area step n zs)) n 0 0 zs
unfolding area
area_clean step n zs l = clean step n (spots step 0 zs) (spots_good step n 0 0 zs l) 0 0 zs [] refl l none
