-- What a move of one block does to the record area.
use Rattle.std.specs.Prelude.{◌≡◌, ℕ, ◌+◌, ◌*◌, ◌≤◌, replicate}
use Rattle.std.proofs.Math.Path.{refl, sym, ap}
use Rattle.std.proofs.Common.{◌∙◌, inl, inr, arith}
use mathlib.Core.List.{List, ◌∷◌}
use Rattle.std.proofs.Math.ListN.{length}
use Rattle.std.proofs.lemmas.List.{length-replicate}
use Rattle.wire.specs.Bytes.{part, over}
use Rattle.wire.specs.BytesLaws.{Clear, over_again, over_same, over_comm}
use Rattle.wire.specs.All.{All, more, all_map, all_head, all_tail}
use Rattle.layout.specs.Capacities.{cells}
use Rattle.layout.specs.Zones.{Block, Zone}
use Rattle.layout.specs.Perm.{Perm, pnil, pskip, pswap, ptrans, Pairs, after}
use Rattle.layout.specs.PermLaws.{pall, ppairs, pairs_head}
use Rattle.home.specs.Layout.{Fit}
use Rattle.home.specs.Bytes.{Spot, spots, paint, area, block_bytes}
use Rattle.home.specs.BytesLaws.{part-zeros}
use Rattle.home.specs.AreaLaws.{Good, Apart, bytes_of, Reads, spots_apart, spots_good, length_block, length-paint, area_reads, clear8, paint_else}
use Rattle.moves.specs.Moves.{carried}

-- ---- blocks written in any order

pub apart_sym : (step : ℕ) (s t : Spot) → Apart step s t → Apart step t s
apart_sym step s t (inl h) = inr h
apart_sym step s t (inr h) = inl h

module _ (step n : ℕ) (a : List ℕ) (la : length a ≡ 8 * n) where
  inside : (s : Spot) (ss : List Spot) → Good step n s → 8 * s.cell + length (bytes_of step s) ≤ length (paint step ss a)
  inside s ss g = omega (arith, length_block step s.class s.block g.room, g.inside, length-paint step ss a)

  pub paint_perm : {ss ts : List Spot} → Perm ss ts → All (Good step n) ss → Pairs (Apart step) ss → paint step ss a ≡ paint step ts a
  unfolding paint
  paint_perm pnil g h = refl
  paint_perm (pskip s p) (more x g) (after y h) = ap (λ (l : List ℕ). over l (8 * s.cell) (bytes_of step s)) (paint_perm p g h)
  paint_perm (pswap s t ss) (more x (more y g)) (after (more z k) h) =
      over_comm (paint step ss a) (8 * s.cell) (bytes_of step s) (8 * t.cell) (bytes_of step t)
      (rw (length_block step s.class s.block x.room, length_block step t.class t.block y.room) (clear8 s.cell (cells step s.class) t.cell (cells step t.class) z))
  paint_perm (ptrans p q) g h = paint_perm p g h ∙ paint_perm q (pall (Good step n) p g) (ppairs (Apart step) (apart_sym step) p h)

-- a block taken away: its cells become zero
pub paint_gone : (step n : ℕ) (s : Spot) (ss : List Spot) → Good step n s → All (Good step n) ss → All (Apart step s) ss
    → over (paint step (s ∷ ss) (replicate (8 * n) 0)) (8 * s.cell) (replicate (8 * cells step s.class) 0) ≡ paint step ss (replicate (8 * n) 0)
unfolding paint
paint_gone step n s ss g gs h =
    let a : List ℕ = replicate (8 * n) 0 in
    let la : length a ≡ 8 * n = length-replicate (8 * n) 0 in
    let z : List ℕ = replicate (8 * cells step s.class) 0 in
    let lz : length z ≡ 8 * cells step s.class = length-replicate (8 * cells step s.class) 0 in
    let lb : length (bytes_of step s) ≡ 8 * cells step s.class = length_block step s.class s.block g.room in
    over_again (paint step ss a) (8 * s.cell) z (bytes_of step s) (lz ∙ sym lb) (omega (arith, inside step n a la s ss g))
    ∙ over_same (paint step ss a) (8 * s.cell) z (omega (arith, inside step n a la s ss g))
    (ap (part (paint step ss a) (8 * s.cell)) lz
    ∙ paint_else step n s.cell (cells step s.class) ss a gs (all_map {P = Apart step s} {Q = λ (t : Spot). Clear t.cell (cells step t.class) s.cell (cells step s.class)} (λ t k. apart_sym step s t k) h)
    ∙ part-zeros (8 * n) (8 * s.cell) (8 * cells step s.class) (omega (arith, g.inside)))

-- ---- the whole area, of two layouts

module _ (step n : ℕ) (zs zs' : List Zone) (h : Fit step n 0 0 zs) (h' : Fit step n 0 0 zs') where
  abbrev blank_area : List ℕ
  blank_area = replicate (8 * n) 0

  sort : (ys : List Zone) → Fit step n 0 0 ys → (ss : List Spot) → Perm (spots step 0 ys) ss → area step n ys ≡ paint step ss blank_area
  unfolding area
  sort ys k ss p = paint_perm step n blank_area (length-replicate (8 * n) 0) p (spots_good step n 0 0 ys k) (spots_apart step n 0 0 ys k)

  gone : (s : Spot) (ss : List Spot) → Perm (spots step 0 zs) (s ∷ ss) → over (area step n zs) (8 * s.cell) (replicate (8 * cells step s.class) 0) ≡ paint step ss blank_area
  gone s ss p =
      let g : All (Good step n) (s ∷ ss) = pall (Good step n) p (spots_good step n 0 0 zs h) in
      ap (λ (l : List ℕ). over l (8 * s.cell) (replicate (8 * cells step s.class) 0)) (sort zs h (s ∷ ss) p)
      ∙ paint_gone step n s ss (all_head g) (all_tail g) (pairs_head (Apart step) s ss (ppairs (Apart step) (apart_sym step) p (spots_apart step n 0 0 zs h)))

  -- a block gone
  pub area_gone : (s : Spot) → Perm (spots step 0 zs) (s ∷ spots step 0 zs') → area step n zs' ≡ over (area step n zs) (8 * s.cell) (replicate (8 * cells step s.class) 0)
  unfolding area
  area_gone s p = sym (gone s (spots step 0 zs') p)

  -- a block added
  pub area-added : (s : Spot) → Perm (spots step 0 zs') (s ∷ spots step 0 zs) → area step n zs' ≡ over (area step n zs) (8 * s.cell) (bytes_of step s)
  unfolding area paint
  area-added s p = sort zs' h' (s ∷ spots step 0 zs) p

  -- a block moved
  pub area-moved : (s : Spot) (q : ℕ) (ss : List Spot) → Perm (spots step 0 zs) (s ∷ ss) → Perm (spots step 0 zs') (record { cell = q; class = s.class; block = s.block } ∷ ss)
      → area step n zs' ≡ carried (area step n zs) (8 * s.cell) (8 * q) (8 * cells step s.class)
  unfolding carried paint
  area-moved s q ss p p' =
      sort zs' h' (record { cell = q; class = s.class; block = s.block } ∷ ss) p'
      ∙ sym (ap (λ (l : List ℕ). over l (8 * q) (part (area step n zs) (8 * s.cell) (8 * cells step s.class))) (gone s ss p)
      ∙ ap (over (paint step ss blank_area) (8 * q)) (all_head (pall (Reads step (area step n zs)) p (area_reads step n zs h))))

  -- the last block y of a zone fills the place q of b
  pub area-filled : (c q p : ℕ) (b y : Block) (r : List Spot) → Perm (spots step 0 zs) (record { cell = q; class = c; block = b } ∷ record { cell = p; class = c; block = y } ∷ r)
      → Perm (spots step 0 zs') (record { cell = q; class = c; block = y } ∷ r) → area step n zs' ≡ carried (area step n zs) (8 * p) (8 * q) (8 * cells step c)
  unfolding carried paint
  area-filled c q p b y r was is =
      let sb : Spot = record { cell = q; class = c; block = b } in
      let sy : Spot = record { cell = p; class = c; block = y } in
      let was' : Perm (spots step 0 zs) (sy ∷ sb ∷ r) = ptrans was (pswap sb sy r) in
      let g : All (Good step n) (sb ∷ sy ∷ r) = pall (Good step n) was (spots_good step n 0 0 zs h) in
      let lb : length (bytes_of step sb) ≡ 8 * cells step c = length_block step c b (all_head g).room in
      let ly : length (bytes_of step sy) ≡ 8 * cells step c = length_block step c y (all_head (all_tail g)).room in
      sort zs' h' (record { cell = q; class = c; block = y } ∷ r) is
      ∙ sym (ap (λ (l : List ℕ). over l (8 * q) (part (area step n zs) (8 * p) (8 * cells step c))) (gone sy (sb ∷ r) was')
      ∙ ap (over (paint step (sb ∷ r) blank_area) (8 * q)) (all_head (pall (Reads step (area step n zs)) was' (area_reads step n zs h)))
      ∙ over_again (paint step r blank_area) (8 * q) (bytes_of step sy) (bytes_of step sb) (ly ∙ sym lb) (omega (arith, inside step n blank_area (length-replicate (8 * n) 0) sb r (all_head g))))

  -- another list in the same block
  pub area-rewritten : (c p : ℕ) (b b' : Block) (ss : List Spot) → Perm (spots step 0 zs) (record { cell = p; class = c; block = b } ∷ ss)
      → Perm (spots step 0 zs') (record { cell = p; class = c; block = b' } ∷ ss) → area step n zs' ≡ over (area step n zs) (8 * p) (block_bytes step c b')
  unfolding paint
  area-rewritten c p b b' ss was is =
      let s : Spot = record { cell = p; class = c; block = b } in
      let s' : Spot = record { cell = p; class = c; block = b' } in
      let g : All (Good step n) (s ∷ ss) = pall (Good step n) was (spots_good step n 0 0 zs h) in
      let g' : All (Good step n) (s' ∷ ss) = pall (Good step n) is (spots_good step n 0 0 zs' h') in
      sort zs' h' (s' ∷ ss) is
      ∙ sym (ap (λ (l : List ℕ). over l (8 * p) (block_bytes step c b')) (sort zs h (s ∷ ss) was)
      ∙ over_again (paint step ss blank_area) (8 * p) (bytes_of step s') (bytes_of step s) (length_block step c b' (all_head g').room ∙ sym (length_block step c b (all_head g).room))
      (omega (arith, inside step n blank_area (length-replicate (8 * n) 0) s' ss (all_head g'))))
