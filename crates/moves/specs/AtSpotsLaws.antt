-- Home's bytes of any blocks that lie apart, as they are while a zone's blocks are moved one after the other.
use Rattle.std.specs.Prelude.{◌≡◌, length, replicate}
use Rattle.std.proofs.Math.Path.{refl, ap, ap₂, subst}
use Rattle.std.proofs.Common.{sym, ◌∙◌, inl, arith}
use mathlib.Core.List.{List, [], ◌∷◌, ◌++◌, map}
use Prim.Native.Nat.{ℕ, suc, ◌+◌, ◌*◌, ◌≤◌, ◌<◌}
use Rattle.std.proofs.Math.ListN.{drop}
use Rattle.std.proofs.lemmas.List.{length-replicate, length-map}
use Rattle.wire.specs.Bytes.{part, over, get32, bytes16, bytes32}
use Rattle.wire.specs.BytesLaws.{part-over}
use Rattle.wire.specs.All.{All, none, more, all_map, all_head, all_tail}
use Rattle.layout.specs.Capacities.{cells}
use Rattle.layout.specs.Zones.{Block, Zone, empty, from, end_of}
use Rattle.layout.specs.Perm.{Perm, Pairs, single, after}
use Rattle.layout.specs.PermLaws.{psym, plength, pall, ppairs, pairs_head, pmap}
use Rattle.layout.specs.Valid.{Other}
use Rattle.home.specs.Layout.{Sits, Fit, Loose}
use Rattle.layout.specs.FindLaws.{pdistinct}
use Rattle.home.specs.Bytes.{Spot, row, spots, paint, Entry, entry_of, sorted, dictionary, padded, zone_entries, area, encode, block_bytes}
use Rattle.home.specs.BytesLaws.{chop, get32-front}
use Rattle.home.specs.AreaLaws.{Good, Apart, Reads, bytes_of, length_block, length-paint}
use Rattle.home.specs.HomeLaws.{get32-at, length-padded}
use Rattle.home.specs.DictionaryLaws.{Else, Below, sorted_perm, sorted-rising, perm_sorted, pairs_of}
use Rattle.home.specs.EntriesLaws.{Small, small-entries}
use Rattle.home.specs.JoinLaws.{join-length}
use Rattle.home.specs.EncodeLaws.{state, Fine, encode-state}
use Rattle.moves.specs.Moves.{Movable, carried, zoned, moved}
use Rattle.moves.specs.AreaLaws.{apart_sym, paint_perm, paint_gone}
use Rattle.moves.specs.EntryLaws.{Parted, kept, sorted-one}
use Rattle.moves.specs.StateLaws.{state-zoned, state_movable, state-moved}
use Rattle.moves.specs.SpotLaws.{spot}
use Rattle.moves.specs.Stored.{end_after}

abbrev pub spot_block : Spot → Block
spot_block s = s.block

abbrev pub SitsAt : ℕ → Spot → Type 0
SitsAt step s = Sits step s.class s.block

-- zone entries es, and dictionary and area of these blocks
unfoldable pub at_spots : ℕ → ℕ → List ℕ → List Spot → List ℕ
at_spots step R es ss = state step es (sorted (map entry_of ss)) (paint step ss (replicate (8 * (8 * R)) 0))

-- they lie apart in the area, each of its class, no tag twice
pub record Kept (step R : ℕ) (ss : List Spot) : Type 0 where
  pub sit : All (SitsAt step) ss
  pub good : All (Good step (8 * R)) ss
  pub apart : Pairs (Apart step) ss
  pub distinct : Pairs Other (map spot_block ss)
  pub few : length ss ≤ 256

pub kept_perm : (step R : ℕ) {ss ts : List Spot} → Perm ss ts → Kept step R ss → Kept step R ts
kept_perm step R p k = record {
  sit = pall (SitsAt step) p k.sit;
  good = pall (Good step (8 * R)) p k.good;
  apart = ppairs (Apart step) (apart_sym step) p k.apart;
  distinct = pdistinct (pmap spot_block p) k.distinct;
  few = omega (arith, plength p, k.few);
}

module _ (step R : ℕ) (small : R ≤ 1024) (es : List ℕ) (le : length es ≡ 120) where
  abbrev zeros : List ℕ
  zeros = replicate (8 * (8 * R)) 0

  lz : length zeros ≡ 8 * (8 * R)
  lz = length-replicate (8 * (8 * R)) 0

  spots_fine : (ss : List Spot) → Kept step R ss → Fine (sorted (map entry_of ss))
  spots_fine ss k = record {
    few = omega (arith, plength (perm_sorted (map entry_of ss)), length-map ss entry_of, k.few);
    small = pall Small (psym (perm_sorted (map entry_of ss))) (small-entries step R ss small k.sit k.good);
  }

  -- the order in which they are named does not matter
  pub spots_perm : {ss ts : List Spot} → Perm ss ts → Kept step R ss → at_spots step R es ss ≡ at_spots step R es ts
  unfolding at_spots
  spots_perm {ss = ss} p k = ap₂ (state step es) (sorted_perm (pmap entry_of p) (pairs_of ss k.distinct)) (paint_perm step (8 * R) zeros lz p k.good k.apart)

  pub spots_long : (ss : List Spot) → Kept step R ss → length (at_spots step R es ss) ≡ 1664 + 64 * R
  unfolding at_spots
  spots_long ss k =
      let ds : List Entry = sorted (map entry_of ss) in
      let a : List ℕ = paint step ss zeros in
      join-length step (length ds) es (padded ds) a le (length-padded ds (spots_fine ss k).few) ∙ omega (arith, length-paint step ss zeros, lz)

  pub spots-zoned : (ss : List Spot) → Kept step R ss → (c f n : ℕ) → c < 30 → zoned (at_spots step R es ss) c f n ≡ at_spots step R (over es (4 * c) (bytes16 f ++ bytes16 n)) ss
  unfolding at_spots
  spots-zoned ss k c f n g = state-zoned step es (paint step ss zeros) le (sorted (map entry_of ss)) (spots_fine ss k) c f n g

  -- ---- one block moved

  reads : (s : Spot) (ss : List Spot) → Good step (8 * R) s → Reads step (paint step (s ∷ ss) zeros) s
  unfolding paint
  reads s ss g =
      subst (λ (n : ℕ). part (over (paint step ss zeros) (8 * s.cell) (bytes_of step s)) (8 * s.cell) n ≡ bytes_of step s) (length_block step s.class s.block g.room)
      (part-over (paint step ss zeros) (8 * s.cell) (bytes_of step s) (omega (arith, length_block step s.class s.block g.room, g.inside, length-paint step ss zeros, lz)))

  bears : (s : Spot) (ss : List Spot) → Good step (8 * R) s → SitsAt step s → get32 (paint step (s ∷ ss) zeros) (8 * s.cell) ≡ s.block.tag
  unfolding block_bytes bytes32 get32
  bears s ss g sit =
      let a : List ℕ = paint step (s ∷ ss) zeros in
      let n : ℕ = 8 * cells step s.class in
      let rest : List ℕ = drop (8 * s.cell + n) a in
      get32-at a (bytes_of step s ++ rest) (8 * s.cell) (chop (8 * s.cell) n a ∙ ap (λ (l : List ℕ). l ++ rest) (reads s ss g)) ∙ get32-front s.block.tag [] sit.tag

  pub spots_movable : (s : Spot) (ss : List Spot) → Kept step R (s ∷ ss) → Movable (at_spots step R es (s ∷ ss)) s.cell
  unfolding at_spots
  spots_movable s ss k =
      let x : Entry = entry_of s in
      let xs : List Entry = map entry_of ss in
      let a : List ℕ = paint step (s ∷ ss) zeros in
      let o : Pairs Else (x ∷ xs) = pairs_of (s ∷ ss) k.distinct in
      let t : Parted x.tag (sorted xs) = kept x xs o in
      let d : sorted (x ∷ xs) ≡ t.pre ++ x ∷ t.post = sorted-one x xs t in
      subst (λ (l : List Entry). Movable (state step es l a) s.cell) (sym d)
      (state_movable step es le t.pre t.post a x.tag t.low t.high x s.cell refl (subst Fine d (spots_fine (s ∷ ss) k)) (subst (Pairs Below) d (sorted-rising (x ∷ xs) o))
      (bears s ss (all_head k.good) (all_head k.sit)))

  pub spots-moved : (s : Spot) (q : ℕ) (ss : List Spot) → Kept step R (s ∷ ss) → Kept step R (spot s.class q s.block ∷ ss)
      → moved step (at_spots step R es (s ∷ ss)) s.class s.cell q ≡ at_spots step R es (spot s.class q s.block ∷ ss)
  unfolding at_spots carried paint
  spots-moved s q ss k k' =
      let x : Entry = entry_of s in
      let x' : Entry = entry_of (spot s.class q s.block) in
      let xs : List Entry = map entry_of ss in
      let a : List ℕ = paint step (s ∷ ss) zeros in
      let t : Parted x.tag (sorted xs) = kept x xs (pairs_of (s ∷ ss) k.distinct) in
      let d : sorted (x ∷ xs) ≡ t.pre ++ x ∷ t.post = sorted-one x xs t in
      let d' : sorted (x' ∷ xs) ≡ t.pre ++ x' ∷ t.post = sorted-one x' xs t in
      let gone : over a (8 * s.cell) (replicate (8 * cells step s.class) 0) ≡ paint step ss zeros =
      paint_gone step (8 * R) s ss (all_head k.good) (all_tail k.good) (pairs_head (Apart step) s ss k.apart) in
      let c : carried a (8 * s.cell) (8 * q) (8 * cells step s.class) ≡ over (paint step ss zeros) (8 * q) (bytes_of step s) =
      ap (λ (l : List ℕ). over l (8 * q) (part a (8 * s.cell) (8 * cells step s.class))) gone ∙ ap (over (paint step ss zeros) (8 * q)) (reads s ss (all_head k.good)) in
      ap (λ (l : List Entry). moved step (state step es l a) s.class s.cell q) d
      ∙ state-moved step es le t.pre t.post a x.tag t.low t.high x s.class s.cell q refl (subst Fine d (spots_fine (s ∷ ss) k)) (bears s ss (all_head k.good) (all_head k.sit))
      ∙ ap₂ (state step es) (sym d') c

-- ---- a layout's bytes

pub encode-spots : (step R : ℕ) (zs : List Zone) → Loose step R zs → encode step R zs ≡ at_spots step R (zone_entries zs) (spots step 0 zs)
unfolding at_spots dictionary area
encode-spots step R zs v = encode-state step R zs v

-- ---- blocks in the order of their cells

-- from e on, up to hi
abbrev pub Lined : ℕ → ℕ → List Spot → ℕ → Type 0
Lined step e [] hi = e ≤ hi
Lined step e (s ∷ ss) hi = (e ≤ s.cell) × Lined step (s.cell + cells step s.class) ss hi

pub lined_lower : (step e e' : ℕ) (ss : List Spot) (hi : ℕ) → e' ≤ e → Lined step e ss hi → Lined step e' ss hi
lined_lower step e e' [] hi g h = omega arith
lined_lower step e e' (s ∷ ss) hi g h = (omega (arith, h.0), h.1)

lined_le : (step e : ℕ) (ss : List Spot) (hi : ℕ) → Lined step e ss hi → e ≤ hi
lined_le step e [] hi h = h
lined_le step e (s ∷ ss) hi h = omega (arith, h.0, lined_le step (s.cell + cells step s.class) ss hi h.1)

pub lined_append : (step e m hi : ℕ) (ss ts : List Spot) → Lined step e ss m → Lined step m ts hi → Lined step e (ss ++ ts) hi
lined_append step e m hi [] ts h k = lined_lower step m e ts hi h k
lined_append step e m hi (s ∷ ss) ts h k = (h.0, lined_append step (s.cell + cells step s.class) m hi ss ts h.1 k)

pub row_lined : (step c p q : ℕ) (xs : List Block) → p + length xs * cells step c ≤ q → Lined step p (row step c p xs) q
unfolding row
row_lined step c p q [] g = omega arith
row_lined step c p q (x ∷ xs) g = (omega arith, row_lined step c (p + cells step c) q xs (omega arith))

pub spots_lined : (step n c e : ℕ) (zs : List Zone) → Fit step n c e zs → Lined step e (spots step c zs) n
unfolding spots
spots_lined step n c e [] h = h
spots_lined step n c e (empty ∷ zs) h = spots_lined step n (suc c) e zs h
spots_lined step n c e (from f x xs ∷ zs) h =
    let g : ℕ = f + suc (length xs) * cells step c in
    lined_lower step f e (row step c f (x ∷ xs) ++ spots step (suc c) zs) n h.0.after
    (lined_append step f g n (row step c f (x ∷ xs)) (spots step (suc c) zs) (row_lined step c f g (x ∷ xs) (omega arith)) (spots_lined step n (suc c) g zs h.1))

pub below_lined : (step n c e : ℕ) (ls hs : List Zone) → Fit step n c e (ls ++ hs) → Lined step e (spots step c ls) (end_after step c e ls)
unfolding spots end_after end_of
below_lined step n c e [] hs h = omega arith
below_lined step n c e (empty ∷ ls) hs h = below_lined step n (suc c) e ls hs h
below_lined step n c e (from f x xs ∷ ls) hs h =
    let g : ℕ = f + suc (length xs) * cells step c in
    lined_lower step f e (row step c f (x ∷ xs) ++ spots step (suc c) ls) (end_after step (suc c) g ls) h.0.after
    (lined_append step f g (end_after step (suc c) g ls) (row step c f (x ∷ xs)) (spots step (suc c) ls) (row_lined step c f g (x ∷ xs) (omega arith)) (below_lined step n (suc c) g ls hs h.1))

-- at or behind lo, and ending at or before hi
record Between (step lo hi : ℕ) (s : Spot) : Type 0 where
  low : lo ≤ s.cell
  high : s.cell + cells step s.class ≤ hi

lined_between : (step e : ℕ) (ss : List Spot) (hi : ℕ) → Lined step e ss hi → All (Between step e hi) ss
lined_between step e [] hi h = none
lined_between step e (s ∷ ss) hi h =
    let g : ℕ = s.cell + cells step s.class in
    more {x = s} (record { low = h.0; high = lined_le step g ss hi h.1 })
    (all_map {P = Between step g hi} {Q = Between step e hi} (λ t w. record { low = omega (arith, h.0); high = w.high }) (lined_between step g ss hi h.1))

lined_apart : (step e : ℕ) (ss : List Spot) (hi : ℕ) → Lined step e ss hi → Pairs (Apart step) ss
lined_apart step e [] hi h = single
lined_apart step e (s ∷ ss) hi h =
    let g : ℕ = s.cell + cells step s.class in
    after (all_map {P = Between step g hi} {Q = Apart step s} (λ t w. inl w.low) (lined_between step g ss hi h.1)) (lined_apart step g ss hi h.1)

lined_good : (step n : ℕ) (ss : List Spot) → All (SitsAt step) ss → All (Between step 0 n) ss → All (Good step n) ss
unfolding cells
lined_good step n [] h k = none
lined_good step n (s ∷ ss) h k = more {x = s} (record { room = omega (arith, (all_head h).room); inside = (all_head k).high }) (lined_good step n ss (all_tail h) (all_tail k))

pub kept_lined : (step R : ℕ) (ss : List Spot) → All (SitsAt step) ss → Lined step 0 ss (8 * R) → Pairs Other (map spot_block ss) → length ss ≤ 256 → Kept step R ss
kept_lined step R ss s l d f = record { sit = s; good = lined_good step (8 * R) ss s (lined_between step 0 ss (8 * R) l); apart = lined_apart step 0 ss (8 * R) l; distinct = d; few = f }
