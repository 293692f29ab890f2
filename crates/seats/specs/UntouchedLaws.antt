-- What a move of a block leaves: the tags of the dictionary, and the headers of the blocks before both its cells.
use Rattle.std.specs.Prelude.{◌≡◌, refl, List, ◌++◌, ℕ, zero, suc, ◌+◌, ◌*◌, ◌≤◌, ◌<◌, length, replicate}
use Rattle.std.proofs.Common.{ap₂, ◌∙◌, inl, inr, arith, length-append}
use Rattle.wire.specs.Bytes.{part, over, get16, get32, bytes16}
use Rattle.wire.specs.BytesLaws.{length_over, length-bytes16, get16_else, get32_else}
use Rattle.wire.specs.Cases.{by_lt}
use Rattle.layout.specs.Capacities.{cells}
use Rattle.home.specs.Bytes.{cell_at, zone_entry_at, tag_at}
use Rattle.home.specs.Lookup.{Ordered, rank_at, index_of}
use Rattle.moves.specs.Moves.{word_at, Movable, carried, celled, moved, zoned}
use Rattle.seats.specs.Seat.{first_with, displaced}

pub rank_same : (h h' : List ℕ) (t i n : ℕ) → ((j : ℕ) → j < i + n → tag_at h' j ≡ tag_at h j) → rank_at h' t i n ≡ rank_at h t i n
unfolding rank_at
rank_same h h' t i zero s = refl
rank_same h h' t i (suc n) s = rw (s i (omega arith), rank_same h h' t (suc i) n (λ j g. s j (omega arith)))

-- ---- bytes that a move leaves

-- tag count and tags, and the headers of the blocks below cell lo
pub record Untouched (lo : ℕ) (h h' : List ℕ) : Type 0 where
  pub long : length h' ≡ length h
  pub count : get16 h' 0 ≡ get16 h 0
  pub tags : (i : ℕ) → i < 256 → tag_at h' i ≡ tag_at h i
  pub heads : (p : ℕ) → p < lo → get32 h' (cell_at p) ≡ get32 h (cell_at p)

pub untouched_same : (lo : ℕ) (h : List ℕ) → Untouched lo h h
untouched_same lo h = record { long = refl; count = refl; tags = λ i g. refl; heads = λ p g. refl }

pub untouched_both : (lo lo' : ℕ) (h h' h'' : List ℕ) → lo ≤ lo' → Untouched lo' h h' → Untouched lo h' h'' → Untouched lo h h''
untouched_both lo lo' h h' h'' g a b = record {
  long = b.long ∙ a.long;
  count = b.count ∙ a.count;
  tags = λ i k. b.tags i k ∙ a.tags i k;
  heads = λ p k. b.heads p k ∙ a.heads p (omega arith);
}

pub untouched_ordered : (lo : ℕ) (h h' : List ℕ) → Untouched lo h h' → Ordered h → Ordered h'
untouched_ordered lo h h' u o =
    let few : get16 h 0 ≤ 256 = o.few in
    record {
      few = omega (arith, u.count);
      long = omega (arith, u.long, o.long);
      rise = λ i j a b. omega (arith, u.count, u.tags i (omega (arith, u.count)), u.tags j (omega (arith, u.count)), o.rise i j a (omega (arith, u.count)));
    }

pub untouched_movable : (lo : ℕ) (h h' : List ℕ) (p : ℕ) → Untouched lo h h' → p < lo → Movable h p → Movable h' p
untouched_movable lo h h' p u g m =
    let few : get16 h 0 ≤ 256 = m.ordered.few in
    let i : index_of h' (get32 h' (cell_at p)) ≡ index_of h (get32 h (cell_at p)) =
    ap₂ (λ (t n : ℕ). rank_at h' t 0 n) (u.heads p g) u.count ∙ rank_same h h' (get32 h (cell_at p)) 0 (get16 h 0) (λ j k. u.tags j (omega arith)) in
    record { ordered = untouched_ordered lo h h' u m.ordered; found = omega (arith, i, u.count, m.found) }

-- bytes of the area from cell lo on
pub untouched_area : (lo : ℕ) (h : List ℕ) (q : ℕ) (v : List ℕ) → lo ≤ q → Untouched lo h (over h (cell_at q) v)
untouched_area lo h q v g = record {
  long = length_over h (cell_at q) v;
  count = get16_else h (cell_at q) v 0 (inr (omega arith));
  tags = λ i k. get32_else h (cell_at q) v (128 + 6 * i) (inr (omega arith));
  heads = λ p k. get32_else h (cell_at q) v (cell_at p) (inr (omega arith));
}

-- the cell of an entry
untouched_cell : (lo : ℕ) (h : List ℕ) (j q : ℕ) → j < 256 → Untouched lo h (celled h j q)
unfolding celled
untouched_cell lo h j q g =
    let n : length (bytes16 q) ≡ 2 = length-bytes16 q in
    record {
      long = length_over h (word_at j + 4) (bytes16 q);
      count = get16_else h (word_at j + 4) (bytes16 q) 0 (inr (omega arith));
      tags = λ i k. by_lt j i (λ a. get32_else h (word_at j + 4) (bytes16 q) (128 + 6 * i) (inl (omega arith))) (λ a. get32_else h (word_at j + 4) (bytes16 q) (128 + 6 * i) (inr (omega arith)));
      heads = λ p k. get32_else h (word_at j + 4) (bytes16 q) (cell_at p) (inl (omega arith));
    }

-- a zone's entry
untouched_zone : (lo : ℕ) (h : List ℕ) (c f n : ℕ) → c < 30 → Untouched lo h (zoned h c f n)
unfolding zoned
untouched_zone lo h c f n g =
    let v : List ℕ = bytes16 f ++ bytes16 n in
    let lv : length v ≡ 4 = length-append (bytes16 f) (bytes16 n) ∙ omega (arith, length-bytes16 f, length-bytes16 n) in
    record {
      long = length_over h (zone_entry_at c) v;
      count = get16_else h (zone_entry_at c) v 0 (inr (omega arith));
      tags = λ i k. get32_else h (zone_entry_at c) v (128 + 6 * i) (inl (omega arith));
      heads = λ p k. get32_else h (zone_entry_at c) v (cell_at p) (inl (omega arith));
    }

untouched_moved : (step lo : ℕ) (h : List ℕ) (c p q : ℕ) → Movable h p → lo ≤ p → lo ≤ q → Untouched lo h (moved step h c p q)
unfolding moved carried
untouched_moved step lo h c p q m a b =
    let z : List ℕ = over h (cell_at p) (replicate (8 * cells step c) 0) in
    let l : List ℕ = over z (cell_at q) (part h (cell_at p) (8 * cells step c)) in
    untouched_both lo lo h l (celled l (index_of h (get32 h (cell_at p))) q) (omega arith)
    (untouched_both lo lo h z l (omega arith) (untouched_area lo h p (replicate (8 * cells step c) 0) a) (untouched_area lo z q (part h (cell_at p) (8 * cells step c)) b))
    (untouched_cell lo l (index_of h (get32 h (cell_at p))) q (omega (arith, m.found, m.ordered.few)))

pub untouched_displaced : (step lo : ℕ) (h : List ℕ) (c f n q : ℕ) → c < 30 → Movable h f → lo ≤ f → lo ≤ q → Untouched lo h (displaced step h c f n q)
unfolding displaced
untouched_displaced step lo h c f n q g m a b =
    untouched_both lo lo h (moved step h c f q) (displaced step h c f n q) (omega arith) (untouched_moved step lo h c f q m a b)
    (untouched_zone lo (moved step h c f q) c (first_with n (f + cells step c) q) (n + 1) g)

pub length-displaced : (step : ℕ) (h : List ℕ) (c f n q : ℕ) → length (displaced step h c f n q) ≡ length h
unfolding displaced moved carried celled zoned
length-displaced step h c f n q =
    let z : List ℕ = over h (cell_at f) (replicate (8 * cells step c) 0) in
    let l : List ℕ = over z (cell_at q) (part h (cell_at f) (8 * cells step c)) in
    let i : ℕ = word_at (index_of h (get32 h (cell_at f))) + 4 in
    length_over (over l i (bytes16 q)) (zone_entry_at c) (bytes16 (first_with n (f + cells step c) q) ++ bytes16 (n + 1)) ∙ length_over l i (bytes16 q)
    ∙ length_over z (cell_at q) (part h (cell_at f) (8 * cells step c)) ∙ length_over h (cell_at f) (replicate (8 * cells step c) 0)
