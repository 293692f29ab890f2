-- Other bytes in the zone entries below class c: what is read and written from class c up does not see them, and leaves them.
use Rattle.std.specs.Prelude.{◌≡◌, leb, length}
use Rattle.std.proofs.Math.Path.{refl, ap, ap₂}
use Rattle.std.proofs.Common.{sym, ◌∙◌, subst, inl, inr, arith}
use Rattle.std.proofs.Math.Option.{map}
use mathlib.Core.List.{List, ◌++◌}
use Prim.Native.Nat.{ℕ, zero, suc, ◌+◌, ◌*◌, ◌-◌, ◌≤◌}
use Rattle.std.proofs.Math.ListN.{replicate}
use Rattle.wire.specs.Bytes.{part, over, get16, get32, bytes16}
use Rattle.wire.specs.BytesLaws.{length_over, over_comm, part_else, get16_else, get32_else}
use Rattle.wire.specs.Cases.{by_test, by_eq, by_lt}
use Rattle.layout.specs.Capacities.{cells}
use Rattle.layout.specs.Cases.{map_swap}
use Rattle.home.specs.Bytes.{cell_at, zone_entry_at, first_at, many_at, end_at}
use Rattle.home.specs.Lookup.{rank_at, index_of}
use Rattle.moves.specs.Moves.{word_at, Movable, carried, celled, moved, zoned}
use Rattle.seats.specs.Seat.{first_with, end_from, displaced, raised, Stacked}
use Rattle.seats.specs.UntouchedLaws.{Untouched, untouched_movable, rank_same}
use Rattle.seats.specs.StackLaws.{raised_skip, raised_stays, lift, raised_lifts}

-- home's bytes with these in the entries below c
abbrev pub masked : List ℕ → List ℕ → List ℕ
masked low h = over h 2 low

module _ (low : List ℕ) (c : ℕ) (long : length low ≡ 4 * c) (under : c ≤ 30) where
  -- ---- bytes

  pub mask_over : (h : List ℕ) (i : ℕ) (v : List ℕ) → 2 + 4 * c ≤ i → over (masked low h) i v ≡ masked low (over h i v)
  mask_over h i v g = over_comm h i v 2 low (inr (omega arith))

  mask_16 : (h : List ℕ) (j : ℕ) → 2 + 4 * c ≤ j → get16 (masked low h) j ≡ get16 h j
  mask_16 h j g = get16_else h 2 low j (inl (omega arith))

  pub mask_count : (h : List ℕ) → get16 (masked low h) 0 ≡ get16 h 0
  mask_count h = get16_else h 2 low 0 (inr (omega arith))

  mask_32 : (h : List ℕ) (j : ℕ) → 122 ≤ j → get32 (masked low h) j ≡ get32 h j
  mask_32 h j g = get32_else h 2 low j (inl (omega arith))

  pub mask_part : (h : List ℕ) (j m : ℕ) → 122 ≤ j → part (masked low h) j m ≡ part h j m
  mask_part h j m g = part_else h 2 low j m (inl (omega arith))

  pub mask_index : (h : List ℕ) (t : ℕ) → index_of (masked low h) t ≡ index_of h t
  mask_index h t = ap (rank_at (masked low h) t 0) (mask_count h) ∙ rank_same h (masked low h) t 0 (get16 h 0) (λ j g. mask_32 h (128 + 6 * j) (omega arith))

  -- ---- moves

  mask_moved : (step : ℕ) (h : List ℕ) (d p q : ℕ) → moved step (masked low h) d p q ≡ masked low (moved step h d p q)
  unfolding moved carried celled
  mask_moved step h d p q =
      let n : ℕ = 8 * cells step d in
      let z : List ℕ = replicate n 0 in
      let i : ℕ = index_of h (get32 h (cell_at p)) in
      let k : index_of (masked low h) (get32 (masked low h) (cell_at p)) ≡ i = ap (index_of (masked low h)) (mask_32 h (cell_at p) (omega arith)) ∙ mask_index h (get32 h (cell_at p)) in
      ap₂ (λ (j : ℕ) (v : List ℕ). over (over (over (masked low h) (cell_at p) z) (cell_at q) v) (word_at j + 4) (bytes16 q)) k (mask_part h (cell_at p) n (omega arith))
      ∙ ap (λ (x : List ℕ). over (over x (cell_at q) (part h (cell_at p) n)) (word_at i + 4) (bytes16 q)) (mask_over h (cell_at p) z (omega arith))
      ∙ ap (λ (x : List ℕ). over x (word_at i + 4) (bytes16 q)) (mask_over (over h (cell_at p) z) (cell_at q) (part h (cell_at p) n) (omega arith))
      ∙ mask_over (over (over h (cell_at p) z) (cell_at q) (part h (cell_at p) n)) (word_at i + 4) (bytes16 q) (omega arith)

  pub mask_zoned : (h : List ℕ) (d f n : ℕ) → c ≤ d → zoned (masked low h) d f n ≡ masked low (zoned h d f n)
  unfolding zoned
  mask_zoned h d f n g = mask_over h (zone_entry_at d) (bytes16 f ++ bytes16 n) (omega arith)

  mask_displaced : (step : ℕ) (h : List ℕ) (d f n q : ℕ) → c ≤ d → displaced step (masked low h) d f n q ≡ masked low (displaced step h d f n q)
  unfolding displaced
  mask_displaced step h d f n q g =
      ap (λ (x : List ℕ). zoned x d (first_with n (f + cells step d) q) (n + 1)) (mask_moved step h d f q) ∙ mask_zoned (moved step h d f q) d (first_with n (f + cells step d) q) (n + 1) g

  -- ---- zones from class d up

  module _ (h : List ℕ) (d : ℕ) (g : c ≤ d) where
    pub mask_first : first_at (masked low h) d ≡ first_at h d
    mask_first = mask_16 h (zone_entry_at d) (omega arith)

    pub mask_many : many_at (masked low h) d ≡ many_at h d
    mask_many = mask_16 h (zone_entry_at d + 2) (omega arith)

    pub mask_end : (step e : ℕ) → end_at step (masked low h) d e ≡ end_at step h d e
    unfolding end_at
    mask_end step e = rw (mask_first, mask_many)

  -- what is asked of them
  pub mask_untouched : (lo : ℕ) (h : List ℕ) → Untouched lo h (masked low h)
  mask_untouched lo h = record { long = length_over h 2 low; count = mask_count h; tags = λ i g. mask_32 h (128 + 6 * i) (omega arith); heads = λ p g. mask_32 h (cell_at p) (omega arith) }

  pub mask_stacked : (step m : ℕ) (h : List ℕ) (d e : ℕ) → c ≤ d → Stacked step m h d e → Stacked step m (masked low h) d e
  mask_stacked step zero h d e g s = omega (arith, s, length_over h 2 low)
  mask_stacked step (suc m) h d e g s = (
    λ z. let a = s.0 (λ y. z (mask_many h d g ∙ y)) in (
      omega (arith, a.0, mask_first h d g),
      subst (Movable (masked low h)) (sym (mask_first h d g)) (untouched_movable (suc (first_at h d)) h (masked low h) (first_at h d) (mask_untouched (suc (first_at h d)) h) (omega arith) a.1),
    ),
    subst (Stacked step m (masked low h) (suc d)) (sym (mask_end h d g step e)) (mask_stacked step m h (suc d) (end_at step h d e) (omega arith) s.1),
  )

  -- ends
  pub mask_ends : (step m : ℕ) (h : List ℕ) (d e : ℕ) → c ≤ d → end_from step m (masked low h) d e ≡ end_from step m h d e
  unfolding end_from
  mask_ends step zero h d e g = refl
  mask_ends step (suc m) h d e g = ap (end_from step m (masked low h) (suc d)) (mask_end h d g step e) ∙ mask_ends step m h (suc d) (end_at step h d e) (omega arith)

  -- room made
  pub mask_raised : (step m : ℕ) (h : List ℕ) (d e : ℕ) → c ≤ d → raised step m (masked low h) d e ≡ map (masked low) (raised step m h d e)
  unfolding raised
  mask_raised step zero h d e g =
      by_test (leb (cell_at e) (length h))
      (λ t. rw (length_over h 2 low, t))
      (λ t. rw (length_over h 2 low, t))
  mask_raised step (suc m) h d e g =
      by_eq (many_at h d) 0
      (λ z. raised_skip step (masked low h) d e m (mask_many h d g ∙ z) ∙ mask_raised step m h (suc d) e (omega arith) ∙ ap (map (masked low)) (sym (raised_skip step h d e m z)))
      (λ z. by_lt (first_at h d) e
      (λ a. raised_lifts step (masked low h) d e m (λ y. z (sym (mask_many h d g) ∙ y)) (omega (arith, mask_first h d g))
      ∙ rw (mask_many h d g, mask_first h d g) (ap (map (λ (x : List ℕ). displaced step x d (first_at h d) (many_at h d - 1) (lift step h d e))) (mask_raised step m h (suc d) (lift step h d e + cells step d) (omega arith))
      ∙ map_swap (λ (x : List ℕ). displaced step x d (first_at h d) (many_at h d - 1) (lift step h d e)) (masked low) (raised step m h (suc d) (lift step h d e + cells step d)) (λ x. mask_displaced step x d (first_at h d) (many_at h d - 1) (lift step h d e) g))
      ∙ ap (map (masked low)) (sym (raised_lifts step h d e m z a)))
      (λ a. raised_stays step (masked low h) d e m (λ y. z (sym (mask_many h d g) ∙ y)) (omega (arith, mask_first h d g)) ∙ ap (map (masked low)) (sym (raised_stays step h d e m z a))))
