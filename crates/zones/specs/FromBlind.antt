-- Placing from a class up "does and answers the same whatever the zone entries of lower classes hold".
use Rattle.std.specs.Prelude.{◌≡◌, refl, ◌⊎◌, length, get_or}
use Rattle.std.proofs.Common.{sym, ◌∙◌, subst, inl, inr, arith, ext_get_or}
use Rattle.std.proofs.Math.Path.{ap, ap₂}
use Rattle.std.proofs.Math.Option.{Option, none, some, map}
use mathlib.Core.List.{List, ◌++◌}
use Prim.Native.Nat.{ℕ, ◌+◌, ◌*◌, ◌-◌, ◌/◌, ◌≤◌, ◌<◌}
use Rattle.wire.specs.Bytes.{part, over, get16, bytes16, bytes32}
use Rattle.wire.specs.BytesLaws.{length_over, over-low, over_high, length_part, part_at, part-over, length-bytes16, over-at, over_comm}
use Rattle.wire.specs.Cases.{by_within}
use Rattle.layout.specs.Capacities.{cells, class_of}
use Rattle.layout.specs.Cases.{Holds, holds_under, map_swap}
use Rattle.home.specs.Bytes.{cell_at, zone_entry_at, first_at, many_at, end_at}
use Rattle.home.specs.Lookup.{index_of}
use Rattle.moves.specs.Moves.{word_at, counted, entered, zoned}
use Rattle.seats.specs.Seat.{cell_for, first_with, end_from, raised, seated}
use Rattle.seats.specs.UntouchedLaws.{Untouched, untouched_ordered}
use Rattle.seats.specs.StackLaws.{raised_long}
use Rattle.seats.specs.MaskLaws.{masked, mask_over, mask_count, mask_part, mask_index, mask_zoned, mask_first, mask_many, mask_end, mask_untouched, mask_stacked, mask_ends, mask_raised}
use Rattle.zones.specs.Place.{whole_block, with_block, placed_from, From}

-- ---- other bytes in the entries below c

module _ (step : ℕ) (low : List ℕ) (c : ℕ) (long : length low ≡ 4 * c) (under : c ≤ 30) where
  mask_entered : (h : List ℕ) (t p : ℕ) → entered (masked low h) t p ≡ masked low (entered h t p)
  unfolding entered counted
  mask_entered h t p =
      let n : ℕ = get16 h 0 in
      let i : ℕ = index_of h t in
      let v : List ℕ = part h (word_at i) (6 * (n - i)) in
      let w : List ℕ = bytes32 t ++ bytes16 p in
      let F : ℕ → ℕ → List ℕ → List ℕ = λ (m j : ℕ) (x : List ℕ). over (over (over (masked low h) (word_at j + 6) x) (word_at j) w) 0 (bytes16 (m + 1)) in
      let a : part (masked low h) (word_at i) (6 * (n - i)) ≡ v = mask_part low c long under h (word_at i) (6 * (n - i)) (omega arith) in
      ap₂ (λ (m j : ℕ). F m j (part (masked low h) (word_at j) (6 * (m - j)))) (mask_count low c long under h) (mask_index low c long under h t)
      ∙ ap (F n i) a
      ∙ ap (λ (x : List ℕ). over (over x (word_at i) w) 0 (bytes16 (n + 1))) (mask_over low c long under h (word_at i + 6) v (omega arith))
      ∙ ap (λ (x : List ℕ). over x 0 (bytes16 (n + 1))) (mask_over low c long under (over h (word_at i + 6) v) (word_at i) w (omega arith))
      ∙ over_comm (over (over h (word_at i + 6) v) (word_at i) w) 0 (bytes16 (n + 1)) 2 low (inl (omega (arith, length-bytes16 (n + 1))))

  mask_block : (h : List ℕ) (k p t : ℕ) (bs : List ℕ) → c ≤ k → with_block step (masked low h) k p t bs ≡ masked low (with_block step h k p t bs)
  unfolding with_block
  mask_block h k p t bs g =
      let b : List ℕ = over h (cell_at p) (whole_block step k t bs) in
      let F : ℕ → ℕ → List ℕ → List ℕ = λ (f n : ℕ) (x : List ℕ). zoned (entered x t p) k (first_with n f p) (n + 1) in
      ap₂ (λ (f n : ℕ). F f n (over (masked low h) (cell_at p) (whole_block step k t bs))) (mask_first low c long under h k g) (mask_many low c long under h k g)
      ∙ ap (F (first_at h k) (many_at h k)) (mask_over low c long under h (cell_at p) (whole_block step k t bs) (omega arith))
      ∙ ap (λ (x : List ℕ). zoned x k (first_with (many_at h k) (first_at h k) p) (many_at h k + 1)) (mask_entered b t p)
      ∙ mask_zoned low c long under (entered b t p) k (first_with (many_at h k) (first_at h k) p) (many_at h k + 1) g

  -- they are not seen, and stay
  from_masked : (h : List ℕ) (e t : ℕ) (bs : List ℕ) → c ≤ class_of step (length bs / 8) → placed_from step (masked low h) c e t bs ≡ map (masked low) (placed_from step h c e t bs)
  unfolding placed_from end_at cell_for
  from_masked h e t bs g =
      let k : ℕ = class_of step (length bs / 8) in
      let end : ℕ = end_from step (k - c) h c e in
      let p : ℕ = end_at step h k end in
      let F : ℕ → Option (List ℕ) = λ (q : ℕ). map (λ (x : List ℕ). with_block step x k q t bs) (raised step (29 - k) (masked low h) (k + 1) (q + cells step k)) in
      ap (λ (d : ℕ). F (end_at step (masked low h) k d)) (mask_ends low c long under step (k - c) h c e (omega arith))
      ∙ ap F (mask_end low c long under h k g step end)
      ∙ ap (map (λ (x : List ℕ). with_block step x k p t bs)) (mask_raised low c long under step (29 - k) h (k + 1) (p + cells step k) (omega arith))
      ∙ map_swap (λ (x : List ℕ). with_block step x k p t bs) (masked low) (raised step (29 - k) h (k + 1) (p + cells step k)) (λ x. mask_block x k p t bs g)

-- ---- two homes

-- of one length, and equal outside the zone entries of classes below c
pub record Alike (c : ℕ) (h h' : List ℕ) : Type 0 where
  pub long : length h' ≡ length h
  pub same : (i : ℕ) → (i < 2) ⊎ (2 + 4 * c ≤ i) → get_or h' i 0 ≡ get_or h i 0

-- these entries
abbrev pub lower : ℕ → List ℕ → List ℕ
lower c h = part h 2 (4 * c)

-- no answer from both, or one from each: alike, and each with its own lower entries
abbrev pub Agree : ℕ → List ℕ → List ℕ → Option (List ℕ) → Option (List ℕ) → Type 0
Agree c h h' none none = Unit {0}
Agree c h h' (some x) (some x') = Alike c x x' × (lower c x ≡ lower c h) × (lower c x' ≡ lower c h')
Agree c h h' none (some x') = ⊥
Agree c h h' (some x) none = ⊥

module _ (c : ℕ) (h : List ℕ) (g : 2 + 4 * c ≤ length h) where
  length-lower : length (lower c h) ≡ 4 * c
  length-lower = length_part h 2 (4 * c) g

  alike_masked : (h' : List ℕ) → Alike c h h' → h' ≡ masked (lower c h') h
  alike_masked h' a =
      let low : List ℕ = lower c h' in
      let n : length low ≡ 4 * c = length_part h' 2 (4 * c) (omega (arith, a.long)) in
      ext_get_or 0 h' (masked low h) (a.long ∙ sym (length_over h 2 low))
      (λ i b. by_within 2 (4 * c) i
      (λ d. a.same i (inl d) ∙ sym (over-low h 2 low i d))
      (λ d d'. sym (over-at h 2 low i d (omega arith) (omega (arith, a.long)) ∙ part_at h' 2 (4 * c) (i - 2) (omega arith) ∙ ap (λ (j : ℕ). get_or h' j 0) (omega arith)))
      (λ d. a.same i (inr d) ∙ sym (over_high h 2 low i (omega arith))))

  masked_alike : (low : List ℕ) → length low ≡ 4 * c → Alike c h (masked low h)
  masked_alike low n = record { long = length_over h 2 low; same = by }
    where
      by : (i : ℕ) → (i < 2) ⊎ (2 + 4 * c ≤ i) → get_or (masked low h) i 0 ≡ get_or h i 0
      by i (inl d) = over-low h 2 low i d
      by i (inr d) = over_high h 2 low i (omega arith)

  masked-lower : (low : List ℕ) → length low ≡ 4 * c → lower c (masked low h) ≡ low
  masked-lower low n = ap (part (masked low h) 2) (sym n) ∙ part-over h 2 low (omega arith)

-- what is asked of one home for placing from class c up holds of the other too
pub from_alike : (step c : ℕ) (h h' : List ℕ) (e : ℕ) (bs : List ℕ) → c ≤ 30 → Alike c h h' → From step h c e bs → From step h' c e bs
from_alike step c h h' e bs u a f =
    let low : List ℕ = lower c h' in
    let n : length low ≡ 4 * c = length-lower c h' (omega (arith, a.long, f.ordered.long)) in
    let t : Untouched 0 h (masked low h) = mask_untouched low c n u 0 h in
    subst (λ (x : List ℕ). From step x c e bs) (sym (alike_masked c h (omega (arith, f.ordered.long)) h' a))
    (record {
      long = omega (arith, t.long, f.long);
      ordered = untouched_ordered 0 h (masked low h) t f.ordered;
      few = omega (arith, t.count, f.few);
      above = mask_stacked low c n u step (30 - c) h c e (omega arith) f.above;
      class = f.class;
      whole = f.whole;
      most = f.most;
    })

length-entered : (h : List ℕ) (t p : ℕ) → length (entered h t p) ≡ length h
unfolding entered counted
length-entered h t p =
    let n : ℕ = get16 h 0 in
    let i : ℕ = index_of h t in
    let v : List ℕ = part h (word_at i) (6 * (n - i)) in
    length_over (over (over h (word_at i + 6) v) (word_at i) (bytes32 t ++ bytes16 p)) 0 (bytes16 (n + 1))
    ∙ length_over (over h (word_at i + 6) v) (word_at i) (bytes32 t ++ bytes16 p) ∙ length_over h (word_at i + 6) v

length_block : (step : ℕ) (h : List ℕ) (k p t : ℕ) (bs : List ℕ) → length (with_block step h k p t bs) ≡ length h
unfolding with_block zoned
length_block step h k p t bs =
    let b : List ℕ = over h (cell_at p) (whole_block step k t bs) in
    length_over (entered b t p) (zone_entry_at k) (bytes16 (first_with (many_at h k) (first_at h k) p) ++ bytes16 (many_at h k + 1)) ∙ length-entered b t p ∙ length_over h (cell_at p) (whole_block step k t bs)

placed_long : (step : ℕ) (h : List ℕ) (c e t : ℕ) (bs : List ℕ) → Holds (λ (x : List ℕ). length x ≡ length h) (placed_from step h c e t bs)
unfolding placed_from
placed_long step h c e t bs =
    let k : ℕ = class_of step (length bs / 8) in
    let end : ℕ = end_from step (k - c) h c e in
    holds_under (λ (x : List ℕ). length x ≡ length h) (λ (x : List ℕ). length x ≡ length h) (λ (x : List ℕ). with_block step x k (end_at step h k end) t bs) (seated step h k (first_at h k) (many_at h k) end)
    (λ x q. length_block step x k (end_at step h k end) t bs ∙ q) (raised_long step h (29 - k) (k + 1) (cell_for end (first_at h k) (many_at h k) (cells step k) + cells step k))

-- "placing from a class up, given that end, does and answers the same whatever the zone entries of lower classes hold"
pub lower_unseen : (step c : ℕ) (h h' : List ℕ) (e t : ℕ) (bs : List ℕ) → c ≤ 30 → c ≤ class_of step (length bs / 8) → 1664 ≤ length h → Alike c h h'
    → Agree c h h' (placed_from step h c e t bs) (placed_from step h' c e t bs)
lower_unseen step c h h' e t bs u g n a =
    let low : List ℕ = lower c h in
    let low' : List ℕ = lower c h' in
    let l : length low ≡ 4 * c = length-lower c h (omega arith) in
    let l' : length low' ≡ 4 * c = length-lower c h' (omega (arith, a.long)) in
    let own : placed_from step h c e t bs ≡ map (masked low) (placed_from step h c e t bs) =
    ap (λ (x : List ℕ). placed_from step x c e t bs) (alike_masked c h (omega arith) h (record { long = refl; same = λ i d. refl })) ∙ from_masked step low c l u h e t bs g in
    let other : placed_from step h' c e t bs ≡ map (masked low') (placed_from step h c e t bs) =
    ap (λ (x : List ℕ). placed_from step x c e t bs) (alike_masked c h (omega arith) h' a) ∙ from_masked step low' c l' u h e t bs g in
    subst (Agree c h h' (placed_from step h c e t bs)) (sym other) (by (placed_from step h c e t bs) own (placed_long step h c e t bs) l l')
  where
    by : (o : Option (List ℕ)) → o ≡ map (masked (lower c h)) o → Holds (λ (x : List ℕ). length x ≡ length h) o → length (lower c h) ≡ 4 * c → length (lower c h') ≡ 4 * c
        → Agree c h h' o (map (masked (lower c h')) o)
    by none q m l l' = tt
    by (some x) q m l l' =
        let i : x ≡ masked (lower c h) x = cc in
        (masked_alike c x (omega arith) (lower c h') l', ap (lower c) i ∙ masked-lower c x (omega arith) (lower c h) l, masked-lower c x (omega arith) (lower c h') l')
