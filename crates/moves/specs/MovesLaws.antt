-- Laws of moved bytes.
use Rattle.std.specs.Prelude.{◌≡◌, List, ℕ, ◌+◌, ◌*◌, ◌-◌, ◌≤◌, ◌<◌, min, length, get_or, replicate}
use Rattle.std.proofs.Common.{sym, ap, ◌∙◌, arith, ext_get_or}
use Rattle.std.proofs.lemmas.List.{length-replicate, get_or-replicate}
use Rattle.wire.specs.Bytes.{part, over, get16, get32, bytes16, bytes32}
use Rattle.wire.specs.BytesLaws.{length_over, over-low, over_high, length_part, length-bytes16, length-bytes32, over-at, over-next}
use Rattle.wire.specs.Cases.{by_lt, by_within}
use Rattle.layout.specs.Capacities.{cells}
use Rattle.home.specs.Bytes.{zone_entry_at, cell_at}
use Rattle.home.specs.Lookup.{index_of}
use Rattle.moves.specs.Moves.{carried, celled, entered, unentered, zoned, moved}

-- ---- a run carried: copied first, then the bytes that it left and does not cover become zero

zero_in : (l : List ℕ) (at n i : ℕ) → at ≤ i → i < at + n → i < length l → get_or (over l at (replicate n 0)) i 0 ≡ 0
zero_in l at n i a b c = over-at l at (replicate n 0) i a (omega (arith, length-replicate {A = ℕ} n 0)) c ∙ get_or-replicate n (i - at) 0 0 (omega arith)

zero-low : (l : List ℕ) (at n i : ℕ) → i < at → get_or (over l at (replicate n 0)) i 0 ≡ get_or l i 0
zero-low l at n i a = over-low l at (replicate n 0) i a

zero_high : (l : List ℕ) (at n i : ℕ) → at + n ≤ i → get_or (over l at (replicate n 0)) i 0 ≡ get_or l i 0
zero_high l at n i a = over_high l at (replicate n 0) i (omega (arith, length-replicate {A = ℕ} n 0))

-- zeros first or last, where the run's new place is not among the k bytes from z on, and these with it hold its old one
module _ (l v : List ℕ) (from to n z k : ℕ) (lv : length v ≡ n) (a : from + n ≤ length l) (b : to + n ≤ length l) (lo : from ≤ z) (hi : z + k ≤ from + n) where
  zeros_last : ((i : ℕ) → to ≤ i → i < to + n → z ≤ i → i < z + k → ⊥)
      → ((i : ℕ) → from ≤ i → i < from + n → (to ≤ i → i < to + n → ⊥) → (z ≤ i) × (i < z + k))
      → over (over l to v) z (replicate k 0) ≡ over (over l from (replicate n 0)) to v
  zeros_last apart all =
      ext_get_or 0 (over (over l to v) z (replicate k 0)) (over (over l from (replicate n 0)) to v)
      (length_over (over l to v) z (replicate k 0) ∙ length_over l to v ∙ sym (length_over (over l from (replicate n 0)) to v ∙ length_over l from (replicate n 0)))
      (λ i g. at i (omega (arith, length_over (over l to v) z (replicate k 0), length_over l to v)))
    where
      outside : (i : ℕ) → i < length l → (to ≤ i → i < to + n → ⊥) → get_or (over l to v) i 0 ≡ get_or l i 0
          → get_or (over (over l from (replicate n 0)) to v) i 0 ≡ get_or (over l from (replicate n 0)) i 0
          → get_or (over (over l to v) z (replicate k 0)) i 0 ≡ get_or (over (over l from (replicate n 0)) to v) i 0
      outside i g o p q =
          by_within from n i
          (λ c. zero-low (over l to v) z k i (omega arith) ∙ p ∙ sym (q ∙ zero-low l from n i c))
          (λ c d. let w = all i c d o in zero_in (over l to v) z k i w.0 w.1 (omega (arith, length_over l to v)) ∙ sym (q ∙ zero_in l from n i c d g))
          (λ c. zero_high (over l to v) z k i (omega arith) ∙ p ∙ sym (q ∙ zero_high l from n i c))

      at : (i : ℕ) → i < length l → get_or (over (over l to v) z (replicate k 0)) i 0 ≡ get_or (over (over l from (replicate n 0)) to v) i 0
      at i g =
          by_within to n i
          (λ c. outside i g (λ d e. omega arith) (over-low l to v i c) (over-low (over l from (replicate n 0)) to v i c))
          (λ c d. by_within z k i
          (λ e. zero-low (over l to v) z k i e ∙ over-at l to v i c (omega arith) g ∙ sym (over-at (over l from (replicate n 0)) to v i c (omega arith) (omega (arith, length_over l from (replicate n 0)))))
          (λ e f. absurd (apart i c d e f))
          (λ e. zero_high (over l to v) z k i e ∙ over-at l to v i c (omega arith) g ∙ sym (over-at (over l from (replicate n 0)) to v i c (omega arith) (omega (arith, length_over l from (replicate n 0))))))
          (λ c. outside i g (λ d e. omega arith) (over_high l to v i (omega arith)) (over_high (over l from (replicate n 0)) to v i (omega arith)))

pub carried-up : (l : List ℕ) (from to n : ℕ) → from < to → to + n ≤ length l
    → over (over l to (part l from n)) from (replicate (min n (to - from)) 0) ≡ carried l from to n
unfolding carried
carried-up l from to n a b =
    zeros_last l (part l from n) from to n from (min n (to - from)) (length_part l from n (omega arith)) (omega arith) b (omega arith) (omega arith)
    (λ i c d e f. omega arith) (λ i c d o. by_lt i to (λ e. (c, omega arith)) (λ e. absurd (o e (omega arith))))

pub carried-down : (l : List ℕ) (from to n : ℕ) → to ≤ from → from + n ≤ length l
    → over (over l to (part l from n)) (from + n - min n (from - to)) (replicate (min n (from - to)) 0) ≡ carried l from to n
unfolding carried
carried-down l from to n a b =
    zeros_last l (part l from n) from to n (from + n - min n (from - to)) (min n (from - to)) (length_part l from n (omega arith)) b (omega arith) (omega arith) (omega arith)
    (λ i c d e f. omega arith) (λ i c d o. by_lt i (to + n) (λ e. absurd (o (omega arith) e)) (λ e. (omega arith, omega arith)))

-- ---- numbers written one after the other

pub zoned_twice : (h : List ℕ) (c f n : ℕ) → over (over h (zone_entry_at c) (bytes16 f)) (zone_entry_at c + 2) (bytes16 n) ≡ zoned h c f n
unfolding zoned
zoned_twice h c f n = over-next h (zone_entry_at c) (zone_entry_at c + 2) (bytes16 f) (bytes16 n) (omega (arith, length-bytes16 f))

-- ---- what the code stores, as the definitions have it

pub entered_is : (h : List ℕ) (t p n i : ℕ) → n ≡ get16 h 0 → i ≡ index_of h t
    → over (over (over (over h (128 + 6 * i + 6) (part h (128 + 6 * i) (6 * (n - i)))) (128 + 6 * i) (bytes32 t)) (128 + 6 * i + 4) (bytes16 p)) 0 (bytes16 (n + 1)) ≡ entered h t p
unfolding entered
entered_is h t p n i a b = rw (a, b) (ap (λ (x : List ℕ). over x 0 (bytes16 (get16 h 0 + 1)))
    (over-next (over h (128 + 6 * index_of h t + 6) (part h (128 + 6 * index_of h t) (6 * (get16 h 0 - index_of h t)))) (128 + 6 * index_of h t) (128 + 6 * index_of h t + 4) (bytes32 t) (bytes16 p) (omega (arith, length-bytes32 t))))

pub unentered_is : (h : List ℕ) (t n i : ℕ) → n ≡ get16 h 0 → i ≡ index_of h t
    → over (over (over h (128 + 6 * i) (part h (128 + 6 * i + 6) (6 * (n - (i + 1))))) (128 + 6 * (n - 1)) (replicate 6 0)) 0 (bytes16 (n - 1)) ≡ unentered h t
unfolding unentered
unentered_is h t n i a b = rw (a, b)

pub moved_is : (step : ℕ) (h : List ℕ) (c p q t i n : ℕ) → t ≡ get32 h (cell_at p) → i ≡ index_of h t → n ≡ cells step c
    → celled (carried h (1664 + 8 * p) (1664 + 8 * q) (8 * n)) i q ≡ moved step h c p q
unfolding moved
moved_is step h c p q t i n a b d = rw (b, a, d)
