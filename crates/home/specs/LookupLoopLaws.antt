-- One turn of the search in the dictionary, and what it finds.
use Rattle.std.specs.Prelude.{◌≡◌, Bool, true, false, ◌≢◌, List, ltb, eqb, Ok, Err}
use Rattle.std.proofs.Math.Path.{refl, ap}
use Rattle.std.proofs.Common.{sym, ◌∙◌}
use Prim.Native.Nat.{ℕ, zero, suc, ◌+◌, ◌≤◌, ◌<◌}
use native.Mathlib.Omega.{arith}
use borrow.Author.Tests.{ltb-true, ltb-false, lt-ltb, eqb-false, ne_eqb}
use Rattle.wire.specs.Bytes.{get16}
use Rattle.wire.specs.Cases.{by_test, by_lt, by_eq, never}
use Rattle.layout.specs.Cases.{by_pick}
use Rattle.home.specs.Bytes.{tag_at}
use Rattle.home.specs.Sound.{sound}
use Rattle.home.specs.LookupLaws.{entries_rise, entries_few}
use Rattle.home.specs.Lookup.{Ordered, has_entry, rank_at, slot_of}

-- a sound home's dictionary
pub sound_ordered : (h : List ℕ) → sound h ≡ true → Ordered h
sound_ordered h s = let f = entries_few h s in record { few = f.0; long = omega (arith, f.1); rise = λ i j a b. entries_rise h i j s a b }

-- ---- ranks

module _ (h : List ℕ) (t : ℕ) where
  pub rank_most : (i n : ℕ) → rank_at h t i n ≤ n
  unfolding rank_at
  rank_most i zero = omega arith
  rank_most i (suc n) = by_pick (λ (r : ℕ). r ≤ suc n) (ltb (tag_at h i) t) (λ q. omega (arith, rank_most (suc i) n)) (λ q. omega arith)

  -- entries before the rank have lower tags
  rank-low : (i n j : ℕ) → i ≤ j → j < i + rank_at h t i n → tag_at h j < t
  unfolding rank_at
  rank-low i zero j a b = absurd (omega arith)
  rank-low i (suc n) j a b =
      by_pick (λ (r : ℕ). j < i + r → tag_at h j < t) (ltb (tag_at h i) t)
      (λ q b'. by_eq j i (λ e. rw e (ltb-true (tag_at h i) t q)) (λ d. rank-low (suc i) n j (omega arith) (omega arith)))
      (λ q b'. absurd (omega arith)) b

  -- the one at the rank has none
  rank_high : (i n : ℕ) → rank_at h t i n < n → t ≤ tag_at h (i + rank_at h t i n)
  unfolding rank_at
  rank_high i zero a = absurd (omega arith)
  rank_high i (suc n) a =
      by_pick (λ (r : ℕ). r < suc n → t ≤ tag_at h (i + r)) (ltb (tag_at h i) t)
      (λ q b. let e : i + suc (rank_at h t (suc i) n) ≡ suc i + rank_at h t (suc i) n = omega arith in rw e (rank_high (suc i) n (omega arith)))
      (λ q b. let e : i + 0 ≡ i = omega arith in rw e (ltb-false (tag_at h i) t q)) a

  rank-over : (i n m : ℕ) → i ≤ m → m < i + n → ((j : ℕ) → i ≤ j → j ≤ m → tag_at h j < t) → m < i + rank_at h t i n
  unfolding rank_at
  rank-over i zero m a b f = absurd (omega arith)
  rank-over i (suc n) m a b f =
      rw (lt-ltb (tag_at h i) t (f i (omega arith) a))
      (by_eq m i (λ e. omega arith) (λ d. omega (arith, rank-over (suc i) n m (omega arith) (omega arith) (λ j x y. f j (omega arith) y))))

  rank-under : (i n m : ℕ) → i ≤ m → m < i + n → t ≤ tag_at h m → i + rank_at h t i n ≤ m
  unfolding rank_at
  rank-under i zero m a b g = absurd (omega arith)
  rank-under i (suc n) m a b g =
      by_pick (λ (r : ℕ). i + r ≤ m) (ltb (tag_at h i) t)
      (λ q. by_eq m i
      (λ e. absurd (omega (arith, ltb-true (tag_at h i) t q, ap (tag_at h) e)))
      (λ d. omega (arith, rank-under (suc i) n m (omega arith) (omega arith) g)))
      (λ q. omega arith)

  has_entry-at : (i n j : ℕ) → i ≤ j → j < i + n → tag_at h j ≡ t → has_entry h t i n ≡ true
  unfolding has_entry
  has_entry-at i zero j a b e = absurd (omega arith)
  has_entry-at i (suc n) j a b e =
      by_test (eqb (tag_at h i) t)
      (λ q. rw q)
      (λ q. rw q (has_entry-at (suc i) n j (by_eq j i (λ d. absurd (eqb-false (tag_at h i) t q (ap (tag_at h) (sym d) ∙ e))) (λ d. omega arith)) (omega arith) e))

  has_entry-none : (i n : ℕ) → ((j : ℕ) → i ≤ j → j < i + n → tag_at h j ≡ t → ⊥) → has_entry h t i n ≡ false
  unfolding has_entry
  has_entry-none i zero f = refl
  has_entry-none i (suc n) f =
      rw (ne_eqb (tag_at h i) t (f i (omega arith) (omega arith)))
      (has_entry-none (suc i) n (λ j a b. f j (omega arith) (omega arith)))

  has_entry-not : (i n : ℕ) → has_entry h t i n ≡ false → (j : ℕ) → i ≤ j → j < i + n → tag_at h j ≡ t → ⊥
  has_entry-not i n e j a b q = let z : ◌≡◌ {A = Bool} false true = sym e ∙ has_entry-at i n j a b q in never z

-- ---- the search

module _ (h : List ℕ) (t : ℕ) where
  pub find_most : rank_at h t 0 (get16 h 0) ≤ get16 h 0
  find_most = rank_most h t 0 (get16 h 0)

  pub find-up : Ordered h → (m : ℕ) → m < get16 h 0 → tag_at h m < t → m < rank_at h t 0 (get16 h 0)
  find-up o m a b =
      omega (
        arith,
        rank-over h t 0 (get16 h 0) m (omega arith) (omega arith)
            (λ j x y. by_eq j m (λ e. rw e b) (λ d. omega (arith, o.rise j m (omega arith) a))),
      )

  pub find-down : (m : ℕ) → m < get16 h 0 → t ≤ tag_at h m → rank_at h t 0 (get16 h 0) ≤ m
  find-down m a b = omega (arith, rank-under h t 0 (get16 h 0) m (omega arith) (omega arith) b)

  pub find_end : (i : ℕ) → rank_at h t 0 (get16 h 0) ≡ i → i ≡ get16 h 0 → Err i ≡ slot_of h t
  unfolding slot_of
  find_end i r e =
      rw (has_entry-none h t 0 (get16 h 0) (λ j a b q. omega (arith, rank-low h t 0 (get16 h 0) j a (omega arith))), r)

  pub find_at : (i : ℕ) → rank_at h t 0 (get16 h 0) ≡ i → i < get16 h 0 → tag_at h i ≡ t → Ok i ≡ slot_of h t
  unfolding slot_of
  find_at i r a e = rw (has_entry-at h t 0 (get16 h 0) i (omega arith) (omega arith) e, r)

  pub find_absent : Ordered h → (i : ℕ) → rank_at h t 0 (get16 h 0) ≡ i → i < get16 h 0 → (tag_at h i ≡ t → ⊥) → Err i ≡ slot_of h t
  unfolding slot_of
  find_absent o i r a d =
      let e : 0 + rank_at h t 0 (get16 h 0) ≡ i = omega arith in
      let g : t ≤ tag_at h i = rw e at (rank_high h t 0 (get16 h 0) (omega arith)) in
      rw (
        has_entry-none h t 0 (get16 h 0) (λ j x y q.
            by_lt j i
            (λ l. omega (arith, rank-low h t 0 (get16 h 0) j x (omega arith)))
            (λ l. by_eq j i (λ f. d (ap (tag_at h) (sym f) ∙ q)) (λ f. let u = o.rise i j (omega arith) (omega arith) in d (omega arith)))),
        r,
      )

-- ---- what it finds

clash : {G : Type 0} (i j : ℕ) → Err i ≡ Ok j → G
clash i j e = cc

-- an entry with the tag
pub slot_at : (h : List ℕ) (t i : ℕ) → Ordered h → slot_of h t ≡ Ok i → (i < get16 h 0) × (tag_at h i ≡ t)
slot_at h t i o e =
    let r : ℕ = rank_at h t 0 (get16 h 0) in
    by_lt r (get16 h 0)
    (λ a. by_eq (tag_at h r) t
    (λ q. let f : Ok r ≡ Ok i = find_at h t r refl a q ∙ e in let g : i ≡ r = cc in rw g (a, q))
    (λ d. let f : Err r ≡ Ok i = find_absent h t o r refl a d ∙ e in cc))
    (λ a. let f : Err r ≡ Ok i = find_end h t r refl (omega (arith, find_most h t)) ∙ e in cc)

-- or none
pub slot_absent : (h : List ℕ) (t i : ℕ) → slot_of h t ≡ Err i → (j : ℕ) → j < get16 h 0 → t ≢ tag_at h j
unfolding slot_of
slot_absent h t i e j a q =
    by_test (has_entry h t 0 (get16 h 0))
    (λ u. let f : Ok (rank_at h t 0 (get16 h 0)) ≡ Err i = rw u at e in cc)
    (λ u. has_entry-not h t 0 (get16 h 0) u j (omega arith) (omega arith) (sym q))
