-- A block's cell, and the two walks along the classes: the end carried along, and the next nonempty zone.
use Rattle.std.specs.Prelude.{◌≡◌, ◌≢◌, List, Some, None, MatchOption}
use Rattle.std.specs.declared.option.Option.{Option}
use Rattle.std.proofs.Math.Path.{sym, ap, subst}
use Rattle.std.proofs.Common.{◌∙◌, eq-eqb, ne_eqb}
use Prim.Native.Nat.{ℕ, zero, suc, ◌+◌, ◌*◌, ◌-◌, ◌≤◌, ◌<◌}
use native.Mathlib.Omega.{arith}
use Rattle.std.proofs.Math.Numerals.{add-one}
use Rattle.wire.specs.Cases.{by_eq}
use Rattle.home.specs.Bytes.{many_at, end_at}
use Rattle.seats.specs.Seat.{cell_for, first_with, end_from, next_zone}

-- ---- a block's cell

pub cell_none : (e f n k : ℕ) → n ≡ 0 → cell_for e f n k ≡ e
unfolding cell_for
cell_none e f n k z = rw (eq-eqb n 0 z)

pub cell_some : (e f n k : ℕ) → n ≢ 0 → cell_for e f n k ≡ f + n * k
unfolding cell_for
cell_some e f n k z = rw (ne_eqb n 0 z)

pub first-none : (n f p : ℕ) → n ≡ 0 → first_with n f p ≡ p
unfolding first_with
first-none n f p z = rw (eq-eqb n 0 z)

pub first_some : (n f p : ℕ) → n ≢ 0 → first_with n f p ≡ f
unfolding first_with
first_some n f p z = rw (ne_eqb n 0 z)

-- ---- the classes are passed one by one

-- the end carried on from class d is the one carried on from class c
pub record Passing (step : ℕ) (h : List ℕ) (c e k d end : ℕ) : Type 0 where
  pub class : d ≤ k
  pub same : end_from step (k - d) h d end ≡ end_from step (k - c) h c e

pub pass_next : (step : ℕ) (h : List ℕ) (c e k d end end' : ℕ) → Passing step h c e k d end → d < k → end' ≡ end_at step h d end → Passing step h c e k (d + 1) end'
unfolding end_from
pass_next step h c e k d end end' p g q =
    let s : suc (k - suc d) ≡ k - d = omega arith in
    record { class = omega arith; same = rw (add-one, q) (ap (λ (m : ℕ). end_from step m h d end) s ∙ p.same) }

pub pass_done : (step : ℕ) (h : List ℕ) (c e k d end : ℕ) → Passing step h c e k d end → k ≤ d → end ≡ end_from step (k - c) h c e
unfolding end_from
pass_done step h c e k d end p g = let s : k - d ≡ 0 = omega (arith, p.class) in ap (λ (m : ℕ). end_from step m h d end) (sym s) ∙ p.same

-- ---- the next nonempty zone

-- it is the first that counts, or the class behind them
next_first : (h : List ℕ) (d m c : ℕ) → c ≤ d → d ≤ m + c → ((k : ℕ) → c ≤ k → k < d → many_at h k ≡ 0) → (d < m + c → many_at h d ≢ 0) → d ≡ next_zone m h c
unfolding next_zone
next_first h d zero c lo hi below here = omega arith
next_first h d (suc m) c lo hi below here =
    by_eq (many_at h c) 0
    (λ z. rw (eq-eqb (many_at h c) 0 z) (by_eq c d
    (λ e. absurd (here (omega arith) (subst (λ (k : ℕ). many_at h k ≡ 0) e z)))
    (λ n. next_first h d m (suc c) (omega arith) (omega arith) (λ k a b. below k (omega arith) b) (λ b. here (omega arith)))))
    (λ n. rw (ne_eqb (many_at h c) 0 n) (by_eq c d sym (λ q. absurd (n (below c (omega arith) (omega arith))))))

pub next_found : (h : List ℕ) (c : ℕ) → c ≤ 30 → (r : Option ℕ)
    → MatchOption r ((k : ℕ) → c ≤ k → k < 30 → many_at h k ≡ 0) (λ d. (c ≤ d) × (d < 30) × (many_at h d ≢ 0) × ((k : ℕ) → c ≤ k → k < d → many_at h k ≡ 0))
    → MatchOption r (next_zone (30 - c) h c ≡ 30) (λ d. (d ≡ next_zone (30 - c) h c) × (d < 30))
next_found h c g None m = sym (next_first h 30 (30 - c) c g (omega arith) m (λ b. absurd (omega arith)))
next_found h c g (Some d) m = (next_first h d (30 - c) c m.0 (omega arith) m.3 (λ b. m.2), m.1)

-- class by class: from class d on it is that from class c on
pub record Seeking (h : List ℕ) (c d : ℕ) : Type 0 where
  pub class : d ≤ 30
  pub same : next_zone (30 - d) h d ≡ next_zone (30 - c) h c

module _ (h : List ℕ) (c d : ℕ) (s : Seeking h c d) where
  pub seek_next : d < 30 → many_at h d ≡ 0 → Seeking h c (d + 1)
  unfolding next_zone
  seek_next g z =
      let m : 30 - d ≡ suc (30 - suc d) = omega arith in
      record { class = omega arith; same = rw add-one (sym (ap (λ (k : ℕ). next_zone k h d) m ∙ rw (eq-eqb (many_at h d) 0 z)) ∙ s.same) }

  pub seek_found : d < 30 → many_at h d ≢ 0 → d ≡ next_zone (30 - c) h c
  unfolding next_zone
  seek_found g z =
      let m : 30 - d ≡ suc (30 - suc d) = omega arith in
      sym (ap (λ (k : ℕ). next_zone k h d) m ∙ rw (ne_eqb (many_at h d) 0 z)) ∙ s.same

  pub seek_done : 30 ≤ d → 30 ≡ next_zone (30 - c) h c
  unfolding next_zone
  seek_done g =
      let m : 30 - d ≡ 0 = omega arith in
      let e : 30 ≡ d = omega (arith, s.class) in
      e ∙ ap (λ (k : ℕ). next_zone k h d) (sym m) ∙ s.same
