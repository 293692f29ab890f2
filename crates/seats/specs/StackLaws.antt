-- Zones that lie one behind the other: room is made inside the bytes, and leaves what lies before it.
use Rattle.std.specs.Prelude.{◌≡◌, refl, ◌≢◌, leb}
use Rattle.std.proofs.Common.{sym, ap, ◌∙◌}
use Rattle.std.proofs.Math.Path.{subst}
use Rattle.std.proofs.Math.Option.{Option, some, map}
use mathlib.Core.List.{List}
use Prim.Native.Nat.{ℕ, zero, suc, ◌+◌, ◌*◌, ◌-◌, ◌≤◌, ◌<◌}
use native.Mathlib.Omega.{arith}
use Rattle.std.proofs.Math.ListN.{length}
use borrow.Author.Tests.{eq-eqb, ne_eqb, le-leb, lt-leb, leb-true}
use Rattle.wire.specs.Cases.{by_eq, by_lt}
use Rattle.layout.specs.Capacities.{cells}
use Rattle.layout.specs.CapacitiesLaws.{cells_mono, cells_pos}
use Rattle.layout.specs.Cases.{by_pick, Holds, holds_under}
use Rattle.home.specs.Bytes.{cell_at, first_at, many_at, end_at}
use Rattle.home.specs.EndLaws.{end_none, end_some}
use Rattle.seats.specs.Seat.{cell_for, end_from, next_zone, displaced, raised, Stacked}
use Rattle.seats.specs.SeatLaws.{cell_none, cell_some}
use Rattle.seats.specs.UntouchedLaws.{Untouched, untouched_same, untouched_both, untouched_movable, untouched_displaced, length-displaced}

-- ---- room made, zone by zone

module _ (step : ℕ) (h : List ℕ) (c e : ℕ) where
  -- where zone c's first block goes if it is in the way
  abbrev pub lift : ℕ
  lift = cell_for e (first_at h c + cells step c) (many_at h c - 1) (cells step c)

  alone : many_at h c - 1 ≡ 0 → lift ≡ e
  alone q = cell_none e (first_at h c + cells step c) (many_at h c - 1) (cells step c) q

  among : many_at h c - 1 ≢ 0 → lift ≡ first_at h c + cells step c + (many_at h c - 1) * cells step c
  among q = cell_some e (first_at h c + cells step c) (many_at h c - 1) (cells step c) q

  -- behind the cell that it leaves
  pub lift-low : first_at h c < e → suc (first_at h c) ≤ lift
  lift-low g = by_eq (many_at h c - 1) 0 (λ q. omega (arith, alone q)) (λ q. omega (arith, among q, cells_pos step c))

  -- and not behind the zone's end, if e is at most a block behind the zone's start; then it ends at or behind e
  pub lift_high : many_at h c ≢ 0 → e ≤ first_at h c + cells step c → (lift ≤ first_at h c + many_at h c * cells step c) × (e ≤ lift + cells step c)
  lift_high z g =
      let p : many_at h c ≡ suc (many_at h c - 1) = omega arith in
      let t : many_at h c * cells step c ≡ suc (many_at h c - 1) * cells step c = ap (λ (x : ℕ). x * cells step c) p in
      by_eq (many_at h c - 1) 0 (λ q. omega (arith, alone q)) (λ q. omega (arith, among q))

  module _ (m : ℕ) where
    pub raised_skip : many_at h c ≡ 0 → raised step (suc m) h c e ≡ raised step m h (suc c) e
    unfolding raised
    raised_skip z = rw (eq-eqb (many_at h c) 0 z)

    pub raised_stays : many_at h c ≢ 0 → e ≤ first_at h c → raised step (suc m) h c e ≡ some h
    unfolding raised
    raised_stays z g = rw (ne_eqb (many_at h c) 0 z, le-leb e (first_at h c) g)

    pub raised_lifts : many_at h c ≢ 0 → first_at h c < e
        → raised step (suc m) h c e ≡ map (λ (x : List ℕ). displaced step x c (first_at h c) (many_at h c - 1) lift) (raised step m h (suc c) (lift + cells step c))
    unfolding raised
    raised_lifts z g = rw (ne_eqb (many_at h c) 0 z, lt-leb e (first_at h c) g)

    -- the three ways
    by_raised : (P : Option (List ℕ) → Type 0) → (many_at h c ≡ 0 → P (raised step m h (suc c) e)) → (many_at h c ≢ 0 → e ≤ first_at h c → P (some h))
        → (many_at h c ≢ 0 → first_at h c < e → P (map (λ (x : List ℕ). displaced step x c (first_at h c) (many_at h c - 1) lift) (raised step m h (suc c) (lift + cells step c))))
        → P (raised step (suc m) h c e)
    by_raised P skip stays lifts =
        by_eq (many_at h c) 0
        (λ z. subst P (sym (raised_skip z)) (skip z))
        (λ z. by_lt (first_at h c) e (λ a. subst P (sym (raised_lifts z a)) (lifts z a)) (λ a. subst P (sym (raised_stays z a)) (stays z a)))

pub one_of : (n k : ℕ) → n ≢ 0 → k ≤ n * k
one_of zero k z = absurd (z refl)
one_of (suc n) k z = omega arith

-- the bytes stay as many
pub raised_long : (step : ℕ) (h : List ℕ) (m c e : ℕ) → Holds (λ (x : List ℕ). length x ≡ length h) (raised step m h c e)
unfolding raised
raised_long step h zero c e = by_pick (Holds (λ (x : List ℕ). length x ≡ length h)) (leb (cell_at e) (length h)) (λ t. refl) (λ t. tt)
raised_long step h (suc m) c e =
    let P : List ℕ → Type 0 = λ (x : List ℕ). length x ≡ length h in
    by_raised step h c e m (Holds P) (λ z. raised_long step h m (suc c) e) (λ z a. refl)
    (λ z a. holds_under P P (λ (x : List ℕ). displaced step x c (first_at h c) (many_at h c - 1) (lift step h c e)) (raised step m h (suc c) (lift step h c e + cells step c))
    (λ x q. length-displaced step x c (first_at h c) (many_at h c - 1) (lift step h c e) ∙ q) (raised_long step h m (suc c) (lift step h c e + cells step c)))

-- ---- zones one behind the other

module _ (step : ℕ) (h : List ℕ) where
  end_low : (m c e : ℕ) → Stacked step (suc m) h c e → e ≤ end_at step h c e
  end_low m c e s = by_eq (many_at h c) 0
      (λ z. omega (arith, end_none step h c e z))
      (λ z. omega (arith, end_some step h c e z, (s.0 z).0))

  pub stacked_inside : (m c e : ℕ) → Stacked step m h c e → cell_at e ≤ length h
  stacked_inside zero c e s = s
  stacked_inside (suc m) c e s = omega (arith, end_low m c e s, stacked_inside m (suc c) (end_at step h c e) s.1)

  -- so do those behind the first of them, from where these end
  pub stacked_on : (j m c e : ℕ) → Stacked step (j + m) h c e → Stacked step m h (j + c) (end_from step j h c e)
  unfolding end_from
  stacked_on zero m c e s = let i : c ≡ 0 + c = omega arith in let k : 0 + m ≡ m = omega arith in subst (λ (d : ℕ). Stacked step m h d e) i (subst (λ (x : ℕ). Stacked step x h c e) k s)
  stacked_on (suc j) m c e s =
      let i : j + suc c ≡ suc j + c = omega arith in
      let k : suc j + m ≡ suc (j + m) = omega arith in
      let s' : Stacked step (suc (j + m)) h c e = subst (λ (x : ℕ). Stacked step x h c e) k s in
      subst (λ (d : ℕ). Stacked step m h d (end_from step j h (suc c) (end_at step h c e))) i (stacked_on j m (suc c) (end_at step h c e) s'.1)

  -- room is made inside the bytes
  pub raised_inside : (m c e₀ e : ℕ) → Stacked step m h c e₀ → e ≤ e₀ + cells step c → Holds (λ (x : List ℕ). cell_at e ≤ length h) (raised step m h c e)
  unfolding raised
  raised_inside zero c e₀ e s g = by_pick (Holds (λ (x : List ℕ). cell_at e ≤ length h)) (leb (cell_at e) (length h)) (λ t. leb-true (cell_at e) (length h) t) (λ t. tt)
  raised_inside (suc m) c e₀ e s g =
      let P : List ℕ → Type 0 = λ (x : List ℕ). cell_at e ≤ length h in
      let to : ℕ = lift step h c e in
      by_raised step h c e m (Holds P)
      (λ z. raised_inside m (suc c) (end_at step h c e₀) e s.1 (omega (arith, end_none step h c e₀ z, cells_mono step c)))
      (λ z a. omega (arith, end_some step h c e₀ z, stacked_inside m (suc c) (end_at step h c e₀) s.1))
      (λ z a. let b = lift_high step h c e z (omega (arith, (s.0 z).0)) in
      holds_under (λ (x : List ℕ). cell_at (to + cells step c) ≤ length h) P (λ (x : List ℕ). displaced step x c (first_at h c) (many_at h c - 1) to) (raised step m h (suc c) (to + cells step c))
      (λ x d. omega (arith, b.1)) (raised_inside m (suc c) (end_at step h c e₀) (to + cells step c) s.1 (omega (arith, end_some step h c e₀ z, b.0, cells_mono step c))))

  -- and leaves what lies before it
  pub raised_untouched : (m c e₀ e lo : ℕ) → c + m ≡ 30 → Stacked step m h c e₀ → lo ≤ e₀ → lo ≤ e → Holds (Untouched lo h) (raised step m h c e)
  unfolding raised
  raised_untouched zero c e₀ e lo k s g g' = by_pick (Holds (Untouched lo h)) (leb (cell_at e) (length h)) (λ t. untouched_same lo h) (λ t. tt)
  raised_untouched (suc m) c e₀ e lo k s g g' =
      let f : ℕ = first_at h c in
      let n : ℕ = many_at h c - 1 in
      let to : ℕ = lift step h c e in
      by_raised step h c e m (Holds (Untouched lo h))
      (λ z. raised_untouched m (suc c) (end_at step h c e₀) e lo (omega arith) s.1 (omega (arith, end_none step h c e₀ z)) g')
      (λ z a. untouched_same lo h)
      (λ z a. holds_under (Untouched (suc f) h) (Untouched lo h) (λ (x : List ℕ). displaced step x c f n to) (raised step m h (suc c) (to + cells step c))
      (λ x u. untouched_both lo (suc f) h x (displaced step x c f n to) (omega (arith, (s.0 z).0)) u
      (untouched_displaced step lo x c f n to (omega arith) (untouched_movable (suc f) h x f u (omega arith) (s.0 z).1) (omega (arith, (s.0 z).0)) (omega (arith, (s.0 z).0, lift-low step h c e a))))
      (raised_untouched m (suc c) (end_at step h c e₀) (to + cells step c) (suc f) (omega arith) s.1 (omega (arith, end_some step h c e₀ z, cells_pos step c, one_of (many_at h c) (cells step c) z)) (omega (arith, lift-low step h c e a))))

-- ---- the next nonempty zone

-- it is the first that counts
pub record Next (step m : ℕ) (h : List ℕ) (c e₀ d : ℕ) : Type 0 where
  pub low : c ≤ d
  pub high : d ≤ 30
  pub some : d ≢ 30 → many_at h d ≢ 0
  pub same : (e : ℕ) → raised step m h c e ≡ raised step (30 - d) h d e
  pub stacked : Stacked step (30 - d) h d e₀

pub next_is : (step m : ℕ) (h : List ℕ) (c e₀ : ℕ) → c + m ≡ 30 → Stacked step m h c e₀ → Next step m h c e₀ (next_zone m h c)
unfolding next_zone
next_is step zero h c e₀ k s =
    let z : 0 ≡ 30 - c = omega arith in
    record { low = omega arith; high = omega arith; some = λ q. absurd (q (omega arith)); same = λ e. ap (λ (j : ℕ). raised step j h c e) z; stacked = subst (λ (j : ℕ). Stacked step j h c e₀) z s }
next_is step (suc m) h c e₀ k s =
    by_eq (many_at h c) 0
    (λ z. let n : Next step m h (suc c) e₀ (next_zone m h (suc c)) = next_is step m h (suc c) e₀ (omega arith) (subst (Stacked step m h (suc c)) (end_none step h c e₀ z) s.1) in
    subst (Next step (suc m) h c e₀) (sym (rw (eq-eqb (many_at h c) 0 z) refl))
    (record { low = omega (arith, n.low); high = n.high; some = n.some; same = λ e. raised_skip step h c e m z ∙ n.same e; stacked = n.stacked }))
    (λ z. let j : suc m ≡ 30 - c = omega arith in
    subst (Next step (suc m) h c e₀) (sym (rw (ne_eqb (many_at h c) 0 z) refl))
    (record { low = omega arith; high = omega arith; some = λ q. z; same = λ e. ap (λ (i : ℕ). raised step i h c e) j; stacked = subst (λ (i : ℕ). Stacked step i h c e₀) j s }))
