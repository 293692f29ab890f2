-- What the code that finds a cell knows at its places.
use Rattle.std.specs.Prelude.{◌≡◌, ◌≢◌, Bool, true, false, ℕ, suc, ◌+◌, ◌*◌, ◌-◌, ◌≤◌, ◌<◌, leb, Some, None}
use Rattle.std.specs.Bool.{then_some}
use Rattle.std.specs.declared.option.Option.{Option as Maybe}
use Rattle.std.proofs.Math.Path.{refl, ap, subst}
use Rattle.std.proofs.Common.{sym, ap₂, ◌∙◌, add-one}
use Rattle.std.proofs.Math.Option.{Option, none, some, map, get_or}
use mathlib.Core.List.{List}
use native.Mathlib.Omega.{arith}
use Rattle.std.proofs.Math.ListN.{length}
use Rattle.wire.specs.Bytes.{is_some}
use Rattle.layout.specs.Capacities.{cells}
use Rattle.layout.specs.CapacitiesLaws.{cells_mono, cells_pos, cells_rise}
use Rattle.layout.specs.Cases.{by_pick, Holds}
use Rattle.home.specs.Bytes.{cell_at, first_at, many_at, end_at}
use Rattle.home.specs.EndLaws.{end_some}
use Rattle.moves.specs.Moves.{Movable, moved, zoned}
use Rattle.seats.specs.Seat.{cell_for, first_with, next_zone, displaced, raised, room_of, Stacked, Seatable, seated}
use Rattle.seats.specs.UntouchedLaws.{Untouched, untouched_movable}
use Rattle.seats.specs.StackLaws.{raised_stays, lift, raised_lifts, lift-low, lift_high, one_of, stacked_inside, raised_inside, raised_untouched, Next, next_is}

-- the cell p of a block of k cells, and the next nonempty zone d
pub record Seating (step : ℕ) (h : List ℕ) (c f n e k p d : ℕ) : Type 0 where
  pub able : Seatable step h c f n e
  pub size : k ≡ cells step c
  pub cell : p ≡ cell_for e f n k
  pub next : d ≡ next_zone (30 - (c + 1)) h (c + 1)

pub able_inside : (step : ℕ) (h : List ℕ) (c f n e : ℕ) → Seatable step h c f n e → cell_at (cell_for e f n (cells step c)) ≤ length h
able_inside step h c f n e s = omega (arith, s.cell, stacked_inside step h (29 - c) (c + 1) (end_at step h c e) s.above)

pub able_small : (step : ℕ) (h : List ℕ) (c f n e : ℕ) → Seatable step h c f n e → (k : ℕ) → k ≡ cells step c → cell_for e f n k < 4294967296
able_small step h c f n e s k q = rw q (omega (arith, able_inside step h c f n e s, s.long))

-- room made for it, as the call answers
pub record Answers (step : ℕ) (h : List ℕ) (c f n e : ℕ) (r : Maybe ℕ) (h' : List ℕ) : Type 0 where
  pub room : r ≡ then_some (is_some (seated step h c f n e)) (cell_for e f n (cells step c))
  pub bytes : h' ≡ get_or (seated step h c f n e) h

-- zone d's first block at cell g goes to cell q
pub record Displaces (step : ℕ) (h h' : List ℕ) (c f n e p d g m q : ℕ) : Type 0 where
  pub class : d < 30
  pub old : cell_at g + 8 * cells step d ≤ length h'
  pub new : cell_at q + 8 * cells step d ≤ length h'
  pub movable : Movable h' g
  pub done : Answers step h c f n e (Some p) (displaced step h' d g m q)

pub clash : {G : Type 0} (i : ℕ) → Some i ≡ None → G
clash i e = cc

-- the room answered, by its test
pub room_then : (b : Bool) (p : ℕ) → room_of b p ≡ then_some b p
unfolding room_of
room_then true p = refl
room_then false p = refl

module _ (step : ℕ) (h : List ℕ) (c f n e k p d : ℕ) (s : Seating step h c f n e k p d) where
  -- where the zones up to c end while its block is not there
  abbrev e₀ : ℕ
  e₀ = end_at step h c e

  cell_is : p ≡ cell_for e f n (cells step c)
  cell_is = rw s.size at s.cell

  next : Next step (29 - c) h (c + 1) e₀ d
  next =
      let m : 30 - (c + 1) ≡ 29 - c = omega arith in
      subst (Next step (29 - c) h (c + 1) e₀) (sym (s.next ∙ ap (λ (j : ℕ). next_zone j h (c + 1)) m)) (next_is step (29 - c) h (c + 1) e₀ (omega (arith, s.able.class)) s.able.above)

  pub next_under : (d ≡ 30 → ⊥) → d < 30
  next_under q = omega (arith, next.high)

  pub further_up : c < d
  further_up = omega (arith, next.low)

  seated_is : seated step h c f n e ≡ raised step (30 - d) h d (p + k)
  seated_is = ap (λ (x : ℕ). raised step (29 - c) h (c + 1) x) (ap₂ (λ (x y : ℕ). x + y) (sym cell_is) (sym s.size)) ∙ next.same (p + k)

  -- at most a block of the next class behind the old end
  near : p + k ≤ e₀ + cells step (c + 1)
  near = rw add-one (omega (arith, cell_is, s.able.cell, s.size, cells_mono step c))

  answers : (o : Option (List ℕ)) (r : Maybe ℕ) (h' : List ℕ) → seated step h c f n e ≡ o → r ≡ then_some (is_some o) p → h' ≡ get_or o h → Answers step h c f n e r h'
  answers o r h' q a b = record { room = rw (q, ← cell_is) a; bytes = rw q b }

  -- no zone is in the way, up to the end of the bytes
  pub seat_last : d ≡ 30 → (r : Maybe ℕ) → r ≡ then_some (leb (1664 + 8 * (p + k)) (length h)) p → Answers step h c f n e r h
  unfolding raised
  seat_last q r a =
      let z : 30 - d ≡ 0 = omega arith in
      by_pick (λ (o : Option (List ℕ)). seated step h c f n e ≡ o → Answers step h c f n e r h) (leb (cell_at (p + k)) (length h))
      (λ t y. answers (some h) r h y (a ∙ ap (λ (b : Bool). then_some b p) t) refl) (λ t y. answers none r h y (a ∙ ap (λ (b : Bool). then_some b p) t) refl)
      (seated_is ∙ ap (λ (j : ℕ). raised step j h d (p + k)) z)

  module _ (q : d ≡ 30 → ⊥) where
    fuel : 30 - d ≡ suc (29 - d)
    fuel = omega (arith, next_under q)

    stack_on : Stacked step (suc (29 - d)) h d e₀
    stack_on = subst (λ (j : ℕ). Stacked step j h d e₀) fuel next.stacked

    seated_on : seated step h c f n e ≡ raised step (suc (29 - d)) h d (p + k)
    seated_on = seated_is ∙ ap (λ (j : ℕ). raised step j h d (p + k)) fuel

    pub seat_before : (g : ℕ) → g ≡ first_at h d → p + k ≤ g → Answers step h c f n e (Some p) h
    seat_before g a b = answers (some h) (Some p) h (seated_on ∙ raised_stays step h d (p + k) (29 - d) (next.some q) (subst (λ (x : ℕ). p + k ≤ x) a b)) refl refl

-- zone d's first block at cell g is in the way; it has m others, from cell `rest` on
pub record InWay (step : ℕ) (h : List ℕ) (c f n e k p d g rest m : ℕ) : Type 0 where
  pub seating : Seating step h c f n e k p d
  pub further : d ≡ 30 → ⊥
  pub first : g ≡ first_at h d
  pub start : rest ≡ g + cells step d
  pub others : m ≡ many_at h d - 1
  pub over : g < p + k

module _ (step : ℕ) (h : List ℕ) (c f n e k p d g rest m : ℕ) (w : InWay step h c f n e k p d g rest m) where
  abbrev s : Seating step h c f n e k p d
  s = w.seating

  abbrev old_end : ℕ
  old_end = end_at step h c e

  under : d < 30
  under = next_under step h c f n e k p d s w.further

  pub some_there : many_at h d ≢ 0
  some_there = (next step h c f n e k p d s).some w.further

  stack : Stacked step (suc (29 - d)) h d old_end
  stack = stack_on step h c f n e k p d s w.further

  abbrev to : ℕ
  to = lift step h d (p + k)

  to_is : cell_for (p + k) rest m (cells step d) ≡ to
  to_is = rw (w.start, w.first, w.others)

  way : first_at h d < p + k
  way = subst (λ (x : ℕ). x < p + k) w.first w.over

  close : p + k ≤ first_at h d + cells step d
  close = omega (arith, near step h c f n e k p d s, (stack.0 some_there).0, cells_rise step (c + 1) d (next step h c f n e k p d s).low)

  pub seat_again : Seatable step h d rest m (p + k)
  seat_again = record {
    class = under;
    long = s.able.long;
    above = rw add-one (subst (Stacked step (29 - d) h (suc d)) (end_some step h d old_end some_there ∙ sym (end_some step h d (p + k) some_there)) stack.1);
    cell = omega (arith, to_is, end_some step h d (p + k) some_there, (lift_high step h d (p + k) some_there close).0);
  }

  abbrev o : Option (List ℕ)
  o = raised step (29 - d) h (suc d) (to + cells step d)

  again_is : seated step h d rest m (p + k) ≡ o
  again_is = rw (add-one, to_is)

  lifts : seated step h c f n e ≡ map (λ (x : List ℕ). displaced step x d g m to) o
  lifts = rw (w.first, w.others) (seated_on step h c f n e k p d s w.further ∙ raised_lifts step h d (p + k) (29 - d) some_there way)

  old : cell_at g + 8 * cells step d ≤ length h
  old = omega (arith, w.first, end_some step h d old_end some_there, one_of (many_at h d) (cells step d) some_there, stacked_inside step h (29 - d) (suc d) (end_at step h d old_end) stack.1)

  left : Holds (Untouched (suc g) h) o
  left = raised_untouched step h (29 - d) (suc d) (end_at step h d old_end) (to + cells step d) (suc g) (omega (arith, under)) stack.1
      (omega (arith, w.first, end_some step h d old_end some_there, one_of (many_at h d) (cells step d) some_there, cells_pos step d)) (omega (arith, w.first, lift-low step h d (p + k) way))

  new : Holds (λ (x : List ℕ). cell_at (to + cells step d) ≤ length h) o
  new = raised_inside step h (29 - d) (suc d) (end_at step h d old_end) (to + cells step d) stack.1
      (omega (arith, end_some step h d old_end some_there, (lift_high step h d (p + k) some_there close).0, cells_mono step d))

  -- what the call for that block answers
  module _ (r : Maybe ℕ) (h' : List ℕ) (t : Answers step h d rest m (p + k) r h') where
    room_is : r ≡ then_some (is_some o) to
    room_is = t.room ∙ ap₂ then_some (ap is_some again_is) to_is

    bytes_are : h' ≡ get_or o h
    bytes_are = t.bytes ∙ ap (λ (x : Option (List ℕ)). get_or x h) again_is

    pub seat_none : r ≡ None → Answers step h c f n e None h'
    seat_none z = by o (sym z ∙ room_is) bytes_are lifts
      where
        by : (x : Option (List ℕ)) → None ≡ then_some (is_some x) to → h' ≡ get_or x h → seated step h c f n e ≡ map (λ (y : List ℕ). displaced step y d g m to) x → Answers step h c f n e None h'
        by none a b y = answers step h c f n e k p d s none None h' y refl b
        by (some x) a b y = cc

    pub seat_moves : (q : ℕ) → r ≡ Some q → Displaces step h h' c f n e p d g m q
    seat_moves q z = by o (sym z ∙ room_is) bytes_are lifts left new
      where
        by : (x : Option (List ℕ)) → Some q ≡ then_some (is_some x) to → h' ≡ get_or x h → seated step h c f n e ≡ map (λ (y : List ℕ). displaced step y d g m to) x
            → Holds (Untouched (suc g) h) x → Holds (λ (y : List ℕ). cell_at (to + cells step d) ≤ length h) x → Displaces step h h' c f n e p d g m q
        by none a b y u v = cc
        by (some x) a b y u v =
            let i : q ≡ to = cc in
            let m' : Movable h' g = subst (λ (l : List ℕ). Movable l g) (sym b) (untouched_movable (suc g) h x g u (omega arith) (subst (Movable h) (sym w.first) (stack.0 some_there).1)) in
            let l : length h' ≡ length h = ap length b ∙ u.long in
            record {
              class = under;
              old = omega (arith, old, l);
              new = omega (arith, v, l, i);
              movable = m';
              done = answers step h c f n e k p d s (some (displaced step x d g m to)) (Some p) (displaced step h' d g m q) y refl (ap₂ (λ (w : List ℕ) (j : ℕ). displaced step w d g m j) b i);
            }

    -- moved, with its zone's entry
    pub seat_done : (q : ℕ) → r ≡ Some q → (h₁ h₂ : List ℕ) (i : ℕ) → h₁ ≡ moved step h' d g q → i ≡ first_with m rest q → h₂ ≡ zoned h₁ d i (m + 1) → Answers step h c f n e (Some p) h₂
    unfolding displaced
    seat_done q z h₁ h₂ i a b y = subst (Answers step h c f n e (Some p)) (sym (y ∙ rw (a, b, w.start))) (seat_moves q z).done
