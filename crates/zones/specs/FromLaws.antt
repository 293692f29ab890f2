-- What the code that places from a class up knows at its places.
use Rattle.std.specs.Prelude.{◌≡◌, true, false, Some, None}
use Rattle.std.specs.Bool.{then_some}
use Rattle.std.specs.declared.option.Option.{Option as Maybe}
use Rattle.std.proofs.Math.Path.{refl, ap₂, subst}
use Rattle.std.proofs.Common.{sym, ap, ◌∙◌, arith, add-one}
use Rattle.std.proofs.Math.Option.{Option, none, some, map, get_or}
use mathlib.Core.List.{List}
use Prim.Native.Nat.{ℕ, suc, ◌+◌, ◌*◌, ◌-◌, ◌/◌, ◌≤◌, ◌<◌}
use Rattle.std.proofs.Math.ListN.{length}
use Rattle.wire.specs.Bytes.{over, is_some}
use Rattle.layout.specs.Capacities.{cells, class_of}
use Rattle.layout.specs.CapacitiesLaws.{cells_mono, class_below as class-most, class_holds}
use Rattle.layout.specs.Cases.{Holds}
use Rattle.home.specs.Bytes.{cell_at, first_at, many_at, end_at}
use Rattle.seats.specs.Seat.{cell_for, end_from, Stacked, Seatable, seated}
use Rattle.seats.specs.UntouchedLaws.{Untouched, untouched_ordered, untouched_both, untouched_area}
use Rattle.seats.specs.StackLaws.{stacked_on, raised_inside, raised_untouched}
use Rattle.seats.specs.SeatCode.{Answers}
use Rattle.zones.specs.Place.{whole_block, RoomAt, with_block, placed_from, From}

-- the list's class k, the end of the zones below it, and its zone's first cell and block count
pub record Placing (step : ℕ) (h : List ℕ) (c e : ℕ) (bs : List ℕ) (k end f n : ℕ) : Type 0 where
  pub from : From step h c e bs
  pub class : k ≡ class_of step (length bs / 8)
  pub carried : end ≡ end_from step (k - c) h c e
  pub first : f ≡ first_at h k
  pub many : n ≡ many_at h k

placed_with : (step : ℕ) (h : List ℕ) (c e t : ℕ) (bs : List ℕ) (k end f n : ℕ) → k ≡ class_of step (length bs / 8) → end ≡ end_from step (k - c) h c e → f ≡ first_at h k → n ≡ many_at h k
    → placed_from step h c e t bs ≡ map (λ (x : List ℕ). with_block step x k (cell_for end f n (cells step k)) t bs) (seated step h k f n end)
unfolding placed_from end_at cell_for
placed_with step h c e t bs k end f n q a b d =
    let F : ℕ → ℕ → ℕ → ℕ → Option (List ℕ) = λ (j u v w : ℕ). map (λ (x : List ℕ). with_block step x j (cell_for u v w (cells step j)) t bs) (seated step h j v w u) in
    sym (ap (F k end f) d ∙ ap (λ (v : ℕ). F k end v (many_at h k)) b ∙ ap (λ (u : ℕ). F k u (first_at h k) (many_at h k)) a ∙ ap (λ (j : ℕ). F j (end_from step (j - c) h c e) (first_at h j) (many_at h j)) q)

pub from_under : (step : ℕ) (h : List ℕ) (c e : ℕ) (bs : List ℕ) → From step h c e bs → (k : ℕ) → k ≡ class_of step (length bs / 8) → (c ≤ k) × (k < 30)
from_under step h c e bs a k q = (omega (arith, a.class), omega (arith, class-most step (length bs / 8) a.most))

module _ (step : ℕ) (h : List ℕ) (c e : ℕ) (bs : List ℕ) (k end f n : ℕ) (a : Placing step h c e bs k end f n) where
  under : (c ≤ k) × (k < 30)
  under = from_under step h c e bs a.from k a.class

  abbrev p : ℕ
  p = cell_for end f n (cells step k)

  cell_is : p ≡ end_at step h k end
  unfolding end_at cell_for
  cell_is = rw (a.first, a.many)

  stack : Stacked step (suc (29 - k)) h k end
  stack =
      let m : 30 - c ≡ k - c + suc (29 - k) = omega (arith, under) in
      let d : k - c + c ≡ k = omega (arith, under.0) in
      subst (Stacked step (suc (29 - k)) h k) (sym a.carried)
      (subst (λ (x : ℕ). Stacked step (suc (29 - k)) h x (end_from step (k - c) h c e)) d (stacked_on step h (k - c) (suc (29 - k)) c e (subst (λ (x : ℕ). Stacked step x h c e) m a.from.above)))

  pub placing_able : Seatable step h k f n end
  placing_able = record { long = a.from.long; class = under.1; above = rw add-one stack.1; cell = omega (arith, cell_is) }

  abbrev o : Option (List ℕ)
  o = seated step h k f n end

  fits : length bs + 8 ≤ 8 * cells step k
  fits = omega (arith, a.from.whole, class_holds step (length bs / 8) a.from.most, ap (cells step) a.class)

  left : Holds (Untouched 0 h) o
  left = rw add-one (raised_untouched step h (29 - k) (suc k) (end_at step h k end) (p + cells step k) 0 (omega (arith, under.1)) stack.1 (omega arith) (omega arith))

  inside : Holds (λ (x : List ℕ). cell_at (p + cells step k) ≤ length h) o
  inside = rw add-one (raised_inside step h (29 - k) (suc k) (end_at step h k end) (p + cells step k) stack.1 (omega (arith, cell_is, cells_mono step k)))

  module _ (t : ℕ) where
    placed_is : placed_from step h c e t bs ≡ map (λ (x : List ℕ). with_block step x k p t bs) o
    placed_is = placed_with step h c e t bs k end f n a.class a.carried a.first a.many

    -- what the call for a cell answers
    module _ (r : Maybe ℕ) (h' : List ℕ) (s : Answers step h k f n end r h') where
      pub placing-none : r ≡ None → (false ≡ is_some (placed_from step h c e t bs)) × (h' ≡ get_or (placed_from step h c e t bs) h)
      placing-none z = rw placed_is (by o (sym z ∙ s.room) s.bytes)
        where
          by : (x : Option (List ℕ)) → None ≡ then_some (is_some x) p → h' ≡ get_or x h
              → (false ≡ is_some (map (λ (y : List ℕ). with_block step y k p t bs) x)) × (h' ≡ get_or (map (λ (y : List ℕ). with_block step y k p t bs) x) h)
          by none u v = (refl, v)
          by (some x) u v = cc

      pub placing_puts : (q : ℕ) → r ≡ Some q → RoomAt step h' k q t bs × (true ≡ is_some (placed_from step h c e t bs)) × (with_block step h' k q t bs ≡ get_or (placed_from step h c e t bs) h)
      placing_puts q z = rw placed_is (by o (sym z ∙ s.room) s.bytes left inside)
        where
          by : (x : Option (List ℕ)) → Some q ≡ then_some (is_some x) p → h' ≡ get_or x h → Holds (Untouched 0 h) x → Holds (λ (y : List ℕ). cell_at (p + cells step k) ≤ length h) x
              → RoomAt step h' k q t bs × (true ≡ is_some (map (λ (y : List ℕ). with_block step y k p t bs) x)) × (with_block step h' k q t bs ≡ get_or (map (λ (y : List ℕ). with_block step y k p t bs) x) h)
          by none u v w i = cc
          by (some x) u v w i =
              let j : q ≡ p = cc in
              let b : List ℕ = over h' (cell_at q) (whole_block step k t bs) in
              let y : Untouched 0 h h' = subst (Untouched 0 h) (sym v) w in
              let b' : Untouched 0 h b = untouched_both 0 0 h h' b (omega arith) y (untouched_area 0 h' q (whole_block step k t bs) (omega arith)) in (
                record {
                  class = under.1;
                  long = omega (arith, a.from.ordered.long, y.long);
                  inside = omega (arith, i, j, y.long);
                  fits = fits;
                  ordered = untouched_ordered 0 h b b' a.from.ordered;
                  few = omega (arith, b'.count, a.from.few);
                },
                refl,
                ap₂ (λ (l : List ℕ) (m : ℕ). with_block step l k m t bs) v j,
              )
