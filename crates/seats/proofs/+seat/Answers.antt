use Rattle.std.proofs.Common.{◌≡◌, ◌+◌, ◌-◌, ◌<◌, ℕ, List, arith, ap, sym, refl, ◌∙◌}
use Rattle.layout.specs.Capacities.{cells}
use Rattle.home.specs.Bytes.{first_at, many_at}
use Rattle.seats.specs.Seat.{cell_for, next_zone, Seatable}
use Rattle.seats.specs.SeatCode.{Seating, able_inside, able_small, next_under, further_up, seat_last, seat_before, InWay, some_there, seat_again, seat_none, seat_moves, seat_done}
use Rattle.seats.proofs.+seat.Goals as goal

-- what is known once the next nonempty zone is
seating : {step : ℕ} {h : List ℕ} {c f n e k p d : ℕ} → Seatable step h c f n e → k ≡ cells step c → p ≡ cell_for e f n k → d ≡ next_zone (30 - (c + 1)) h (c + 1)
    → Seating step h c f n e k p d
seating a s p d = record { able = a; size = s; cell = p; next = d }

-- and once its block is in the way
in_way : {step : ℕ} {h : List ℕ} {c f n e k p d g s o : ℕ} → Seating step h c f n e k p d → (d ≡ 30 → ⊥) → g ≡ first_at h d → s ≡ cells step d → o ≡ many_at h d → g < p + k
    → InWay step h c f n e k p d g (g + s) (o - 1)
in_way {g = g} t q a b m over = record { seating = t; further = q; first = a; start = ap (λ (x : ℕ). g + x) b; others = ap (λ (x : ℕ). x - 1) m; over = over }

pub cell_for-p-requires : goal.cell_for-p-requires
cell_for-p-requires t c = able_small _ _ _ _ _ _ c.requires _ c.cells-k.ensures.0

pub overflow_add-end : goal.overflow_add-end
overflow_add-end t c = omega (arith, c.cells-k.ensures, able_small _ _ _ _ _ _ c.requires _ c.cells-k.ensures.0)

pub next_zone-requires : goal.next_zone-requires
next_zone-requires t c = omega (arith, able_inside _ _ _ _ _ _ c.requires)

pub overflow_mul-end : goal.overflow_mul-end
overflow_mul-end t c = omega (arith, c.cells-k.ensures, able_small _ _ _ _ _ _ c.requires _ c.cells-k.ensures.0)

pub overflow_add-end-in_default : goal.overflow_add-end-in_default
overflow_add-end-in_default t c = omega (arith, c.cells-k.ensures, able_small _ _ _ _ _ _ c.requires _ c.cells-k.ensures.0)

pub returns-in_default : goal.returns-in_default
returns-in_default t c =
    let a = seat_last _ _ _ _ _ _ _ _ _ (seating c.requires c.cells-k.ensures.0 c.cell_for-p.ensures (sym c.in_default.ensures)) refl _ c.then_some.ensures in
    record { value = a.room; home_after = a.bytes }

pub zone_first-first-requires : goal.zone_first-first-requires
zone_first-first-requires t c = (next_under _ _ _ _ _ _ _ _ _ (seating c.requires c.cells-k.ensures.0 c.cell_for-p.ensures c.in-Some.ensures.0) (omega (arith, c.in-Some.ensures.1)), omega (arith, able_inside _ _ _ _ _ _ c.requires))

pub returns-then-end-first : goal.returns-then-end-first
returns-then-end-first t c =
    let a = seat_before _ _ _ _ _ _ _ _ _ (seating c.requires c.cells-k.ensures.0 c.cell_for-p.ensures c.in-Some.ensures.0) (omega (arith, c.in-Some.ensures.1)) _ c.zone_first-first.ensures.0 c.if-end-first.true in
    record { value = a.room; home_after = a.bytes }

pub zone_count-others-requires : goal.zone_count-others-requires
zone_count-others-requires t c = (next_under _ _ _ _ _ _ _ _ _ (seating c.requires c.cells-k.ensures.0 c.cell_for-p.ensures c.in-Some.ensures.0) (omega (arith, c.in-Some.ensures.1)), omega (arith, able_inside _ _ _ _ _ _ c.requires))

pub overflow_sub-others : goal.overflow_sub-others
overflow_sub-others t c =
    let w = in_way (seating c.requires c.cells-k.ensures.0 c.cell_for-p.ensures c.in-Some.ensures.0) (omega (arith, c.in-Some.ensures.1)) c.zone_first-first.ensures.0 c.cells.ensures.0 c.zone_count-others.ensures.0 c.if-end-first.false in
    omega (arith, c.zone_count-others.ensures.0, some_there _ _ _ _ _ _ _ _ _ _ _ _ w)

pub seat-requires : goal.seat-requires
seat-requires t c =
    let s = seating c.requires c.cells-k.ensures.0 c.cell_for-p.ensures c.in-Some.ensures.0 in (
      omega (arith, c.decreases, further_up _ _ _ _ _ _ _ _ _ s, next_under _ _ _ _ _ _ _ _ _ s (omega (arith, c.in-Some.ensures.1))),
      seat_again _ _ _ _ _ _ _ _ _ _ _ _ (in_way s (omega (arith, c.in-Some.ensures.1)) c.zone_first-first.ensures.0 c.cells.ensures.0 c.zone_count-others.ensures.0 c.if-end-first.false),
    )

pub returns-in_err-q : goal.returns-in_err-q
returns-in_err-q t c =
    let w = in_way (seating c.requires c.cells-k.ensures.0 c.cell_for-p.ensures c.in-Some.ensures.0) (omega (arith, c.in-Some.ensures.1)) c.zone_first-first.ensures.0 c.cells.ensures.0 c.zone_count-others.ensures.0 c.if-end-first.false in
    let a = seat_none _ _ _ _ _ _ _ _ _ _ _ _ w _ _ (record { room = c.seat.ensures.value; bytes = c.seat.ensures.home_after }) c.in_err-q.was in
    record { value = c.from_residual.ensures ∙ a.room; home_after = a.bytes }

pub move_block-requires : goal.move_block-requires
move_block-requires t c =
    let w = in_way (seating c.requires c.cells-k.ensures.0 c.cell_for-p.ensures c.in-Some.ensures.0) (omega (arith, c.in-Some.ensures.1)) c.zone_first-first.ensures.0 c.cells.ensures.0 c.zone_count-others.ensures.0 c.if-end-first.false in
    let m = seat_moves _ _ _ _ _ _ _ _ _ _ _ _ w _ _ (record { room = c.seat.ensures.value; bytes = c.seat.ensures.home_after }) _ c.in_ok-q.was in
    record { c_bound = (m.class, m.old, m.new); movable = m.movable }

pub set_zone-requires : goal.set_zone-requires
set_zone-requires t c =
    let w = in_way (seating c.requires c.cells-k.ensures.0 c.cell_for-p.ensures c.in-Some.ensures.0) (omega (arith, c.in-Some.ensures.1)) c.zone_first-first.ensures.0 c.cells.ensures.0 c.zone_count-others.ensures.0 c.if-end-first.false in
    let m = seat_moves _ _ _ _ _ _ _ _ _ _ _ _ w _ _ (record { room = c.seat.ensures.value; bytes = c.seat.ensures.home_after }) _ c.in_ok-q.was in
    (omega (arith, m.old), m.class)

pub returns : goal.returns
returns t c =
    let w = in_way (seating c.requires c.cells-k.ensures.0 c.cell_for-p.ensures c.in-Some.ensures.0) (omega (arith, c.in-Some.ensures.1)) c.zone_first-first.ensures.0 c.cells.ensures.0 c.zone_count-others.ensures.0 c.if-end-first.false in
    let a = seat_done _ _ _ _ _ _ _ _ _ _ _ _ w _ _ (record { room = c.seat.ensures.value; bytes = c.seat.ensures.home_after }) _ c.in_ok-q.was _ _ _ c.move_block.ensures c.first_with.ensures c.set_zone.ensures in
    record { value = a.room; home_after = a.bytes }
