-- A cell for a block, on home's bytes: of the zone table only the entries of its class and of higher ones are read and written.
use Rattle.std.specs.Prelude.{◌≢◌, Bool, List, ℕ, zero, suc, ◌+◌, ◌*◌, ◌-◌, ◌≤◌, ◌<◌, leb, eqb, length, Some, None}
use Rattle.std.specs.declared.option.Option.{Option as Maybe}
use Rattle.std.proofs.Math.Option.{Option, none, some, map}
use Rattle.wire.specs.Bytes.{pick}
use Rattle.layout.specs.Capacities.{cells}
use Rattle.home.specs.Bytes.{cell_at, first_at, many_at, end_at}
use Rattle.moves.specs.Moves.{Movable, zoned, moved}

-- "it goes to the end of zone c, or if that is empty to the end of the nearest lower nonempty zone, or to cell 0": a block of k cells, in a zone with n others
-- from cell f on, where the lower zones end at e
unfoldable pub cell_for : ℕ → ℕ → ℕ → ℕ → ℕ
cell_for e f n k = pick (eqb n 0) e (f + n * k)

-- the zone's first cell then, if p is that cell
unfoldable pub first_with : ℕ → ℕ → ℕ → ℕ
first_with n f p = pick (eqb n 0) p f

-- "the last nonempty end", carried along as m classes from c up "are passed"
unfoldable pub end_from : ℕ → ℕ → List ℕ → ℕ → ℕ → ℕ
unfolding end_at
end_from step zero h c e = e
end_from step (suc m) h c e = end_from step m h (suc c) (end_at step h c e)

-- ---- what is in the way

-- "the next higher nonempty zone", of m zones from c up, or the class behind them
unfoldable pub next_zone : ℕ → List ℕ → ℕ → ℕ
next_zone zero h c = c
next_zone (suc m) h c = pick (eqb (many_at h c) 0) (next_zone m h (suc c)) c

-- "d's first block is lifted off (nothing fills its place; zone d starts one block later)": zone c has it at cell f and n others, and it goes to cell q
unfoldable pub displaced : ℕ → List ℕ → ℕ → ℕ → ℕ → ℕ → List ℕ
unfolding moved zoned first_with
displaced step h c f n q = zoned (moved step h c f q) c (first_with n (f + cells step c) q) (n + 1)

-- the bytes once the lower zones may end at e, of m zones from c up. "If it fits before the next higher nonempty zone d (or the area's end), done. If not and no d
-- exists: no room." If not, "the lifted one is placed by the same rule".
unfoldable pub raised : ℕ → ℕ → List ℕ → ℕ → ℕ → Option (List ℕ)
unfolding cell_for displaced
raised step zero h c e = pick (leb (cell_at e) (length h)) (some h) none
raised step (suc m) h c e =
    let f : ℕ = first_at h c in
    let n : ℕ = many_at h c - 1 in
    let q : ℕ = cell_for e (f + cells step c) n (cells step c) in
    pick (eqb (many_at h c) 0) (raised step m h (suc c) e)
    (pick (leb e f) (some h) (map (λ (x : List ℕ). displaced step x c f n q) (raised step m h (suc c) (q + cells step c))))

-- at cell p, if there is room
unfoldable pub room_of : Bool → ℕ → Maybe ℕ
room_of b p = pick b (Some p) None

-- ---- what is asked of the bytes

-- m zones from c up lie one behind the other from cell e on, inside the bytes, and the first block of each can be found
abbrev pub Stacked : ℕ → ℕ → List ℕ → ℕ → ℕ → Type 0
Stacked step zero h c e = cell_at e ≤ length h
Stacked step (suc m) h c e = (many_at h c ≢ 0 → (e ≤ first_at h c) × Movable h (first_at h c)) × Stacked step m h (suc c) (end_at step h c e)

-- the bytes are no longer than a home of 1,024 pages, the zones above c lie so, and a block of class c goes to the end of its zone or before it
pub record Seatable (step : ℕ) (h : List ℕ) (c f n e : ℕ) : Type 0 where
  pub long : length h ≤ 67200
  pub class : c < 30
  pub above : Stacked step (29 - c) h (c + 1) (end_at step h c e)
  pub cell : cell_for e f n (cells step c) ≤ end_at step h c e

-- the bytes with room for it behind its cell
abbrev pub seated : ℕ → List ℕ → ℕ → ℕ → ℕ → ℕ → Option (List ℕ)
seated step h c f n e = raised step (29 - c) h (c + 1) (cell_for e f n (cells step c) + cells step c)
