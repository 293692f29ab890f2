-- All zones laid out afresh: what it needs, and the layouts on the way.
use Rattle.std.proofs.Math.Option.{Option}
use Rattle.std.specs.Prelude.{List, ◌++◌, ℕ, ◌+◌, ◌*◌, ◌/◌, ◌≤◌, length, take, drop}
use Rattle.layout.specs.Capacities.{cells, class_of}
use Rattle.layout.specs.Zones.{Zone, total, afresh, lay_afresh, settle}
use Rattle.home.specs.Bytes.{step_of, decode}
use Rattle.home.specs.Sound.{pages_of}
use Rattle.moves.specs.Stored.{end_after, Stored}
use Rattle.zones.specs.Place.{block_in}

-- the zones below class c without gaps from cell 0 on
abbrev pub lower_laid : ℕ → List Zone → ℕ → List Zone
lower_laid step zs c = afresh (cells step) 0 0 (take c zs) ++ drop c zs

-- zones c and up without gaps from cell e on
abbrev pub higher_laid : ℕ → List Zone → ℕ → ℕ → List Zone
higher_laid step zs c e = take c zs ++ afresh (cells step) c e (drop c zs)

-- the lower zones end at e or below, and the others fit from there on
pub record Layable (step : ℕ) (h : List ℕ) (c e : ℕ) : Type 0 where
  pub stored : Stored step h
  pub class : c ≤ 30
  pub low : end_after step 0 0 (take c (decode h)) ≤ e
  pub room : e + total (cells step) c (drop c (decode h)) ≤ 8 * pages_of h

-- the layout with tag t's block laid out afresh, and settled
abbrev pub laid_in : List ℕ → ℕ → List ℕ → Option (List Zone)
laid_in h t bs = lay_afresh (cells (step_of h)) (8 * pages_of h) (class_of (step_of h) (length bs / 8)) (block_in t bs) (decode h)

abbrev pub settled_in : List ℕ → ℕ → List ℕ → Option (List Zone)
settled_in h t bs = settle (cells (step_of h)) (8 * pages_of h) (class_of (step_of h) (length bs / 8)) (block_in t bs) (decode h)
