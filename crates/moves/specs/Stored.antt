-- Layouts that are valid but for their gaps, and their bytes.
use Rattle.std.specs.Prelude.{◌≡◌, List, [], ◌∷◌, ℕ, suc, ◌≤◌}
use Rattle.std.proofs.Math.Option.{Option, none, some}
use Rattle.layout.specs.Capacities.{cells}
use Rattle.layout.specs.Zones.{Zone, end_of}
use Rattle.home.specs.Layout.{Loose}
use Rattle.home.specs.Bytes.{encode, decode}
use Rattle.home.specs.Sound.{pages_of}

-- the bytes of a layout that is valid but for its gaps
pub record Stored (step : ℕ) (h : List ℕ) : Type 0 where
  pub pages : pages_of h ≤ 1024
  pub bytes : h ≡ encode step (pages_of h) (decode h)
  pub loose : Loose step (pages_of h) (decode h)

-- where these zones end, of which the first has class c, if those below it end at e
unfoldable pub end_after : ℕ → ℕ → ℕ → List Zone → ℕ
unfolding end_of
end_after step c e [] = e
end_after step c e (z ∷ zs) = end_after step (suc c) (end_of (cells step) c e z) zs

-- a layout's bytes, or h where there is none
unfoldable pub settled : ℕ → ℕ → List ℕ → Option (List Zone) → List ℕ
settled step R h none = h
settled step R h (some zs) = encode step R zs
