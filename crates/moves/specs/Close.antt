-- Gaps closed from zone c up: the bytes afterwards.
use Rattle.std.specs.Prelude.{◌≡◌, List, ◌∷◌, ◌++◌, ℕ, suc, ◌≤◌, take, drop, get_or}
use Rattle.layout.specs.Capacities.{cells}
use Rattle.layout.specs.Zones.{Zone, empty, from, lowered, end_of, close}
use Rattle.home.specs.Bytes.{encode}
use Rattle.home.specs.Layout.{Loose}
use Rattle.moves.specs.Stored.{end_after}

-- zone c as low as it goes above e
unfoldable pub lowest : ℕ → ℕ → ℕ → Zone → Zone
unfolding lowered
lowest step c e empty = empty
lowest step c e (from f x xs) = lowered (cells step) f c e f x xs

abbrev pub zone_of : List Zone → ℕ → Zone
zone_of zs c = get_or zs c empty

-- home with zone c as low as it goes, and where that zone ends then
unfoldable pub low_bytes : ℕ → ℕ → List Zone → ℕ → ℕ → List ℕ
unfolding lowest
low_bytes step R zs c e = encode step R (take c zs ++ lowest step c e (zone_of zs c) ∷ drop (suc c) zs)

unfoldable pub low_end : ℕ → List Zone → ℕ → ℕ → ℕ
unfolding lowest end_of
low_end step zs c e = end_of (cells step) c e (lowest step c e (zone_of zs c))

-- home with all gaps closed from zone c up
unfoldable pub closed_bytes : ℕ → ℕ → List Zone → ℕ → ℕ → List ℕ
closed_bytes step R zs c e = encode step R (take c zs ++ close (cells step) c e (drop c zs))

-- the bytes of a layout zs that is valid but for its gaps, whose zones below c end at e
pub record Open (step R : ℕ) (h : List ℕ) (zs : List Zone) (c e : ℕ) : Type 0 where
  pub pages : R ≤ 1024
  pub bytes : h ≡ encode step R zs
  pub loose : Loose step R zs
  pub class : c ≤ 30
  pub end : end_after step 0 0 (take c zs) ≡ e
