-- A zone moved as it is to another cell: what it needs, and the bytes afterwards.
use Rattle.std.specs.Prelude.{◌≡◌, ◌≢◌, List, ◌∷◌, ◌++◌, ℕ, suc, ◌≤◌, ◌<◌, take, drop}
use Rattle.layout.specs.Zones.{Zone, based}
use Rattle.home.specs.Bytes.{encode, decode, first_at, many_at}
use Rattle.home.specs.Sound.{pages_of}
use Rattle.home.specs.Layout.{Loose}
use Rattle.moves.specs.Close.{zone_of}

-- zone c from cell `to` on
abbrev pub rebased : List Zone → ℕ → ℕ → List Zone
rebased zs c to = take c zs ++ based to (zone_of zs c) ∷ drop (suc c) zs

-- the bytes of a layout zs that is valid but for its gaps, and so it is with zone c there
pub record Slides (step R : ℕ) (h : List ℕ) (zs : List Zone) (c to : ℕ) : Type 0 where
  pub pages : R ≤ 1024
  pub bytes : h ≡ encode step R zs
  pub loose : Loose step R zs
  pub class : c < 30
  pub next : Loose step R (rebased zs c to)

-- home's bytes with it there
unfoldable pub slid : ℕ → ℕ → List Zone → ℕ → ℕ → List ℕ
slid step R zs c to = encode step R (rebased zs c to)

-- zone c has n blocks, the first one at cell f
pub record Going (step : ℕ) (h : List ℕ) (c f to n : ℕ) : Type 0 where
  pub slides : Slides step (pages_of h) h (decode h) c to
  pub first : f ≡ first_at h c
  pub many : n ≡ many_at h c
  pub some : n ≢ 0
