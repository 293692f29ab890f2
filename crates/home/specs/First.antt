-- Soundness as it was before there were step codes: one table of sizes, and "Bytes 122–127 are zero".
use Rattle.std.specs.Prelude.{Bool, ◌&&◌, List, ◌++◌, ℕ, ◌*◌, length, replicate}
use Rattle.wire.specs.Bytes.{equal, bytes16}
use Rattle.layout.specs.Capacities.{cells, class_of}
use Rattle.layout.specs.Zones.{Zone, blocks}
use Rattle.layout.specs.Valid.{valid}
use Rattle.home.specs.Bytes.{area, zone_entries, dictionary, padded, zones_from}
use Rattle.home.specs.Sound.{pages_of, sized}

-- "Capacities by class: 4, 5, 6, .."
abbrev pub first_cells : ℕ → ℕ
first_cells = cells 0

abbrev pub first_class : ℕ → ℕ
first_class = class_of 0

-- a layout's bytes, and back
unfoldable pub first_bytes : ℕ → List Zone → List ℕ
first_bytes R zs = bytes16 (length (blocks zs)) ++ (zone_entries zs ++ (replicate 6 0 ++ (padded (dictionary 0 zs) ++ area 0 (8 * R) zs)))

unfoldable pub first_zones : List ℕ → List Zone
first_zones h = zones_from 0 h 0 30

-- "Home is sound if all this holds"
unfoldable pub first_sound : List ℕ → Bool
first_sound h = sized h && (valid first_cells first_class (8 * pages_of h) (first_zones h) && equal h (first_bytes (pages_of h) (first_zones h)))
