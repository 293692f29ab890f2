-- "With code 1 classes from 14 up are always empty": so are their zones in a sound home.
use Rattle.std.specs.Prelude.{◌≡◌, refl, true, List, [], ◌∷◌, ℕ, zero, suc, ◌+◌, ◌*◌, ◌≤◌, ◌<◌, length, get_or}
use Rattle.std.proofs.Common.{subst, arith}
use Rattle.wire.specs.All.{all_head}
use Rattle.layout.specs.Capacities.{cells}
use Rattle.layout.specs.CapacitiesLaws.{cells_most, class_coarse}
use Rattle.layout.specs.Zones.{Zone, empty, from}
use Rattle.home.specs.Layout.{Laid}
use Rattle.home.specs.Bytes.{step_of, decode, first_at, many_at}
use Rattle.home.specs.Sound.{pages_of, sound}
use Rattle.home.specs.HomeLaws.{Entries}
use Rattle.home.specs.EncodeLaws.{entries_loose}
use Rattle.home.specs.SoundLaws.{encode-decode, sound-small, sound-valid, sound_loose}

-- the i-th of these zones, of which the first has class c
coarse_zone : (area c e i : ℕ) (zs : List Zone) → Laid 1 area c e zs → 14 ≤ c + i → get_or zs i empty ≡ empty
coarse_zone area c e i [] l g = refl
coarse_zone area c e zero (empty ∷ zs) l g = refl
coarse_zone area c e (suc i) (empty ∷ zs) l g = coarse_zone area (suc c) e i zs l (omega arith)
coarse_zone area c e zero (from f x xs ∷ zs) l g =
    let s = all_head l.0.sit in
    absurd (omega (arith, s.class, class_coarse (length x.list) (omega (arith, s.room, cells_most 1 c))))
coarse_zone area c e (suc i) (from f x xs ∷ zs) l g = coarse_zone area (suc c) (f + suc (length xs) * cells 1 c) i zs l.1 (omega arith)

-- an empty zone's entry
empty_entry : (h : List ℕ) (c i k : ℕ) (zs : List Zone) → k ≡ c + i → Entries h c zs → i < length zs → get_or zs i empty ≡ empty → (first_at h k ≡ 0) × (many_at h k ≡ 0)
empty_entry h c i k [] q d g e = absurd (omega arith)
empty_entry h c zero k (empty ∷ zs) q d g e = let p : k ≡ c = omega arith in rw p (d.0, d.1)
empty_entry h c zero k (from f x xs ∷ zs) q d g e = cc
empty_entry h c (suc i) k (empty ∷ zs) q d g e = empty_entry h (suc c) i k zs (omega arith) d.2 (omega arith) e
empty_entry h c (suc i) k (from f x xs ∷ zs) q d g e = empty_entry h (suc c) i k zs (omega arith) d.2 (omega arith) e

pub coarse_empty : (h : List ℕ) → sound h ≡ true → step_of h ≡ 1 → (c : ℕ) → 14 ≤ c → c < 30 → (first_at h c ≡ 0) × (many_at h c ≡ 0)
coarse_empty h s z c g b =
    let v = sound-valid h s in
    let d : Entries h 0 (decode h) = subst (λ (x : List ℕ). Entries x 0 (decode h)) (encode-decode h s) (entries_loose (step_of h) (pages_of h) (sound-small h s) (decode h) (sound_loose h s)) in
    empty_entry h 0 c c (decode h) (omega arith) d (omega (arith, v.classes)) (coarse_zone (8 * pages_of h) 0 0 c (decode h) (subst (λ (k : ℕ). Laid k (8 * pages_of h) 0 0 (decode h)) z v.laid) (omega arith))
