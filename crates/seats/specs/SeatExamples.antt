-- Ends carried along, next zones and cells, worked out on a zone table: zone 1 has one block at cell 0, zone 2 one at cell 6, zone 5 two at cell 20.
use Rattle.std.specs.Prelude.{◌≡◌, refl, List, [], ◌∷◌, ◌++◌, ℕ}
use Rattle.wire.specs.Bytes.{get16}
use Rattle.layout.specs.Capacities.{cells}
use Rattle.seats.specs.Seat.{cell_for, first_with, end_from, next_zone}

-- home's bytes up to there, with these in the entry of class 0; what is not there reads as zero
home : List ℕ → List ℕ
home low = 0 ∷ 4 ∷ (low ++ (0 ∷ 0 ∷ 0 ∷ 1 ∷ 0 ∷ 6 ∷ 0 ∷ 1 ∷ 0 ∷ 0 ∷ 0 ∷ 0 ∷ 0 ∷ 0 ∷ 0 ∷ 0 ∷ 0 ∷ 20 ∷ 0 ∷ 2 ∷ []))

none_lower : List ℕ
none_lower = 0 ∷ 0 ∷ 0 ∷ 0 ∷ []

spoiled : List ℕ
spoiled = 255 ∷ 254 ∷ 253 ∷ 252 ∷ []

-- ---- ends: with step code 0 blocks of classes 0, 1, 2 and 5 have 5, 6, 7 and 13 cells

-- class 0 is empty, so the end stays 0; zone 1 ends at 6, zone 2 at 13, which zones 3 and 4 leave; zone 5 ends at 46
ends : (end_from 0 1 (home none_lower) 0 0 ≡ 0) × (end_from 0 2 (home none_lower) 0 0 ≡ 6) × (end_from 0 3 (home none_lower) 0 0 ≡ 13)
    × (end_from 0 5 (home none_lower) 0 0 ≡ 13) × (end_from 0 30 (home none_lower) 0 0 ≡ 46)
unfolding home none_lower end_from get16 cells
ends = (refl, refl, refl, refl, refl)

-- from class 1 up the entry of class 0 is not read
ends_unseen : (end_from 0 0 (home spoiled) 1 0 ≡ 0) × (end_from 0 4 (home spoiled) 1 0 ≡ 13)
unfolding home spoiled end_from get16 cells
ends_unseen = (refl, refl)

-- ---- the next nonempty zone

next : (next_zone 30 (home none_lower) 0 ≡ 1) × (next_zone 29 (home spoiled) 1 ≡ 1) × (next_zone 27 (home spoiled) 3 ≡ 5) × (next_zone 24 (home spoiled) 6 ≡ 30)
unfolding home none_lower spoiled next_zone get16
next = (refl, refl, refl, refl)

-- ---- cells

-- a block of class 5 that is lifted off goes behind the other one, and its zone starts one block later; an only one goes to the lower zones' end
lifted : (cell_for 25 33 1 13 ≡ 46) × (first_with 1 33 46 ≡ 33) × (cell_for 25 33 0 13 ≡ 25) × (first_with 0 33 25 ≡ 25)
unfolding cell_for first_with
lifted = (refl, refl, refl, refl)
