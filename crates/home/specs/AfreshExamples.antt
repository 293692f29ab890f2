-- Lists that change class where placing finds no room: the cells worked out by an independent model.
use Rattle.std.specs.Prelude.{◌≡◌, refl, Bool, true, ◌&&◌, List, [], ◌∷◌, ℕ, zero, suc, replicate}
use Rattle.std.proofs.Math.Option.{Option, none, some}
use Rattle.wire.specs.Bytes.{equal}
use Rattle.records.specs.declared.Record.{Record}
use Rattle.layout.specs.Capacities.{cells, class_of}
use Rattle.layout.specs.Zones.{Zone, empty, blocks, has_tag, find, rewritten, place, take_out, settle, change as change_by}
use Rattle.home.specs.Layout.{change}
use Rattle.home.specs.Bytes.{Entry, dictionary}

-- so many records, of seconds s, s + 1, ..
many : ℕ → ℕ → List Record
many s zero = []
many s (suc n) = record { level = 0; second = s; phone = 0; minutes = 0 } ∷ many (suc s) n

-- a tag, the number of its records then, and each tag with its cell; no tags for a refusal
record Row : Type 0 where
  tag : ℕ
  records : ℕ
  after : List ℕ

seen : List Entry → List ℕ
seen [] = []
seen (x ∷ xs) = x.tag ∷ x.cell ∷ seen xs

shown : (step : ℕ) → Option (List Zone) → List ℕ
unfolding seen dictionary
shown step none = []
shown step (some zs) = seen (dictionary step zs)

left : List Zone → Option (List Zone) → List Zone
left zs none = zs
left zs (some zs') = zs'

-- do the lists, given one after another in an area of so many cells, lie as the rows say
follow : (step : ℕ) → ℕ → List Zone → List Row → Bool
unfolding many shown left equal
follow step n zs [] = true
follow step n zs (r ∷ rs) =
    let o : Option (List Zone) = change step n r.tag (many 1 r.records) zs in
    equal (shown step o) r.after && follow step n (left zs o) rs

-- R = 2: behind 9, which lies at 6, there is no room for 7 cells, so that 9 is laid at 0 and 11 behind it. Then 2 cells are left.
gaps : List Row
gaps =
    record { tag = 7; records = 1; after = 7 ∷ 0 ∷ [] } ∷
    record { tag = 9; records = 6; after = 7 ∷ 0 ∷ 9 ∷ 5 ∷ [] } ∷
    record { tag = 7; records = 0; after = 9 ∷ 5 ∷ [] } ∷
    record { tag = 11; records = 1; after = 9 ∷ 5 ∷ 11 ∷ 0 ∷ [] } ∷
    record { tag = 11; records = 5; after = 9 ∷ 6 ∷ 11 ∷ 0 ∷ [] } ∷
    record { tag = 11; records = 6; after = 9 ∷ 0 ∷ 11 ∷ 7 ∷ [] } ∷
    record { tag = 13; records = 1; after = [] } ∷
    []

gaps_hold : follow 0 16 (replicate 30 empty) gaps ≡ true
unfolding follow change_by settle place take_out rewritten has_tag find blocks cells class_of gaps
gaps_hold = refl

-- R = 3: "the order they had just before the placing" is that after the take-out. 3 has filled the place of 1, so that it lies before 2.
order : List Row
order =
    record { tag = 1; records = 1; after = 1 ∷ 0 ∷ [] } ∷
    record { tag = 2; records = 1; after = 1 ∷ 0 ∷ 2 ∷ 5 ∷ [] } ∷
    record { tag = 3; records = 1; after = 1 ∷ 0 ∷ 2 ∷ 5 ∷ 3 ∷ 10 ∷ [] } ∷
    record { tag = 4; records = 5; after = 1 ∷ 0 ∷ 2 ∷ 5 ∷ 3 ∷ 10 ∷ 4 ∷ 15 ∷ [] } ∷
    record { tag = 1; records = 5; after = 1 ∷ 16 ∷ 2 ∷ 5 ∷ 3 ∷ 0 ∷ 4 ∷ 10 ∷ [] } ∷
    []

order_holds : follow 0 24 (replicate 30 empty) order ≡ true
unfolding follow change_by settle place take_out rewritten has_tag find blocks cells class_of order
order_holds = refl

-- R = 3: placing 3 at cell 0 would lift 1 off, for which there is no room behind 2. It does not stay lifted: 1 lies before 2 as it did.
lifted : List Row
lifted =
    record { tag = 1; records = 7; after = 1 ∷ 0 ∷ [] } ∷
    record { tag = 2; records = 6; after = 1 ∷ 7 ∷ 2 ∷ 0 ∷ [] } ∷
    record { tag = 2; records = 7; after = 1 ∷ 0 ∷ 2 ∷ 9 ∷ [] } ∷
    record { tag = 3; records = 1; after = 1 ∷ 5 ∷ 2 ∷ 14 ∷ 3 ∷ 0 ∷ [] } ∷
    []

lifted_holds : follow 0 24 (replicate 30 empty) lifted ≡ true
unfolding follow change_by settle place take_out rewritten has_tag find blocks cells class_of lifted
lifted_holds = refl
