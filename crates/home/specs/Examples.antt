-- Bench cases 1 to 7 of the specification, and edits worked out by an independent model, as tables that the checker computes.
use Rattle.refusals.specs.declared.Refusal.TheVariants.{Listed, Unknown, ListFull, NoRoom}
use Rattle.std.specs.Prelude.{◌≡◌, refl, Bool, true, false, not, ◌&&◌, List, [], ◌∷◌, ◌++◌, ℕ, length, set, replicate, Ok, Err}
use Rattle.std.proofs.Math.Option.{get_or}
use Rattle.wire.specs.Bytes.{part, blank, equal}
use Rattle.records.specs.declared.Record.{Record}
use Rattle.records.specs.Records.{key, look, insert, remove, amend, bytes_of, rising_from, record_at}
use Rattle.layout.specs.Capacities.{capacity, cells, class_of}
use Rattle.layout.specs.Zones.{Zone, empty, blocks, has_tag, find, rewritten, place, take_out, settle, change}
use Rattle.layout.specs.Sizes.{total_after}
use Rattle.layout.specs.Buildings.{building_full}
use Rattle.home.specs.Bytes.{Entry, dictionary, encode, decode, zones_from}
use Rattle.layout.specs.Valid.{valid}
use Rattle.home.specs.Sound.{sound}
use Rattle.refusals.specs.Rules.{Answer, number_of, first}
use Rattle.home.specs.Layout.{put}
use Rattle.layout.specs.Edits.{Edit, put as put_by, delete, set_minutes, drop_tag}

-- an edit: its tag, and the record with minutes or the key's three numbers
data Asked : Type 0 where
  putting : ℕ → ℕ → ℕ → ℕ → ℕ → Asked
  deleting : ℕ → ℕ → ℕ → ℕ → Asked
  setting : ℕ → ℕ → ℕ → ℕ → ℕ → Asked
  dropping : ℕ → Asked

-- a tag, its block's first cell, its class and its record count
data Shown : Type 0 where
  at : ℕ → ℕ → ℕ → ℕ → Shown

record Row : Type 0 where
  edit : Asked
  answer : Answer
  after : List Shown

of : ℕ → ℕ → ℕ → ℕ → Record
of l s p m = record { level = l; second = s; phone = p; minutes = m }

tag_of : Asked → ℕ
tag_of (putting t l s p m) = t
tag_of (deleting t l s p) = t
tag_of (setting t l s p m) = t
tag_of (dropping t) = t

made : (step : ℕ) → ℕ → Asked → List Zone → Edit
unfolding of put_by delete set_minutes drop_tag key
made step n (putting t l s p m) zs = put step n 989 ListFull t (of l s p m) zs
made step n (deleting t l s p) zs = delete t (key (of l s p 0)) zs
made step n (setting t l s p m) zs = set_minutes t (key (of l s p 0)) m zs
made step n (dropping t) zs = drop_tag t zs

-- what an edit answers, and the layout after it
answer : Edit → Answer
unfolding first
answer e = first Err e.rules (Ok (length e.list))

layout : (step : ℕ) → ℕ → Asked → List Zone → List Zone
unfolding made tag_of first
layout step n a zs = first (λ r. zs) (made step n a zs).rules (get_or (change (cells step) (class_of step) n (tag_of a) (made step n a zs).list zs) zs)

-- answers and what is shown, as numbers
answered : Answer → List ℕ
answered (Ok n) = 0 ∷ n ∷ []
answered (Err r) = 1 ∷ number_of r ∷ []

shown : List Shown → List ℕ
shown [] = []
shown (at t p c n ∷ xs) = t ∷ p ∷ c ∷ n ∷ shown xs

seen : (step : ℕ) → List Zone → List Entry → List ℕ
unfolding find blocks class_of
seen step zs [] = []
seen step zs (x ∷ xs) =
    let n : ℕ = length (find x.tag (blocks zs)) in
    x.tag ∷ x.cell ∷ class_of step n ∷ n ∷ seen step zs xs

-- do the edits, one after another in an area of so many cells, answer and leave what the rows say
follow : (step : ℕ) → ℕ → List Zone → List Row → Bool
unfolding answer layout answered shown seen dictionary equal
follow step n zs [] = true
follow step n zs (r ∷ rs) =
    let zs' : List Zone = layout step n r.edit zs in
    equal (answered (answer (made step n r.edit zs)) ++ seen step zs' (dictionary step zs')) (answered r.answer ++ shown r.after) && follow step n zs' rs

-- "Bench cases", R = 2
bench : List Row
bench =
    -- case 1
    record { edit = putting 7 0 1 0 0; answer = Ok 1; after = at 7 0 0 1 ∷ [] } ∷
    record { edit = putting 9 0 1 0 0; answer = Ok 1; after = at 7 0 0 1 ∷ at 9 5 0 1 ∷ [] } ∷
    -- case 2
    record { edit = putting 7 0 2 0 0; answer = Ok 2; after = at 7 0 0 2 ∷ at 9 5 0 1 ∷ [] } ∷
    record { edit = putting 7 0 3 0 0; answer = Ok 3; after = at 7 0 0 3 ∷ at 9 5 0 1 ∷ [] } ∷
    record { edit = putting 7 0 4 0 0; answer = Ok 4; after = at 7 0 0 4 ∷ at 9 5 0 1 ∷ [] } ∷
    record { edit = putting 7 0 5 0 0; answer = Ok 5; after = at 7 5 1 5 ∷ at 9 0 0 1 ∷ [] } ∷
    -- case 3
    record { edit = putting 11 0 1 0 0; answer = Ok 1; after = at 7 10 1 5 ∷ at 9 0 0 1 ∷ at 11 5 0 1 ∷ [] } ∷
    -- case 4
    record { edit = putting 13 0 1 0 0; answer = Err NoRoom; after = at 7 10 1 5 ∷ at 9 0 0 1 ∷ at 11 5 0 1 ∷ [] } ∷
    -- case 5
    record { edit = deleting 7 0 3 0; answer = Ok 4; after = at 7 10 0 4 ∷ at 9 0 0 1 ∷ at 11 5 0 1 ∷ [] } ∷
    record { edit = putting 13 0 1 0 0; answer = Err NoRoom; after = at 7 10 0 4 ∷ at 9 0 0 1 ∷ at 11 5 0 1 ∷ [] } ∷
    -- case 6
    record { edit = dropping 9; answer = Ok 0; after = at 7 0 0 4 ∷ at 11 5 0 1 ∷ [] } ∷
    record { edit = putting 13 0 1 0 0; answer = Ok 1; after = at 7 0 0 4 ∷ at 11 5 0 1 ∷ at 13 10 0 1 ∷ [] } ∷
    -- case 7, after four puts that bring tag 13 to class 1
    record { edit = putting 13 0 2 0 0; answer = Ok 2; after = at 7 0 0 4 ∷ at 11 5 0 1 ∷ at 13 10 0 2 ∷ [] } ∷
    record { edit = putting 13 0 3 0 0; answer = Ok 3; after = at 7 0 0 4 ∷ at 11 5 0 1 ∷ at 13 10 0 3 ∷ [] } ∷
    record { edit = putting 13 0 4 0 0; answer = Ok 4; after = at 7 0 0 4 ∷ at 11 5 0 1 ∷ at 13 10 0 4 ∷ [] } ∷
    record { edit = putting 13 0 5 0 0; answer = Ok 5; after = at 7 0 0 4 ∷ at 11 5 0 1 ∷ at 13 10 1 5 ∷ [] } ∷
    record { edit = dropping 7; answer = Ok 0; after = at 11 0 0 1 ∷ at 13 10 1 5 ∷ [] } ∷
    record { edit = dropping 11; answer = Ok 0; after = at 13 4 1 5 ∷ [] } ∷
    []

bench_holds : follow 0 16 (replicate 30 empty) bench ≡ true
unfolding follow change settle place take_out rewritten has_tag look insert remove amend cells total_after building_full bench
bench_holds = refl

-- the same calls with step code 1: classes 0 and 1 have 5 and 8 cells, so that there is room for other blocks
outgrown : List Row
outgrown =
    -- case 1
    record { edit = putting 7 0 1 0 0; answer = Ok 1; after = at 7 0 0 1 ∷ [] } ∷
    record { edit = putting 9 0 1 0 0; answer = Ok 1; after = at 7 0 0 1 ∷ at 9 5 0 1 ∷ [] } ∷
    -- case 2
    record { edit = putting 7 0 2 0 0; answer = Ok 2; after = at 7 0 0 2 ∷ at 9 5 0 1 ∷ [] } ∷
    record { edit = putting 7 0 3 0 0; answer = Ok 3; after = at 7 0 0 3 ∷ at 9 5 0 1 ∷ [] } ∷
    record { edit = putting 7 0 4 0 0; answer = Ok 4; after = at 7 0 0 4 ∷ at 9 5 0 1 ∷ [] } ∷
    record { edit = putting 7 0 5 0 0; answer = Ok 5; after = at 7 5 1 5 ∷ at 9 0 0 1 ∷ [] } ∷
    -- case 3
    record { edit = putting 11 0 1 0 0; answer = Err NoRoom; after = at 7 5 1 5 ∷ at 9 0 0 1 ∷ [] } ∷
    []

bench_coarse : List Row
bench_coarse =
    outgrown
    ++ (
    -- case 4
    record { edit = putting 13 0 1 0 0; answer = Err NoRoom; after = at 7 5 1 5 ∷ at 9 0 0 1 ∷ [] } ∷
    -- case 5
    record { edit = deleting 7 0 3 0; answer = Ok 4; after = at 7 5 0 4 ∷ at 9 0 0 1 ∷ [] } ∷
    record { edit = putting 13 0 1 0 0; answer = Ok 1; after = at 7 5 0 4 ∷ at 9 0 0 1 ∷ at 13 10 0 1 ∷ [] } ∷
    -- case 6
    record { edit = dropping 9; answer = Ok 0; after = at 7 5 0 4 ∷ at 13 0 0 1 ∷ [] } ∷
    record { edit = putting 13 0 1 0 0; answer = Err Listed; after = at 7 5 0 4 ∷ at 13 0 0 1 ∷ [] } ∷
    -- case 7
    record { edit = putting 13 0 2 0 0; answer = Ok 2; after = at 7 5 0 4 ∷ at 13 0 0 2 ∷ [] } ∷
    record { edit = putting 13 0 3 0 0; answer = Ok 3; after = at 7 5 0 4 ∷ at 13 0 0 3 ∷ [] } ∷
    record { edit = putting 13 0 4 0 0; answer = Ok 4; after = at 7 5 0 4 ∷ at 13 0 0 4 ∷ [] } ∷
    record { edit = putting 13 0 5 0 0; answer = Ok 5; after = at 7 0 0 4 ∷ at 13 5 1 5 ∷ [] } ∷
    record { edit = dropping 7; answer = Ok 0; after = at 13 5 1 5 ∷ [] } ∷
    record { edit = dropping 11; answer = Err Unknown; after = at 13 5 1 5 ∷ [] } ∷
    [])

bench_coarse_holds : follow 1 16 (replicate 30 empty) bench_coarse ≡ true
unfolding follow change settle place take_out rewritten has_tag look insert remove amend cells total_after building_full outgrown bench_coarse
bench_coarse_holds = refl

-- and a list that grows on: its eighth record finds no room
grown : List Row
grown =
    outgrown
    ++ (
    record { edit = putting 7 0 6 0 0; answer = Ok 6; after = at 7 5 1 6 ∷ at 9 0 0 1 ∷ [] } ∷
    record { edit = putting 7 0 7 0 0; answer = Ok 7; after = at 7 5 1 7 ∷ at 9 0 0 1 ∷ [] } ∷
    record { edit = putting 7 0 8 0 0; answer = Err NoRoom; after = at 7 5 1 7 ∷ at 9 0 0 1 ∷ [] } ∷
    [])

grown_holds : follow 1 16 (replicate 30 empty) grown ≡ true
unfolding follow change settle place take_out rewritten has_tag look insert remove amend cells total_after building_full outgrown grown
grown_holds = refl

-- the layout after them
left : (step : ℕ) → ℕ → List Zone → List Row → List Zone
unfolding layout
left step n zs [] = zs
left step n zs (r ∷ rs) = left step n (layout step n r.edit zs) rs

-- a home with single bytes changed, and whether it is sound
record Poked : Type 0 where
  pokes : List (ℕ × ℕ)
  fine : Bool

poked : List ℕ → List (ℕ × ℕ) → List ℕ
poked h [] = h
poked h (p ∷ ps) = poked (set h p.0 p.1) ps

same : Bool → Bool → Bool
same true b = b
same false b = not b

-- does the definition say what the rows say
judged : List ℕ → List Poked → Bool
unfolding poked same sound
judged h [] = true
judged h (r ∷ rs) = same r.fine (sound (poked h r.pokes)) && judged h rs

-- the first edits that the model was given with R = 2
model : List Row
model =
    record { edit = setting 0 0 0 2 81; answer = Err Unknown; after = [] } ∷
    record { edit = deleting 11 0 2 2; answer = Err Unknown; after = [] } ∷
    record { edit = putting 0 0 0 0 23; answer = Ok 1; after = at 0 0 0 1 ∷ [] } ∷
    record { edit = deleting 0 1 1 2; answer = Err Unknown; after = at 0 0 0 1 ∷ [] } ∷
    record { edit = putting 4294967295 1 2 0 153; answer = Ok 1; after = at 0 0 0 1 ∷ at 4294967295 5 0 1 ∷ [] } ∷
    record { edit = putting 9 0 0 0 201; answer = Ok 1; after = at 0 0 0 1 ∷ at 9 10 0 1 ∷ at 4294967295 5 0 1 ∷ [] } ∷
    record { edit = putting 7 1 2 2 179; answer = Err NoRoom; after = at 0 0 0 1 ∷ at 9 10 0 1 ∷ at 4294967295 5 0 1 ∷ [] } ∷
    record { edit = dropping 11; answer = Err Unknown; after = at 0 0 0 1 ∷ at 9 10 0 1 ∷ at 4294967295 5 0 1 ∷ [] } ∷
    record { edit = putting 0 0 0 2 48; answer = Ok 2; after = at 0 0 0 2 ∷ at 9 10 0 1 ∷ at 4294967295 5 0 1 ∷ [] } ∷
    record { edit = deleting 4294967295 0 0 2; answer = Err Unknown; after = at 0 0 0 2 ∷ at 9 10 0 1 ∷ at 4294967295 5 0 1 ∷ [] } ∷
    record { edit = putting 0 0 0 0 185; answer = Err Listed; after = at 0 0 0 2 ∷ at 9 10 0 1 ∷ at 4294967295 5 0 1 ∷ [] } ∷
    record { edit = putting 9 0 2 0 240; answer = Ok 2; after = at 0 0 0 2 ∷ at 9 10 0 2 ∷ at 4294967295 5 0 1 ∷ [] } ∷
    record { edit = putting 9 0 0 0 209; answer = Err Listed; after = at 0 0 0 2 ∷ at 9 10 0 2 ∷ at 4294967295 5 0 1 ∷ [] } ∷
    record { edit = deleting 13 1 2 2; answer = Err Unknown; after = at 0 0 0 2 ∷ at 9 10 0 2 ∷ at 4294967295 5 0 1 ∷ [] } ∷
    record { edit = putting 0 0 0 2 100; answer = Err Listed; after = at 0 0 0 2 ∷ at 9 10 0 2 ∷ at 4294967295 5 0 1 ∷ [] } ∷
    record { edit = putting 9 1 1 0 115; answer = Ok 3; after = at 0 0 0 2 ∷ at 9 10 0 3 ∷ at 4294967295 5 0 1 ∷ [] } ∷
    record { edit = deleting 11 0 2 0; answer = Err Unknown; after = at 0 0 0 2 ∷ at 9 10 0 3 ∷ at 4294967295 5 0 1 ∷ [] } ∷
    record { edit = putting 0 0 2 0 75; answer = Ok 3; after = at 0 0 0 3 ∷ at 9 10 0 3 ∷ at 4294967295 5 0 1 ∷ [] } ∷
    record { edit = deleting 9 0 0 2; answer = Err Unknown; after = at 0 0 0 3 ∷ at 9 10 0 3 ∷ at 4294967295 5 0 1 ∷ [] } ∷
    record { edit = putting 0 0 0 2 23; answer = Err Listed; after = at 0 0 0 3 ∷ at 9 10 0 3 ∷ at 4294967295 5 0 1 ∷ [] } ∷
    record { edit = putting 11 1 0 2 90; answer = Err NoRoom; after = at 0 0 0 3 ∷ at 9 10 0 3 ∷ at 4294967295 5 0 1 ∷ [] } ∷
    record { edit = putting 13 1 2 0 162; answer = Err NoRoom; after = at 0 0 0 3 ∷ at 9 10 0 3 ∷ at 4294967295 5 0 1 ∷ [] } ∷
    record { edit = setting 9 1 1 0 59; answer = Ok 3; after = at 0 0 0 3 ∷ at 9 10 0 3 ∷ at 4294967295 5 0 1 ∷ [] } ∷
    record { edit = putting 9 0 0 0 99; answer = Err Listed; after = at 0 0 0 3 ∷ at 9 10 0 3 ∷ at 4294967295 5 0 1 ∷ [] } ∷
    record { edit = putting 0 1 2 1 3; answer = Ok 4; after = at 0 0 0 4 ∷ at 9 10 0 3 ∷ at 4294967295 5 0 1 ∷ [] } ∷
    record { edit = putting 13 0 0 1 253; answer = Err NoRoom; after = at 0 0 0 4 ∷ at 9 10 0 3 ∷ at 4294967295 5 0 1 ∷ [] } ∷
    record { edit = putting 7 0 1 2 222; answer = Err NoRoom; after = at 0 0 0 4 ∷ at 9 10 0 3 ∷ at 4294967295 5 0 1 ∷ [] } ∷
    record { edit = setting 13 1 2 0 213; answer = Err Unknown; after = at 0 0 0 4 ∷ at 9 10 0 3 ∷ at 4294967295 5 0 1 ∷ [] } ∷
    record { edit = setting 0 0 2 2 165; answer = Err Unknown; after = at 0 0 0 4 ∷ at 9 10 0 3 ∷ at 4294967295 5 0 1 ∷ [] } ∷
    record { edit = deleting 0 1 2 0; answer = Err Unknown; after = at 0 0 0 4 ∷ at 9 10 0 3 ∷ at 4294967295 5 0 1 ∷ [] } ∷
    record { edit = putting 0 1 0 2 166; answer = Ok 5; after = at 0 10 1 5 ∷ at 9 0 0 3 ∷ at 4294967295 5 0 1 ∷ [] } ∷
    record { edit = dropping 13; answer = Err Unknown; after = at 0 10 1 5 ∷ at 9 0 0 3 ∷ at 4294967295 5 0 1 ∷ [] } ∷
    record { edit = putting 4294967295 1 1 0 163; answer = Ok 2; after = at 0 10 1 5 ∷ at 9 0 0 3 ∷ at 4294967295 5 0 2 ∷ [] } ∷
    record { edit = putting 9 0 2 1 159; answer = Ok 4; after = at 0 10 1 5 ∷ at 9 0 0 4 ∷ at 4294967295 5 0 2 ∷ [] } ∷
    record { edit = putting 11 1 1 2 14; answer = Err NoRoom; after = at 0 10 1 5 ∷ at 9 0 0 4 ∷ at 4294967295 5 0 2 ∷ [] } ∷
    record { edit = deleting 13 1 1 2; answer = Err Unknown; after = at 0 10 1 5 ∷ at 9 0 0 4 ∷ at 4294967295 5 0 2 ∷ [] } ∷
    record { edit = dropping 7; answer = Err Unknown; after = at 0 10 1 5 ∷ at 9 0 0 4 ∷ at 4294967295 5 0 2 ∷ [] } ∷
    record { edit = setting 13 1 0 1 70; answer = Err Unknown; after = at 0 10 1 5 ∷ at 9 0 0 4 ∷ at 4294967295 5 0 2 ∷ [] } ∷
    record { edit = deleting 0 0 1 2; answer = Err Unknown; after = at 0 10 1 5 ∷ at 9 0 0 4 ∷ at 4294967295 5 0 2 ∷ [] } ∷
    record { edit = putting 0 1 2 1 13; answer = Err Listed; after = at 0 10 1 5 ∷ at 9 0 0 4 ∷ at 4294967295 5 0 2 ∷ [] } ∷
    record { edit = deleting 13 0 2 0; answer = Err Unknown; after = at 0 10 1 5 ∷ at 9 0 0 4 ∷ at 4294967295 5 0 2 ∷ [] } ∷
    record { edit = putting 11 1 1 2 213; answer = Err NoRoom; after = at 0 10 1 5 ∷ at 9 0 0 4 ∷ at 4294967295 5 0 2 ∷ [] } ∷
    record { edit = deleting 7 1 2 1; answer = Err Unknown; after = at 0 10 1 5 ∷ at 9 0 0 4 ∷ at 4294967295 5 0 2 ∷ [] } ∷
    record { edit = dropping 0; answer = Ok 0; after = at 9 0 0 4 ∷ at 4294967295 5 0 2 ∷ [] } ∷
    record { edit = putting 9 1 1 0 186; answer = Err Listed; after = at 9 0 0 4 ∷ at 4294967295 5 0 2 ∷ [] } ∷
    record { edit = putting 9 0 0 2 59; answer = Ok 5; after = at 9 5 1 5 ∷ at 4294967295 0 0 2 ∷ [] } ∷
    record { edit = setting 11 0 0 0 94; answer = Err Unknown; after = at 9 5 1 5 ∷ at 4294967295 0 0 2 ∷ [] } ∷
    record { edit = deleting 13 0 2 0; answer = Err Unknown; after = at 9 5 1 5 ∷ at 4294967295 0 0 2 ∷ [] } ∷
    record { edit = putting 9 0 1 1 193; answer = Ok 6; after = at 9 5 2 6 ∷ at 4294967295 0 0 2 ∷ [] } ∷
    record { edit = putting 11 1 0 1 147; answer = Err NoRoom; after = at 9 5 2 6 ∷ at 4294967295 0 0 2 ∷ [] } ∷
    []

model_holds : follow 0 16 (replicate 30 empty) model ≡ true
unfolding follow change settle place take_out rewritten has_tag look insert remove amend cells total_after building_full model
model_holds = refl

-- the home that the model was given to spoil
spoiled : List Row
spoiled =
    record { edit = putting 7 1 100 9 0; answer = Ok 1; after = at 7 0 0 1 ∷ [] } ∷
    record { edit = putting 7 1 100 3 4; answer = Ok 2; after = at 7 0 0 2 ∷ [] } ∷
    record { edit = putting 9 0 5 1 2; answer = Ok 1; after = at 7 0 0 2 ∷ at 9 5 0 1 ∷ [] } ∷
    record { edit = putting 0 0 5 1 2; answer = Ok 1; after = at 0 10 0 1 ∷ at 7 0 0 2 ∷ at 9 5 0 1 ∷ [] } ∷
    []

whole : List ℕ
unfolding encode left spoiled
whole = encode 0 2 (left 0 16 (replicate 30 empty) spoiled)

-- offsets and values from its home on
pokings : List Poked
pokings =
    record { pokes = (0, 1) ∷ []; fine = false } ∷
    record { pokes = (6, 1) ∷ []; fine = false } ∷
    record { pokes = (134, 5) ∷ []; fine = false } ∷
    record { pokes = (1670, 2) ∷ []; fine = false } ∷
    record { pokes = (1691, 165) ∷ []; fine = false } ∷
    record { pokes = (1757, 5) ∷ []; fine = true } ∷
    -- "With class 0 blocks only, home is sound with both codes"; no other code is
    record { pokes = (122, 1) ∷ []; fine = true } ∷
    record { pokes = (122, 2) ∷ []; fine = false } ∷
    record { pokes = (123, 1) ∷ []; fine = false } ∷
    record { pokes = (127, 1) ∷ []; fine = false } ∷
    []

model_judges : judged whole (record { pokes = []; fine = true } ∷ pokings) ≡ true
unfolding judged whole pokings change settle place take_out rewritten has_tag look insert remove amend cells total_after building_full sound valid equal decode zones_from encode bytes_of rising_from record_at class_of find blocks capacity part blank
model_judges = refl

-- a list of 7 records has class 1 by code 1 and class 3 by code 0: its home is sound with its own code alone
other : List ℕ
unfolding encode left outgrown grown
other = encode 1 2 (left 1 16 (replicate 30 empty) grown)

codes : List Poked
codes = record { pokes = []; fine = true } ∷ record { pokes = (122, 0) ∷ []; fine = false } ∷ []

codes_judged : judged other codes ≡ true
unfolding judged other codes change settle place take_out rewritten has_tag look insert remove amend cells total_after building_full sound valid equal decode zones_from encode bytes_of rising_from record_at class_of find blocks capacity part blank
codes_judged = refl
