-- Tags of 16 buildings: together, lacking and the reserve, and what a put of one more is refused with. Numbers worked out by an independent model.
use Rattle.std.specs.Prelude.{◌≡◌, refl, List, [], ◌∷◌, ◌++◌, map, ℕ, suc, ◌+◌, ◌*◌, length, replicate}
use Rattle.std.proofs.Math.Option.{Option, none, some}
use Rattle.refusals.specs.declared.Refusal.{Refusal}
use Rattle.refusals.specs.declared.Refusal.TheVariants.{ListFull, TagsFull, NoRoom, BuildingFull}
use Rattle.refusals.specs.Rules.{first, refusal}
use Rattle.records.specs.declared.Record.{Record}
use Rattle.records.specs.Records.{tally, key, look, insert}
use Rattle.layout.specs.Capacities.{cells, class_of}
use Rattle.layout.specs.Zones.{Zone, empty, zone, blocks, has_tag, find, total}
use Rattle.layout.specs.Sizes.{block_size, total_after}
use Rattle.layout.specs.Perm.{sum}
use Rattle.layout.specs.Buildings.{up_to, owned, lack, reserve, building_full}
use Rattle.layout.specs.Edits.{put}

-- so many tags of building b, of the next one, and so on
tags_from : ℕ → List ℕ → List ℕ
tags_from b [] = []
tags_from b (n ∷ ns) = map (λ (i : ℕ). b * 268435456 + i) (up_to n) ++ tags_from (suc b) ns

counts : List ℕ → List ℕ
counts ns = let ts : List ℕ = tags_from 0 ns in length ts ∷ lack ts ∷ reserve ts ∷ []

call : ℕ → Record
call n = record { level = 0; second = 0; phone = n; minutes = 0 }

-- one call for each tag, in blocks of class 0 from cell 0 on
layout_of : List ℕ → List Zone
layout_of ts = zone 0 (map (λ (t : ℕ). record { tag = t; list = call 0 ∷ [] }) ts) ∷ replicate 29 empty

-- a call of phone 1 put to a tag in an area of so many cells
told : ℕ → List ℕ → ℕ → Option Refusal
told area ns t = refusal (put (cells 0) (class_of 0) area 989 ListFull t (call 1) (layout_of (tags_from 0 ns))).rules

-- a new tag of building 0, of building 1 and of the last
new : List ℕ → List (Option Refusal)
new ns = map (told 1360 ns) (1000 ∷ 268436456 ∷ 4026532840 ∷ [])

-- the 15 without a tag lack 120
one-building : (counts (136 ∷ []) ≡ 136 ∷ 120 ∷ 256 ∷ []) × (new (136 ∷ []) ≡ some BuildingFull ∷ none ∷ none ∷ [])
unfolding counts new told layout_of call tags_from up_to owned lack reserve building_full sum tally put first find has_tag look key blocks insert total_after total block_size zone cells class_of
one-building = (refl, refl)

one_fewer : (counts (135 ∷ []) ≡ 135 ∷ 120 ∷ 255 ∷ []) × (new (135 ∷ []) ≡ none ∷ none ∷ none ∷ [])
unfolding counts new told layout_of call tags_from up_to owned lack reserve building_full sum tally put first find has_tag look key blocks insert total_after total block_size zone cells class_of
one_fewer = (refl, refl)

-- "Each is sure of 8 tags": where one has all that the others are not sure of, those with 7 may add their eighth, and with 8 none
sevens : (counts (136 ∷ replicate 15 7) ≡ 241 ∷ 15 ∷ 256 ∷ []) × (new (136 ∷ replicate 15 7) ≡ some BuildingFull ∷ none ∷ none ∷ [])
unfolding counts new told layout_of call tags_from up_to owned lack reserve building_full sum tally put first find has_tag look key blocks insert total_after total block_size zone cells class_of
sevens = (refl, refl)

eights : (counts (136 ∷ replicate 15 8) ≡ 256 ∷ 0 ∷ 256 ∷ []) × (new (136 ∷ replicate 15 8) ≡ some BuildingFull ∷ some BuildingFull ∷ some BuildingFull ∷ [])
unfolding counts new told layout_of call tags_from up_to owned lack reserve building_full sum tally put first find has_tag look key blocks insert total_after total block_size zone cells class_of
eights = (refl, refl)

one_left : (counts (135 ∷ replicate 15 8) ≡ 255 ∷ 0 ∷ 255 ∷ []) × (new (135 ∷ replicate 15 8) ≡ none ∷ none ∷ none ∷ [])
unfolding counts new told layout_of call tags_from up_to owned lack reserve building_full sum tally put first find has_tag look key blocks insert total_after total block_size zone cells class_of
one_left = (refl, refl)

all_alike : (counts (replicate 16 16) ≡ 256 ∷ 0 ∷ 256 ∷ []) × (new (replicate 16 16) ≡ some BuildingFull ∷ some BuildingFull ∷ some BuildingFull ∷ [])
unfolding counts new told layout_of call tags_from up_to owned lack reserve building_full sum tally put first find has_tag look key blocks insert total_after total block_size zone cells class_of
all_alike = (refl, refl)

-- "Older images may already break the reserve ..; there 11 can still occur"
older : (counts (256 ∷ []) ≡ 256 ∷ 120 ∷ 376 ∷ []) × (new (256 ∷ []) ≡ some BuildingFull ∷ some TagsFull ∷ some TagsFull ∷ [])
unfolding counts new told layout_of call tags_from up_to owned lack reserve building_full sum tally put first find has_tag look key blocks insert total_after total block_size zone cells class_of
older = (refl, refl)

older_seven : (counts (248 ∷ 7 ∷ []) ≡ 255 ∷ 113 ∷ 368 ∷ []) × (new (248 ∷ 7 ∷ []) ≡ some BuildingFull ∷ none ∷ none ∷ [])
unfolding counts new told layout_of call tags_from up_to owned lack reserve building_full sum tally put first find has_tag look key blocks insert total_after total block_size zone cells class_of
older_seven = (refl, refl)

bare : (counts [] ≡ 0 ∷ 128 ∷ 128 ∷ []) × (new [] ≡ none ∷ none ∷ none ∷ [])
unfolding counts new told layout_of call tags_from up_to owned lack reserve building_full sum tally put first find has_tag look key blocks insert total_after total block_size zone cells class_of
bare = (refl, refl)

-- "after 10 and before 11", and so before 12: in an area that 136 blocks fill. A listed tag has room in its block
full_area : map (told 680 (136 ∷ [])) (1000 ∷ 268436456 ∷ 7 ∷ []) ≡ some BuildingFull ∷ some NoRoom ∷ none ∷ []
unfolding counts new told layout_of call tags_from up_to owned lack reserve building_full sum tally put first find has_tag look key blocks insert total_after total block_size zone cells class_of
full_area = refl
