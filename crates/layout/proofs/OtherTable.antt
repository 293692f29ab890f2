-- A third, made-up table: what is known of moving blocks is cited for it as for the two of the step codes.
use Rattle.std.specs.Prelude.{◌≡◌, refl, true, List, [], ◌∷◌, ℕ, zero, suc, ◌+◌, ◌≤◌, ◌<◌, leb, length, replicate}
use Rattle.std.proofs.Math.Option.{Option, none, some, IsSome}
use Rattle.wire.specs.Bytes.{is_some}
use Rattle.records.specs.declared.Record.{Record}
use Rattle.layout.specs.Zones.{Block, Zone, empty, from, blocks, has_tag, find, rewritten, place, take_out, settle, change}
use Rattle.layout.specs.Valid.{Valid, Proper}
use Rattle.layout.specs.Sizes.{total_after}
use Rattle.layout.specs.Literal.{literal}
use Rattle.layout.specs.Cases.{Holds}
use Rattle.layout.specs.Rising.{Rising}
use Rattle.layout.specs.Classes.{cells_by, class_from, usable}
use Rattle.layout.specs.ClassesLaws.{usable-rising}
use Rattle.layout.specs.LiteralLaws.{literal-place}
use Rattle.layout.proofs.ChangeLaws.{Changed, Open, change-changed, shorter_some}
use Rattle.layout.proofs.ExactLaws.{change_exactly}

abbrev capacities : List ℕ
capacities = 2 ∷ 3 ∷ 5 ∷ 989 ∷ []

abbrev cells : ℕ → ℕ
cells = cells_by capacities

abbrev class_of : ℕ → ℕ
class_of = class_from 0 capacities

up : Rising cells class_of
unfolding usable
up = usable-rising capacities refl

-- ---- the laws

module _ (area t : ℕ) (zs : List Zone) (v : Valid cells class_of area zs) (small : t < 4294967296) where
  -- a changed list leaves a valid layout with that list and all others
  changes : (rs : List Record) → Proper rs → Open cells class_of up area t zs v small rs → Holds (Changed cells class_of t area rs zs) (change cells class_of area t rs zs)
  changes = change-changed cells class_of up area t zs v small

  -- there is room exactly if all blocks fit in the area, and always for a list that does not grow
  fits : (rs : List Record) → Proper rs → is_some (change cells class_of area t rs zs) ≡ leb (total_after cells class_of t rs zs) area
  fits = change_exactly cells class_of up area t zs v small

  shorter : (rs : List Record) → has_tag t (blocks zs) ≡ true → length rs ≤ length (find t (blocks zs)) → IsSome (change cells class_of area t rs zs)
  shorter = shorter_some cells class_of up area t zs v small

-- placing is as it is worded
worded : (k area c e n : ℕ) (b : Block) (zs : List Zone) → length zs < k + n → literal cells k area c e n b zs ≡ place cells area c e n b zs
worded = literal-place cells

-- ---- lists that grow, in an area of 16 cells: blocks of classes 0 to 3 have 3, 4, 6 and 990 cells

-- a tag's block with so many records
many : ℕ → ℕ → List Record
many s zero = []
many s (suc n) = record { level = 0; second = s; phone = 0; minutes = 0 } ∷ many (suc s) n

block : ℕ → ℕ → Block
block t n = record { tag = t; list = many 0 n }

-- the layout after each tag's list was made this long, one after the other; none where one finds no room
next : Option (List Zone) → (List Zone → Option (List Zone)) → Option (List Zone)
next none f = none
next (some zs) f = f zs

grown : List (ℕ × ℕ) → List Zone → Option (List Zone)
unfolding next
grown [] zs = some zs
grown (x ∷ xs) zs = next (change cells class_of 16 x.0 (many 0 x.1) zs) (λ ys. grown xs ys)

three : grown ((7, 2) ∷ (9, 3) ∷ (7, 4) ∷ []) (replicate 30 empty) ≡ some (empty ∷ from 3 (block 9 3) [] ∷ from 7 (block 7 4) [] ∷ replicate 27 empty)
unfolding grown next many block change settle place take_out rewritten has_tag find blocks class_from
three = refl

no_room_lem : grown ((7, 5) ∷ (7, 6) ∷ []) (replicate 30 empty) ≡ none
unfolding grown next many block change settle place take_out rewritten has_tag find blocks class_from
no_room_lem = refl
