-- Both, either and first-without-second of two ordered lists.
use Rattle.std.specs.Prelude.{ℕ, Bool, true, false, List, [], ◌∷◌, ltb}
use Rattle.std.proofs.Math.Option.{Option, none, some}
use Rattle.wire.specs.Bytes.{pick}
use Rattle.records.specs.declared.Record.{Record}
use Rattle.records.specs.Records.{key}
use Rattle.merges.specs.declared.Side.{Side}
use Rattle.merges.specs.declared.Side.TheVariants.{First, Shared, Second}
use Rattle.merges.specs.declared.Merge.{Merge}
use Rattle.merges.specs.declared.Merge.TheVariants.{Both, Either, Without}

-- whether the lowest call of two lists stands in the first alone, in both, or in the second alone
unfoldable pub side : List Record → List Record → Side
side [] ys = Second
side (x ∷ xs) [] = First
side (x ∷ xs) (y ∷ ys) = pick (ltb (key x) (key y)) First (pick (ltb (key y) (key x)) Second Shared)

-- "Both, either, first-without-second": which calls are kept
unfoldable pub keeps : Merge → Side → Bool
keeps Both First = false
keeps Both Shared = true
keeps Both Second = false
keeps Either w = true
keeps Without First = true
keeps Without Shared = false
keeps Without Second = false

abbrev pub keep : Bool → Record → List Record → List Record
keep b x xs = pick b (x ∷ xs) xs

-- how many records of each list that call takes up, and whose record it is
unfoldable pub of_first : Side → ℕ
of_first First = 1
of_first Shared = 1
of_first Second = 0

unfoldable pub of_second : Side → ℕ
of_second First = 0
of_second Shared = 1
of_second Second = 1

unfoldable pub next : Side → Record → Record → Record
next First x y = x
next Shared x y = x
next Second x y = y

-- "of two lists by primary part .. with the first list's minutes where both have the call"
unfoldable pub merge : Merge → List Record → List Record → List Record
merge m [] [] = []
merge m [] (y ∷ ys) = keep (keeps m Second) y (merge m [] ys)
merge m (x ∷ xs) [] = keep (keeps m First) x (merge m xs [])
merge m (x ∷ xs) (y ∷ ys) =
    pick (ltb (key x) (key y)) (keep (keeps m First) x (merge m xs (y ∷ ys)))
    (pick (ltb (key y) (key x)) (keep (keeps m Second) y (merge m (x ∷ xs) ys))
    (keep (keeps m Shared) x (merge m xs ys)))

-- what a call's record in the result is, by its records in the two lists
unfoldable pub merged : Merge → Option Record → Option Record → Option Record
merged m none none = none
merged m none (some y) = pick (keeps m Second) (some y) none
merged m (some x) none = pick (keeps m First) (some x) none
merged m (some x) (some y) = pick (keeps m Shared) (some x) none
