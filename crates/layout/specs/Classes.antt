-- Capacities by class, from class 0 up: the class of a number of records by them, and which of them blocks can be moved by.
use Rattle.std.specs.Prelude.{Bool, true, ◌&&◌, List, [], ◌∷◌, ◌++◌, ℕ, suc, leb, eqb, length, get_or}
use Rattle.wire.specs.Bytes.{pick}

-- the capacity of class c; past the last class, which no list has, 989
abbrev pub capacity_by : List ℕ → ℕ → ℕ
capacity_by ks c = get_or ks c 989

-- "A block's size is its capacity + 1 cells"
abbrev pub cells_by : List ℕ → ℕ → ℕ
cells_by ks c = suc (capacity_by ks c)

-- "the smallest class whose capacity is at least n": along these capacities, the first of which is of class c
unfoldable pub class_from : ℕ → List ℕ → ℕ → ℕ
class_from c [] n = c
class_from c (k ∷ ks) n = pick (leb n k) c (class_from (suc c) ks n)

-- are these numbers, after a, in no place less than the one before
unfoldable pub never_falls : ℕ → List ℕ → Bool
never_falls a [] = true
never_falls a (b ∷ bs) = leb a b && never_falls b bs

-- they never fall, none exceeds 989, a list of 989 records has the last class, and there are at most 30
unfoldable pub usable : List ℕ → Bool
unfolding never_falls class_from
usable ks = never_falls 0 (ks ++ (989 ∷ [])) && (eqb (suc (class_from 0 ks 989)) (length ks) && leb (length ks) 30)
