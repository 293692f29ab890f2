-- Capacities and classes by step code: the one file that knows the numbers of both tables.
use Rattle.std.specs.Prelude.{List, [], ◌∷◌, ◌++◌, ℕ, zero, suc, ◌+◌, ◌-◌, replicate, take}
use Rattle.layout.specs.Classes.{capacity_by, class_from}

-- "a step code: 0 as before", which is "Capacities by class: 4, 5, 6, .."; "1 for capacities multiplied by 31/20, rounded up and ended at 989". No home has another code.
unfoldable pub capacities : ℕ → List ℕ
capacities zero = 4 ∷ 5 ∷ 6 ∷ 8 ∷ 10 ∷ 12 ∷ 15 ∷ 18 ∷ 22 ∷ 27 ∷ 33 ∷ 40 ∷ 48 ∷ 58 ∷ 70 ∷ 84 ∷ 100 ∷ 120 ∷ 143 ∷ 171 ∷ 204 ∷ 243 ∷ 290 ∷ 346 ∷ 412 ∷ 491 ∷ 585 ∷ 697 ∷ 830 ∷ 989 ∷ []
capacities (suc k) = 4 ∷ 7 ∷ 11 ∷ 18 ∷ 28 ∷ 44 ∷ 69 ∷ 107 ∷ 166 ∷ 258 ∷ 400 ∷ 620 ∷ 961 ∷ 989 ∷ []

-- each is the one before times this, as numerator and denominator
unfoldable pub growth : ℕ → ℕ × ℕ
growth zero = (25, 21)
growth (suc k) = (31, 20)

unfoldable pub capacity : ℕ → ℕ → ℕ
unfolding capacities
capacity step c = capacity_by (capacities step) c

-- the capacities of both codes in one row, and a class's place there
unfoldable pub both_capacities : List ℕ
unfolding capacities
both_capacities = capacities 0 ++ capacities 1

unfoldable pub place_of : ℕ → ℕ → ℕ
place_of zero c = c
place_of (suc k) c = 30 + c

-- what the class below has room for, 0 for the lowest class: a list of class c has more records
unfoldable pub under : ℕ → ℕ → ℕ
under step zero = 0
under step (suc c) = capacity step c

-- "A block's size is its capacity + 1 cells"
unfoldable pub cells : ℕ → ℕ → ℕ
unfolding capacity
cells step c = suc (capacity step c)

-- "A list of n records has the smallest class whose capacity is at least n"
unfoldable pub class_of : ℕ → ℕ → ℕ
unfolding class_from capacities
class_of step n = class_from 0 (capacities step) n

-- "one table of 990 numbers (entry 0 is 0)": class c for each number from `low` to its capacity
unfoldable pub runs : ℕ → ℕ → List ℕ → List ℕ
runs c low [] = []
runs c low (k ∷ ks) = replicate (suc k - low) c ++ runs (suc c) (suc k) ks

unfoldable pub table : ℕ → List ℕ
unfolding runs capacities
table step = runs 0 0 (capacities step)

-- its first 144 numbers, those of short lists
unfoldable pub short : ℕ → List ℕ
short step = take 144 (table step)
