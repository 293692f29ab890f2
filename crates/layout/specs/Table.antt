-- A table's rule, proved at all of its entries by one test that computes.
use Rattle.std.specs.Prelude.{◌≡◌, Bool, true, ◌&&◌, List, [], ◌∷◌, ℕ, zero, suc, ◌+◌, ◌<◌, eqb, length, get_or}
use Rattle.std.proofs.Common.{arith, add-zero, zero-add, add-suc, suc-add, eqb-true}
use Rattle.wire.specs.Cases.{both}

-- does each entry have the value that f gives for its place, counted from i
abbrev pub follows : (ℕ → ℕ) → ℕ → List ℕ → Bool
follows f i [] = true
follows f i (x ∷ xs) = eqb x (f i) && follows f (suc i) xs

from : (f : ℕ → ℕ) (xs : List ℕ) (i : ℕ) → follows f i xs ≡ true → (k : ℕ) → k < length xs → get_or xs k 0 ≡ f (i + k)
from f [] i t k h = absurd (omega arith)
from f (x ∷ xs) i t zero h = rw add-zero (eqb-true x (f i) (both (eqb x (f i)) (follows f (suc i) xs) t).0)
from f (x ∷ xs) i t (suc k) h = rw (add-suc, ← suc-add) (from f xs (suc i) (both (eqb x (f i)) (follows f (suc i) xs) t).1 k (omega arith))

pub table_at : (f : ℕ → ℕ) (xs : List ℕ) → follows f 0 xs ≡ true → (k : ℕ) → k < length xs → get_or xs k 0 ≡ f k
table_at f xs t k h = rw zero-add at (from f xs 0 t k h)
