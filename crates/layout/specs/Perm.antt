-- Lists that hold the same elements in another order, membership, sums, and elements all of which stand in a relation.
use Rattle.std.specs.Prelude.{◌⊎◌, ◌≡◌, List, [], ◌∷◌, ℕ, ◌+◌}
use Rattle.wire.specs.All.{All}

pub data Perm {A : Type 0} : List A → List A → Type 0 where
  pnil : Perm [] []
  pskip : (x : A) {xs ys : List A} → Perm xs ys → Perm (x ∷ xs) (x ∷ ys)
  pswap : (x y : A) (xs : List A) → Perm (x ∷ y ∷ xs) (y ∷ x ∷ xs)
  ptrans : {xs ys zs : List A} → Perm xs ys → Perm ys zs → Perm xs zs

abbrev pub In : {A : Type 0} → A → List A → Type 0
In x [] = ⊥
In x (y ∷ ys) = (x ≡ y) ⊎ In x ys

-- a number of each element, added up
unfoldable pub sum : {A : Type 0} → (A → ℕ) → List A → ℕ
sum f [] = 0
sum f (x ∷ xs) = f x + sum f xs

-- each element stands in R to all after it
pub data Pairs {A : Type 0} (R : A → A → Type 0) : List A → Type 0 where
  single : Pairs R []
  after : {x : A} {xs : List A} → All (R x) xs → Pairs R xs → Pairs R (x ∷ xs)
