-- A property of every element of a list.
use Rattle.std.specs.Prelude.{List, [], ◌∷◌, ◌++◌, ℕ, zero, suc, take}

pub data All {A : Type 0} (P : A → Type 0) : List A → Type 0 where
  none : All P []
  more : {x : A} {xs : List A} → P x → All P xs → All P (x ∷ xs)

pub all_append : {A : Type 0} {P : A → Type 0} {xs ys : List A} → All P xs → All P ys → All P (xs ++ ys)
all_append none b = b
all_append (more p a) b = more p (all_append a b)

pub all_take : {A : Type 0} {P : A → Type 0} {xs : List A} (n : ℕ) → All P xs → All P (take n xs)
all_take zero none = none
all_take zero (more p a) = none
all_take (suc n) none = none
all_take (suc n) (more p a) = more p (all_take n a)

pub all_map : {A : Type 0} {P Q : A → Type 0} {xs : List A} → ((x : A) → P x → Q x) → All P xs → All Q xs
all_map f none = none
all_map f (more {x = x} p a) = more (f x p) (all_map f a)

pub all_head : {A : Type 0} {P : A → Type 0} {x : A} {xs : List A} → All P (x ∷ xs) → P x
all_head (more p a) = p

pub all_tail : {A : Type 0} {P : A → Type 0} {x : A} {xs : List A} → All P (x ∷ xs) → All P xs
all_tail (more p a) = a
