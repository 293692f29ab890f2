-- Case splits on tests inside a statement, and what holds of an answer if there is one.
use Rattle.std.specs.Prelude.{◌≡◌, refl, Bool, true, false, List, ◌∷◌}
use Rattle.std.proofs.Common.{ap}
use Rattle.std.proofs.Math.Option.{Option, none, some, IsSome, map}
use Rattle.wire.specs.Bytes.{pick, is_some}

-- a choice by a test, both ways known
pub by_pick : {X : Type 0} (P : X → Type 0) (t : Bool) {x y : X} → (t ≡ true → P x) → (t ≡ false → P y) → P (pick t x y)
by_pick P true f g = f refl
by_pick P false f g = g refl

-- the first answer, or else the second
unfoldable pub or_else : {A : Type 0} → Option A → Option A → Option A
or_else none o = o
or_else (some x) o = some x

-- P of the answer, if there is one
abbrev pub Holds : {A : Type 0} → (A → Type 0) → Option A → Type 0
Holds P none = Unit {0}
Holds P (some x) = P x

pub holds_under : {A B : Type 0} (P : A → Type 0) (Q : B → Type 0) (f : A → B) (o : Option A) → ((x : A) → P x → Q (f x)) → Holds P o → Holds Q (map f o)
holds_under P Q f none h p = tt
holds_under P Q f (some x) h p = h x p

pub holds_map : {A : Type 0} (P Q : List A → Type 0) (z : A) → ((zs : List A) → P zs → Q (z ∷ zs)) → (o : Option (List A)) → Holds P o
    → Holds Q (map (λ (r : List A). z ∷ r) o)
holds_map P Q z h o p = holds_under P Q (λ r. z ∷ r) o h p

pub holds_some : {A : Type 0} (P : A → Type 0) (o : Option A) (x : A) → o ≡ some x → Holds P o → P x
holds_some P o x q h = rw q at h

pub holds_both : {A : Type 0} (P Q R : A → Type 0) (o : Option A) → ((x : A) → P x → Q x → R x) → Holds P o → Holds Q o → Holds R o
holds_both P Q R none f p q = tt
holds_both P Q R (some x) f p q = f x p q

pub holds_to : {A : Type 0} (P Q : A → Type 0) (o : Option A) → ((x : A) → P x → Q x) → Holds P o → Holds Q o
holds_to P Q none f p = tt
holds_to P Q (some x) f p = f x p

pub holds_else : {A : Type 0} (P : A → Type 0) (o o' : Option A) → Holds P o → Holds P o' → Holds P (or_else o o')
unfolding or_else
holds_else P none o' p p' = p'
holds_else P (some x) o' p p' = p

pub else_first : {A : Type 0} (o o' : Option A) → IsSome o → or_else o o' ≡ o
unfolding or_else
else_first none o' h = absurd h
else_first (some x) o' h = refl

pub else_some : {A : Type 0} (o o' : Option A) → IsSome o' → IsSome (or_else o o')
unfolding or_else
else_some none o' h = h
else_some (some x) o' h = tt

pub some_is : {A : Type 0} (o : Option A) → IsSome o → is_some o ≡ true
some_is none h = absurd h
some_is (some x) h = refl

pub none_is : {A : Type 0} (o : Option A) → (IsSome o → ⊥) → is_some o ≡ false
none_is none h = refl
none_is (some x) h = absurd (h tt)

pub holds_at : {A G : Type 0} (P : A → Type 0) (o : Option A) → IsSome o → Holds P o → ((x : A) → P x → G) → G
holds_at P none i p f = absurd i
holds_at P (some x) i p f = f x p

-- ---- answers changed

pub map_twice : {A B C : Type 0} (f : B → C) (g : A → B) (o : Option A) → map f (map g o) ≡ map (λ (x : A). f (g x)) o
map_twice f g none = refl
map_twice f g (some x) = refl

pub map_same : {A B : Type 0} (f g : A → B) (o : Option A) → ((x : A) → f x ≡ g x) → map f o ≡ map g o
map_same f g none h = refl
map_same f g (some x) h = ap some (h x)

pub map_swap : {A : Type 0} (f g : A → A) (o : Option A) → ((x : A) → f (g x) ≡ g (f x)) → map f (map g o) ≡ map g (map f o)
map_swap f g none h = refl
map_swap f g (some x) h = ap some (h x)
