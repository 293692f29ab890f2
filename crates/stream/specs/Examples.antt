-- Inputs and their lines.
use Rattle.std.specs.Prelude.{◌≡◌, refl, List, [], ◌∷◌, ℕ}
use Rattle.stream.specs.Stream.{lines_of}

-- no input; one newline; `a`; `a`, newline; `a`, newline, newline, `bc`
pub inputs : List (List ℕ)
inputs = [] ∷ (10 ∷ []) ∷ (97 ∷ []) ∷ (97 ∷ 10 ∷ []) ∷ (97 ∷ 10 ∷ 10 ∷ 98 ∷ 99 ∷ []) ∷ []

pub each : List (List ℕ) → List (List (List ℕ))
each [] = []
each (i ∷ is) = lines_of i ∷ each is

pub lines_hold : each inputs ≡ [] ∷ ([] ∷ []) ∷ ((97 ∷ []) ∷ []) ∷ ((97 ∷ []) ∷ []) ∷ ((97 ∷ []) ∷ [] ∷ (98 ∷ 99 ∷ []) ∷ []) ∷ []
unfolding each inputs lines_of
lines_hold = refl
