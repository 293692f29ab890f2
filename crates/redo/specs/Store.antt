-- Stores of single bytes, in order: what the supply can cut.
use Rattle.std.specs.Prelude.{ℕ, suc, List, [], ◌∷◌, set}

-- one store: an offset and the byte put there
pub record Store : Type 0 where
  pub at : ℕ
  pub byte : ℕ

-- the bytes after the stores, made in order: each byte holds what the last store to it put there
unfoldable pub apply : List Store → List ℕ → List ℕ
apply [] l = l
apply (s ∷ ss) l = apply ss (set l s.at s.byte)

-- the stores that put bs at offset a, from its first byte up
unfoldable pub run : ℕ → List ℕ → List Store
run a [] = []
run a (b ∷ bs) = record { at = a; byte = b } ∷ run (suc a) bs

-- "the byte its next store was meant for may hold any value": where stores were left out, v stands where the first of them was to go
unfoldable pub halfway : List Store → ℕ → List ℕ → List ℕ
halfway [] v l = l
halfway (s ∷ ss) v l = set l s.at v
