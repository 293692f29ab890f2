-- What is said of layouts laid out afresh.
use Rattle.std.specs.Prelude.{◌≡◌, List, [], ◌∷◌, ◌++◌, ℕ, zero, suc, ◌+◌, ◌*◌, length}
use Rattle.wire.specs.Bytes.{pick}
use Rattle.layout.specs.Zones.{Block, Zone, empty, from, blocks, has_tag, take_out}

-- each class's blocks, in their order
unfoldable pub by_class : List Zone → List (List Block)
by_class [] = []
by_class (empty ∷ zs) = [] ∷ by_class zs
by_class (from f x xs ∷ zs) = (x ∷ xs) ∷ by_class zs

-- a block behind the others of class n
unfoldable pub behind : ℕ → Block → List (List Block) → List (List Block)
behind n b [] = []
behind zero b (bs ∷ bss) = (bs ++ (b ∷ [])) ∷ bss
behind (suc n) b (bs ∷ bss) = bs ∷ behind n b bss

module _ (cells : ℕ → ℕ) where
  -- "without gaps": each nonempty zone starts where the one below ends, c being the first one's class and e the end of those below it
  abbrev pub Gapless : ℕ → ℕ → List Zone → Type 0
  Gapless c e [] = Unit {0}
  Gapless c e (empty ∷ zs) = Gapless (suc c) e zs
  Gapless c e (from f x xs ∷ zs) = (f ≡ e) × Gapless (suc c) (f + suc (length xs) * cells c) zs

  -- the zones "just before the placing" of tag t's block: its old one, if it has one, is taken out, and gaps are closed
  unfoldable pub just_before : ℕ → List Zone → List Zone
  just_before t zs = pick (has_tag t (blocks zs)) (take_out cells t 0 0 zs) zs
