-- Placing as the specification words it: the next higher zone's first block is lifted off, the block put in, and the lifted one placed by placing itself.
use Rattle.std.proofs.Math.Option.{Option, none, some, map}
use mathlib.Core.List.{List, [], ◌∷◌}
use Prim.Native.Nat.{ℕ, zero, suc, ◌+◌}
use Rattle.std.specs.Prelude.{leb}
use Rattle.wire.specs.Bytes.{pick}
use Rattle.layout.specs.Zones.{Block, Zone, empty, from, zone, added, end_of}

-- "the next higher nonempty zone d": how many empty ones lie before it, its first cell and its first block
pub record Ahead : Type 0 where
  pub depth : ℕ
  pub first : ℕ
  pub block : Block

abbrev pub deeper : Ahead → Ahead
deeper a = record { depth = suc a.depth; first = a.first; block = a.block }

unfoldable pub ahead : List Zone → Option Ahead
ahead [] = none
ahead (empty ∷ zs) = map deeper (ahead zs)
ahead (from f x xs ∷ zs) = some (record { depth = 0; first = f; block = x })

-- one choice if there is no such zone, another if there is
abbrev pub if_ahead : {X : Type 0} → Option Ahead → X → (Ahead → X) → X
if_ahead none x f = x
if_ahead (some a) x f = f a

module _ (cells : ℕ → ℕ) where
  -- "(nothing fills its place; zone d starts one block later)"
  unfoldable pub without : ℕ → List Zone → List Zone
  unfolding zone
  without c [] = []
  without c (empty ∷ zs) = empty ∷ without (suc c) zs
  without c (from f x xs ∷ zs) = zone (f + cells c) xs ∷ zs

  -- a block of class c + n into zones c and up, where the lifted one is placed by `again`
  unfoldable pub placing : (ℕ → ℕ → ℕ → Block → List Zone → Option (List Zone)) → ℕ → ℕ → ℕ → ℕ → Block → List Zone → Option (List Zone)
  unfolding added end_of ahead without
  placing again area c e n b [] = none
  placing again area c e zero b (z ∷ zs) =
      if_ahead (ahead zs) (pick (leb (end_of cells c e (added e b z)) area) (some (added e b z ∷ zs)) none)
      (λ (a : Ahead). pick (leb (end_of cells c e (added e b z)) a.first) (some (added e b z ∷ zs))
      (again c e (suc a.depth) a.block (added e b z ∷ without (suc c) zs)))
  placing again area c e (suc n) b (z ∷ zs) = map (λ (r : List Zone). z ∷ r) (placing again area (suc c) (end_of cells c e z) n b zs)

  -- placing calls itself; each time the number of classes above falls, and the first number bounds the calls
  unfoldable pub literal : ℕ → ℕ → ℕ → ℕ → ℕ → Block → List Zone → Option (List Zone)
  unfolding placing
  literal zero area c e n b zs = none
  literal (suc k) area c e n b zs = placing (literal k area) area c e n b zs
