-- Placing as the specification words it gives what `place` gives.
use Rattle.std.specs.Prelude.{◌≡◌, Bool, true, false, leb, length}
use Rattle.std.proofs.Math.Path.{refl, sym, ap}
use Rattle.std.proofs.Common.{◌∙◌, arith}
use Rattle.std.proofs.Math.Option.{Option, none, some, map}
use mathlib.Core.List.{List, [], ◌∷◌}
use Prim.Native.Nat.{ℕ, zero, suc, ◌+◌, ◌<◌}
use Rattle.wire.specs.Bytes.{pick}
use Rattle.layout.specs.Zones.{Block, Zone, empty, from, added, end_of, shift, place}
use Rattle.layout.specs.Literal.{Ahead, deeper, ahead, if_ahead, without, placing, literal}

-- a choice under a map
map-pick : (t : Bool) (z : Zone) (zs : List Zone) (o : Option (List Zone))
    → map (λ (r : List Zone). z ∷ r) (pick t (some zs) o) ≡ pick t (some (z ∷ zs)) (map (λ (r : List Zone). z ∷ r) o)
map-pick true z zs o = refl
map-pick false z zs o = refl

module _ (cells : ℕ → ℕ) where
  -- zones c and up, after the lower ones have come to end at e
  unfoldable moved : ℕ → ℕ → ℕ → List Zone → Option Ahead → Option (List Zone)
  moved area c e zs o =
      if_ahead o (pick (leb e area) (some zs) none) (λ (a : Ahead). pick (leb e a.first) (some zs) (place cells area c e a.depth a.block (without cells c zs)))

  map-moved : (area c e e' : ℕ) (z : Zone) (zs : List Zone) (o : Option Ahead) → e' ≡ end_of cells c e z
      → map (λ (r : List Zone). z ∷ r) (moved area (suc c) e' zs o)
      ≡ if_ahead o (pick (leb e' area) (some (z ∷ zs)) none) (λ (a : Ahead). pick (leb e' a.first) (some (z ∷ zs)) (place cells area c e (suc a.depth) a.block (z ∷ without cells (suc c) zs)))
  unfolding moved place
  map-moved area c e e' z zs none q = map-pick (leb e' area) z zs none
  map-moved area c e e' z zs (some a) q = rw q (map-pick (leb (end_of cells c e z) a.first) z zs (place cells area (suc c) (end_of cells c e z) a.depth a.block (without cells (suc c) zs)))

  deeper-moved : (area c e : ℕ) (zs : List Zone) (o : Option Ahead)
      → if_ahead o (pick (leb e area) (some (empty ∷ zs)) none) (λ (a : Ahead). pick (leb e a.first) (some (empty ∷ zs)) (place cells area c e (suc a.depth) a.block (empty ∷ without cells (suc c) zs)))
      ≡ moved area c e (empty ∷ zs) (map deeper o)
  unfolding moved without
  deeper-moved area c e zs none = refl
  deeper-moved area c e zs (some a) = refl

  shift-moved : (area c e : ℕ) (zs : List Zone) → shift cells area c e zs ≡ moved area c e zs (ahead zs)
  unfolding shift moved ahead without place end_of
  shift-moved area c e [] = refl
  shift-moved area c e (empty ∷ zs) =
      ap (map (λ (r : List Zone). empty ∷ r)) (shift-moved area (suc c) e zs)
      ∙ map-moved area c e e empty zs (ahead zs) refl
      ∙ deeper-moved area c e zs (ahead zs)
  shift-moved area c e (from f x xs ∷ zs) = refl

  -- one step: put in, and the lifted block placed
  place-step : (area c e : ℕ) (b : Block) (z : Zone) (zs : List Zone)
      → place cells area c e 0 b (z ∷ zs)
      ≡ if_ahead (ahead zs) (pick (leb (end_of cells c e (added e b z)) area) (some (added e b z ∷ zs)) none)
      (λ (a : Ahead). pick (leb (end_of cells c e (added e b z)) a.first) (some (added e b z ∷ zs)) (place cells area c e (suc a.depth) a.block (added e b z ∷ without cells (suc c) zs)))
  unfolding place
  place-step area c e b z zs =
      ap (map (λ (r : List Zone). added e b z ∷ r)) (shift-moved area (suc c) (end_of cells c e (added e b z)) zs)
      ∙ map-moved area c e (end_of cells c e (added e b z)) (added e b z) zs (ahead zs) refl

  -- no zone of so high a class
  place_far : (area c e n : ℕ) (b : Block) (zs : List Zone) → length zs < n → place cells area c e n b zs ≡ none
  unfolding place
  place_far area c e n b [] h = refl
  place_far area c e zero b (z ∷ zs) h = absurd (omega arith)
  place_far area c e (suc n) b (z ∷ zs) h = ap (map (λ (r : List Zone). z ∷ r)) (place_far area (suc c) (end_of cells c e z) n b zs (omega arith))

  length_without : (c : ℕ) (zs : List Zone) → length (without cells c zs) ≡ length zs
  unfolding without
  length_without c [] = refl
  length_without c (empty ∷ zs) = ap suc (length_without (suc c) zs)
  length_without c (from f x xs ∷ zs) = refl

  same_choice : {X : Type 0} (o : Option Ahead) (x : X) (f g : Ahead → X) → ((a : Ahead) → f a ≡ g a) → if_ahead o x f ≡ if_ahead o x g
  same_choice none x f g h = refl
  same_choice (some a) x f g h = h a

  -- a call more than there are zones above the block's is enough
  placing-place : (again : ℕ → ℕ → ℕ → Block → List Zone → Option (List Zone)) (area c e n : ℕ) (b : Block) (zs : List Zone)
      → ((c' e' n' : ℕ) (b' : Block) (zs' : List Zone) → length zs' + n < length zs + n' → again c' e' n' b' zs' ≡ place cells area c' e' n' b' zs')
      → placing cells again area c e n b zs ≡ place cells area c e n b zs
  unfolding placing place
  placing-place again area c e n b [] h = refl
  placing-place again area c e zero b (z ∷ zs) h =
      same_choice (ahead zs) _ _ _
      (λ a. ap (pick (leb (end_of cells c e (added e b z)) a.first) (some (added e b z ∷ zs)))
      (h c e (suc a.depth) a.block (added e b z ∷ without cells (suc c) zs) (omega (arith, length_without (suc c) zs))))
      ∙ sym (place-step area c e b z zs)
  placing-place again area c e (suc n) b (z ∷ zs) h =
      ap (map (λ (r : List Zone). z ∷ r)) (placing-place again area (suc c) (end_of cells c e z) n b zs (λ c' e' n' b' zs' q. h c' e' n' b' zs' (omega arith)))

  pub literal-place : (k area c e n : ℕ) (b : Block) (zs : List Zone) → length zs < k + n → literal cells k area c e n b zs ≡ place cells area c e n b zs
  unfolding literal
  literal-place zero area c e n b zs h = sym (place_far area c e n b zs (omega arith))
  literal-place (suc k) area c e n b zs h =
      placing-place (literal cells k area) area c e n b zs (λ c' e' n' b' zs' q. literal-place k area c' e' n' b' zs' (omega arith))
