-- Placing a block keeps the layout: for any block sizes that never fall, none of which is 0.
use Rattle.std.specs.Prelude.{◌≡◌, refl, leb}
use Rattle.std.proofs.Math.Path.{ap}
use Rattle.std.proofs.Common.{◌∙◌, length-append}
use Rattle.std.proofs.Math.Option.{some}
use mathlib.Core.List.{List, [], ◌∷◌, ◌++◌}
use Prim.Native.Nat.{ℕ, zero, suc, ◌+◌, ◌*◌, ◌≤◌, ◌<◌}
use native.Mathlib.Omega.{arith}
use Rattle.std.proofs.Math.ListN.{length}
use borrow.Author.Tests.{leb-true, leb-false}
use Rattle.wire.specs.All.{none, more}
use Rattle.layout.specs.Zones.{Block, Zone, empty, from, end_of, lifted, shift, added, place, blocks}
use Rattle.layout.specs.Perm.{Perm, pnil, pskip, ptrans, after}
use Rattle.layout.specs.Valid.{Sits, Laid, Valid}
use Rattle.layout.specs.Cases.{by_pick, Holds, holds_map, holds_some}
use Rattle.layout.specs.PermLaws.{prefl, psym, pleft, pright, pfront, protate, plength, pall}
use Rattle.layout.specs.FindLaws.{Lacks, pdistinct}

pub length_snoc : (xs : List Block) (x : Block) → length (xs ++ (x ∷ [])) ≡ suc (length xs)
length_snoc xs x = simp length-append (omega arith)

-- zones laid from e on, with the blocks bs
module _ (cells class_of : ℕ → ℕ) where
  pub record Made (area c e : ℕ) (bs : List Block) (zs : List Zone) : Type 0 where
    pub laid : Laid cells class_of area c e zs
    pub same : Perm (blocks zs) bs

  -- valid, with one block more
  pub record Placed (area : ℕ) (b : Block) (zs zs' : List Zone) : Type 0 where
    pub valid : Valid cells class_of area zs'
    pub same : Perm (blocks zs') (b ∷ blocks zs)

module _ (cells class_of : ℕ → ℕ) (mono : (c : ℕ) → cells c ≤ cells (suc c)) (pos : (c : ℕ) → 0 < cells c) where
  -- e₀ is where the lower zones ended, e where they end now
  pub shift_made : (area c e₀ e : ℕ) (zs : List Zone) → Laid cells class_of area c e₀ zs → e₀ ≤ e → e ≤ e₀ + cells c
      → Holds (Made cells class_of area c e (blocks zs)) (shift cells area c e zs)
  unfolding shift blocks end_of lifted
  shift_made area c e₀ e [] h lo hi = by_pick (Holds (Made cells class_of area c e [])) (leb e area) (λ t. record { laid = leb-true e area t; same = pnil }) (λ t. tt)
  shift_made area c e₀ e (empty ∷ zs) h lo hi =
      holds_map (Made cells class_of area (suc c) e (blocks zs)) (Made cells class_of area c e (blocks zs)) empty (λ r m. record { laid = m.laid; same = m.same }) (shift cells area (suc c) e zs)
      (shift_made area (suc c) e₀ e zs h lo (omega (arith, mono c)))
  shift_made area c e₀ e (from f x [] ∷ zs) h lo hi =
      by_pick (Holds (Made cells class_of area c e (blocks (from f x [] ∷ zs)))) (leb e f)
      (λ t. let le : e ≤ f = leb-true e f t in record { laid = (record { after = le; tight = omega arith; sit = h.0.sit }, h.1); same = prefl _ })
      (λ t. let gt : f < e = leb-false e f t in
      holds_map (Made cells class_of area (suc c) (e + 1 * cells c) (blocks zs)) (Made cells class_of area c e (x ∷ blocks zs)) (from e x [])
      (λ r m. record { laid = (record { after = omega arith; tight = omega (arith, pos c); sit = h.0.sit }, m.laid); same = pskip x m.same })
      (shift cells area (suc c) (e + 1 * cells c) zs)
      (shift_made area (suc c) (f + 1 * cells c) (e + 1 * cells c) zs h.1 (omega arith) (omega (arith, mono c))))
  shift_made area c e₀ e (from f x (y ∷ ys) ∷ zs) h lo hi =
      by_pick (Holds (Made cells class_of area c e (blocks (from f x (y ∷ ys) ∷ zs)))) (leb e f)
      (λ t. let le : e ≤ f = leb-true e f t in record { laid = (record { after = le; tight = omega arith; sit = h.0.sit }, h.1); same = prefl _ })
      (λ t. let gt : f < e = leb-false e f t in
      let k : ℕ = f + cells c + suc (length (ys ++ (x ∷ []))) * cells c in
      let ek : k ≡ f + suc (suc (length ys)) * cells c + cells c = simp length_snoc (omega arith) in
      holds_map (Made cells class_of area (suc c) k (blocks zs)) (Made cells class_of area c e (x ∷ y ∷ (ys ++ blocks zs))) (from (f + cells c) y (ys ++ (x ∷ [])))
      (λ r m. record {
        laid = (record { after = omega arith; tight = omega arith; sit = pall (Sits cells class_of c) (psym (protate x (y ∷ ys))) h.0.sit }, m.laid);
        same = ptrans (pleft (y ∷ (ys ++ (x ∷ []))) m.same) (pright (blocks zs) (protate x (y ∷ ys)));
      })
      (shift cells area (suc c) k zs)
      (shift_made area (suc c) (f + suc (suc (length ys)) * cells c) k zs h.1 (omega arith) (omega (arith, mono c))))

  pub place-made : (area c e n k : ℕ) (b : Block) (zs : List Zone) → k ≡ c + n → Sits cells class_of k b → Laid cells class_of area c e zs
      → Holds (Made cells class_of area c e (b ∷ blocks zs)) (place cells area c e n b zs)
  unfolding place blocks end_of added
  place-made area c e n k b [] q s h = tt
  place-made area c e zero k b (empty ∷ zs) q s h =
      let qc : k ≡ c = omega arith in
      holds_map (Made cells class_of area (suc c) (e + 1 * cells c) (blocks zs)) (Made cells class_of area c e (b ∷ blocks zs)) (from e b [])
      (λ r m. record { laid = (record { after = omega arith; tight = omega (arith, pos c); sit = more (rw qc at s) none }, m.laid); same = pskip b m.same })
      (shift cells area (suc c) (e + 1 * cells c) zs)
      (shift_made area (suc c) e (e + 1 * cells c) zs h (omega arith) (omega (arith, mono c)))
  place-made area c e zero k b (from f x xs ∷ zs) q s h =
      let qc : k ≡ c = omega arith in
      let j : ℕ = f + suc (length (xs ++ (b ∷ []))) * cells c in
      let ej : j ≡ f + suc (length xs) * cells c + cells c = simp length_snoc (omega arith) in
      holds_map (Made cells class_of area (suc c) j (blocks zs)) (Made cells class_of area c e (b ∷ x ∷ (xs ++ blocks zs))) (from f x (xs ++ (b ∷ [])))
      (λ r m. record {
        laid = (record { after = h.0.after; tight = h.0.tight; sit = pall (Sits cells class_of c) (psym (protate b (x ∷ xs))) (more (rw qc at s) h.0.sit) }, m.laid);
        same = ptrans (pleft (x ∷ (xs ++ (b ∷ []))) m.same) (pright (blocks zs) (protate b (x ∷ xs)));
      })
      (shift cells area (suc c) j zs)
      (shift_made area (suc c) (f + suc (length xs) * cells c) j zs h.1 (omega arith) (omega (arith, mono c)))
  place-made area c e (suc n) k b (empty ∷ zs) q s h =
      holds_map (Made cells class_of area (suc c) e (b ∷ blocks zs)) (Made cells class_of area c e (b ∷ blocks zs)) empty (λ r m. record { laid = m.laid; same = m.same })
      (place cells area (suc c) e n b zs) (place-made area (suc c) e n k b zs (omega arith) s h)
  place-made area c e (suc n) k b (from f x xs ∷ zs) q s h =
      let j : ℕ = f + suc (length xs) * cells c in
      holds_map (Made cells class_of area (suc c) j (b ∷ blocks zs)) (Made cells class_of area c e (b ∷ x ∷ (xs ++ blocks zs))) (from f x xs)
      (λ r m. record { laid = (h.0, m.laid); same = ptrans (pleft (x ∷ xs) m.same) (pfront b (x ∷ xs) (blocks zs)) })
      (place cells area (suc c) j n b zs) (place-made area (suc c) j n k b zs (omega arith) s h.1)

  -- there are as many classes as before
  pub shift-length : (area c e : ℕ) (zs : List Zone) → Holds (λ (r : List Zone). length r ≡ length zs) (shift cells area c e zs)
  unfolding shift
  shift-length area c e [] = by_pick (Holds (λ (r : List Zone). length r ≡ 0)) (leb e area) (λ t. refl) (λ t. tt)
  shift-length area c e (empty ∷ zs) =
      holds_map (λ (r : List Zone). length r ≡ length zs) (λ (r : List Zone). length r ≡ suc (length zs)) empty (λ r m. ap suc m)
      (shift cells area (suc c) e zs) (shift-length area (suc c) e zs)
  shift-length area c e (from f x xs ∷ zs) =
      by_pick (Holds (λ (r : List Zone). length r ≡ suc (length zs))) (leb e f) (λ t. refl)
      (λ t. let k : ℕ = end_of cells c e (lifted cells c e f x xs) in
      holds_map (λ (r : List Zone). length r ≡ length zs) (λ (r : List Zone). length r ≡ suc (length zs)) (lifted cells c e f x xs) (λ r m. ap suc m)
      (shift cells area (suc c) k zs) (shift-length area (suc c) k zs))

  pub place-length : (area c e n : ℕ) (b : Block) (zs : List Zone) → Holds (λ (r : List Zone). length r ≡ length zs) (place cells area c e n b zs)
  unfolding place
  place-length area c e n b [] = tt
  place-length area c e zero b (z ∷ zs) =
      let k : ℕ = end_of cells c e (added e b z) in
      holds_map (λ (r : List Zone). length r ≡ length zs) (λ (r : List Zone). length r ≡ suc (length zs)) (added e b z) (λ r m. ap suc m)
      (shift cells area (suc c) k zs) (shift-length area (suc c) k zs)
  place-length area c e (suc n) b (z ∷ zs) =
      let k : ℕ = end_of cells c e z in
      holds_map (λ (r : List Zone). length r ≡ length zs) (λ (r : List Zone). length r ≡ suc (length zs)) z (λ r m. ap suc m)
      (place cells area (suc c) k n b zs) (place-length area (suc c) k n b zs)

  pub place-valid : (area n : ℕ) (b : Block) (zs zs' : List Zone) → Valid cells class_of area zs → Sits cells class_of n b → Lacks b.tag (blocks zs) → length (blocks zs) < 256
      → place cells area 0 0 n b zs ≡ some zs' → Placed cells class_of area b zs zs'
  place-valid area n b zs zs' v s new few q =
      let m : Made cells class_of area 0 0 (b ∷ blocks zs) zs' = holds_some _ _ _ q (place-made area 0 0 n n b zs (omega arith) s v.laid) in
      let l : length zs' ≡ length zs = holds_some _ _ _ q (place-length area 0 0 n b zs) in
      record {
        valid = record { classes = l ∙ v.classes; laid = m.laid; distinct = pdistinct (psym m.same) (after new v.distinct); few = omega (arith, plength m.same) };
        same = m.same;
      }
