-- After a take-out a block of a lower class always finds room, so a delete never meets 12.
use Rattle.std.specs.Prelude.{◌≡◌, true, leb, length}
use Rattle.std.proofs.Math.Path.{refl, sym, ap}
use Rattle.std.proofs.Common.{◌∙◌}
use Rattle.std.proofs.Math.Bool.{false}
use Rattle.std.proofs.Math.Option.{Option, none, some, map, IsSome}
use mathlib.Core.List.{List, [], ◌∷◌, ◌++◌}
use Prim.Native.Nat.{ℕ, zero, suc, ◌+◌, ◌*◌, ◌≤◌, ◌<◌}
use native.Mathlib.Omega.{arith}
use borrow.Author.Tests.{leb-false}
use Rattle.wire.specs.Cases.{by_test, never}
use Rattle.wire.specs.All.{All, more}
use Rattle.records.specs.declared.Record.{Record}
use Rattle.layout.specs.Zones.{Block, Zone, empty, from, zone, end_of, lifted, shift, added, place, has_tag, removed, lowered, close, take_out, blocks, find}
use Rattle.layout.specs.Valid.{Sits, Lies, Laid, Valid}
use Rattle.layout.specs.Cases.{by_pick}
use Rattle.layout.specs.PermLaws.{plength}
use Rattle.layout.specs.FindLaws.{by_tag, find_here, find_skip, has_skip, has_append, find_later}
use Rattle.layout.specs.PlaceLaws.{length_snoc}
use Rattle.layout.proofs.TakeLaws.{LowTo, lowered-low, low-length, low_end, Out, removed_out}

some-map : (f : List Zone → List Zone) (o : Option (List Zone)) → IsSome o → IsSome (map f o)
some-map f none h = h
some-map f (some zs) h = tt

-- where the tag lies, by its list's class
module _ (cells class_of : ℕ → ℕ) where
  pub find_class : (t c : ℕ) (xs ys : List Block) → All (Sits cells class_of c) xs → has_tag t xs ≡ true → class_of (length (find t (xs ++ ys))) ≡ c
  unfolding has_tag
  find_class t c [] ys s h = never h
  find_class t c (x ∷ xs) ys (more p s) h =
      by_tag t x
      (λ e. ap (λ (l : List Record). class_of (length l)) (find_here t x (xs ++ ys) e) ∙ p.class)
      (λ n. ap (λ (l : List Record). class_of (length l)) (find_skip t x (xs ++ ys) n) ∙ find_class t c xs ys s (sym (has_skip t x xs n) ∙ h))

  lower : (t c n : ℕ) (x : Block) (xs ys : List Block) → All (Sits cells class_of c) (x ∷ xs) → c + n < class_of (length (find t (x ∷ (xs ++ ys))))
      → has_tag t (x ∷ xs) ≡ false
  lower t c n x xs ys s k = by_test (has_tag t (x ∷ xs)) (λ p. absurd (omega (arith, find_class t c (x ∷ xs) ys s p))) (λ p. p)

-- zone z has no tag t
abbrev Skips : ℕ → Zone → Type 0
Skips t empty = Unit {0}
Skips t (from f x xs) = has_tag t (x ∷ xs) ≡ false

-- tag t lies past zone n of these
abbrev Above : ℕ → ℕ → List Zone → Type 0
Above t n [] = ⊥
Above t zero (z ∷ zs) = Skips t z × (has_tag t (blocks zs) ≡ true)
Above t (suc n) (z ∷ zs) = Skips t z × Above t n zs

module _ (cells class_of : ℕ → ℕ) (mono : (c : ℕ) → cells c ≤ cells (suc c)) (pos : (c : ℕ) → 0 < cells c) where
  -- where a zone ends whose first block was lifted
  lifted_end : (c e f g : ℕ) (x : Block) (xs : List Block) → e ≤ g → f + cells c ≤ g → end_of cells c e (lifted cells c e f x xs) ≤ g + suc (length xs) * cells c
  unfolding end_of lifted
  lifted_end c e f g x [] lo hi = omega arith
  lifted_end c e f g x (y ∷ ys) lo hi = simp length_snoc (omega arith)

  -- zone c from f, with zones after it that have room from wherever it may end
  shift-some : (area c e f g : ℕ) (x : Block) (xs : List Block) (rest : List Zone) → (f < e → (e ≤ g) × (f + cells c ≤ g))
      → ((k : ℕ) → k ≤ g + suc (length xs) * cells c → IsSome (shift cells area (suc c) k rest)) → IsSome (shift cells area c e (from f x xs ∷ rest))
  unfolding shift
  shift-some area c e f g x xs rest p r = by_pick IsSome (leb e f) (λ t. tt)
      (λ t. let q : (e ≤ g) × (f + cells c ≤ g) = p (leb-false e f t) in
      some-map (λ (l : List Zone). lifted cells c e f x xs ∷ l) (shift cells area (suc c) (end_of cells c e (lifted cells c e f x xs)) rest)
      (r (end_of cells c e (lifted cells c e f x xs)) (lifted_end c e f g x xs q.0 q.1)))

  -- zones that lay from e₀ and were closed up have room from any place up to e₀
  low-some : (area c e e' f : ℕ) (x : Block) (xs : List Block) (zs : List Zone) (z : Zone) → LowTo cells c e f (x ∷ xs) z → e' ≤ f
      → ((k : ℕ) → k ≤ f + suc (length xs) * cells c → IsSome (shift cells area (suc c) k zs)) → IsSome (shift cells area c e' (z ∷ zs))
  low-some area c e e' f x xs zs empty l lo r = absurd l
  low-some area c e e' f x xs zs (from f₁ y ys) l lo r = shift-some area c e' f₁ f y ys zs (λ h. (lo, l.step (omega arith)))
      (λ k b. r k (rw (← low-length cells class_of pos c e f x xs f₁ y ys l) b))

  pub closed_some : (area c e₀ e e' : ℕ) (zs : List Zone) → Laid cells class_of area c e₀ zs → e ≤ e₀ → e' ≤ e₀ → IsSome (shift cells area c e' (close cells c e zs))
  unfolding close shift
  closed_some area c e₀ e e' [] h lo lo' = by_pick IsSome (leb e' area) (λ t. tt) (λ t. absurd (omega (arith, leb-false e' area t)))
  closed_some area c e₀ e e' (empty ∷ zs) h lo lo' =
      some-map (λ (l : List Zone). empty ∷ l) (shift cells area (suc c) e' (close cells (suc c) e zs)) (closed_some area (suc c) e₀ e e' zs h lo lo')
  closed_some area c e₀ e e' (from f x xs ∷ zs) h lo lo' =
      let z : Zone = lowered cells f c e f x xs in
      let l : LowTo cells c e f (x ∷ xs) z = lowered-low cells class_of pos f c e f x xs (omega arith) (omega arith) in
      low-some area c e e' f x xs (close cells (suc c) (end_of cells c e z) zs) z l (omega arith)
      (λ k b. closed_some area (suc c) (f + suc (length xs) * cells c) (end_of cells c e z) k zs h.1 (low_end cells class_of pos c e f x xs z l) b)

  -- zones from which tag t was taken out have room for one more block below them
  out_some : (t area c e e' f : ℕ) (x : Block) (xs : List Block) (zs : List Zone) (r : List Block) → Lies cells class_of c e f (x ∷ xs)
      → Laid cells class_of area (suc c) (f + suc (length xs) * cells c) zs → Out t (x ∷ xs) r → e' ≤ e + cells c
      → IsSome (shift cells area c e' (zone f r ∷ close cells (suc c) (end_of cells c e (zone f r)) zs))
  unfolding zone end_of shift
  out_some t area c e e' f x xs zs [] k h o lo =
      some-map (λ (l : List Zone). empty ∷ l) (shift cells area (suc c) e' (close cells (suc c) e zs))
      (closed_some area (suc c) (f + suc (length xs) * cells c) e e' zs h (omega arith) (omega arith))
  out_some t area c e e' f x xs zs (y ∷ ys) k h o lo =
      let l : suc (suc (length ys)) ≡ suc (length xs) = plength o.same in
      let g : ℕ = f + suc (length ys) * cells c in
      shift-some area c e' f (f + cells c) y ys (close cells (suc c) g zs) (λ p. (omega arith, omega arith))
      (λ j b. closed_some area (suc c) (f + suc (length xs) * cells c) g j zs h (rw (← l) (omega arith)) (rw (← l) (omega arith)))

  pub taken_some : (t area c e e' : ℕ) (zs : List Zone) → Laid cells class_of area c e zs → has_tag t (blocks zs) ≡ true → e' ≤ e + cells c
      → IsSome (shift cells area c e' (take_out cells t c e zs))
  unfolding take_out shift blocks has_tag
  taken_some t area c e e' [] h i lo = never i
  taken_some t area c e e' (empty ∷ zs) h i lo =
      some-map (λ (l : List Zone). empty ∷ l) (shift cells area (suc c) e' (take_out cells t (suc c) e zs)) (taken_some t area (suc c) e e' zs h i (omega (arith, mono c)))
  taken_some t area c e e' (from f x xs ∷ zs) h i lo = by_pick (λ (l : List Zone). IsSome (shift cells area c e' l)) (has_tag t (x ∷ xs))
      (λ p. out_some t area c e e' f x xs zs (removed t (x ∷ xs)) h.0 h.1 (removed_out t (x ∷ xs) p) lo)
      (λ p. let g : ℕ = f + suc (length xs) * cells c in
      shift-some area c e' f (f + cells c) x xs (take_out cells t (suc c) g zs) (λ q. (omega arith, omega arith))
      (λ k b. taken_some t area (suc c) g k zs h.1 (sym (has_append t (x ∷ xs) (blocks zs) p) ∙ i) (omega (arith, mono c))))

  take_out_skip : (t c e : ℕ) (z : Zone) (zs : List Zone) → Skips t z → take_out cells t c e (z ∷ zs) ≡ z ∷ take_out cells t (suc c) (end_of cells c e z) zs
  unfolding take_out end_of
  take_out_skip t c e empty zs n = refl
  take_out_skip t c e (from f x xs) zs n = by_pick (λ (l : List Zone). l ≡ from f x xs ∷ take_out cells t (suc c) (f + suc (length xs) * cells c) zs) (has_tag t (x ∷ xs))
      (λ p. never (sym n ∙ p)) (λ p. refl)

  laid_tail : (area c e : ℕ) (z : Zone) (zs : List Zone) → Laid cells class_of area c e (z ∷ zs) → Laid cells class_of area (suc c) (end_of cells c e z) zs
  unfolding end_of
  laid_tail area c e empty zs h = h
  laid_tail area c e (from f x xs) zs h = h.1

  added_end : (c e : ℕ) (b : Block) (z : Zone) → end_of cells c e (added e b z) ≤ end_of cells c e z + cells (suc c)
  unfolding end_of added
  added_end c e b empty = omega (arith, mono c)
  added_end c e b (from f x xs) = simp length_snoc (omega (arith, mono c))

  place-some : (t area c e n : ℕ) (b : Block) (zs : List Zone) → Laid cells class_of area c e zs → Above t n zs → IsSome (place cells area c e n b (take_out cells t c e zs))
  unfolding place
  place-some t area c e n b [] h a = absurd a
  place-some t area c e zero b (z ∷ zs) h a = rw (take_out_skip t c e z zs a.0)
      (some-map (λ (l : List Zone). added e b z ∷ l) (shift cells area (suc c) (end_of cells c e (added e b z)) (take_out cells t (suc c) (end_of cells c e z) zs))
      (taken_some t area (suc c) (end_of cells c e z) (end_of cells c e (added e b z)) zs (laid_tail area c e z zs h) a.1 (added_end c e b z)))
  place-some t area c e (suc n) b (z ∷ zs) h a = rw (take_out_skip t c e z zs a.0)
      (some-map (λ (l : List Zone). z ∷ l) (place cells area (suc c) (end_of cells c e z) n b (take_out cells t (suc c) (end_of cells c e z) zs))
      (place-some t area (suc c) (end_of cells c e z) n b zs (laid_tail area c e z zs h) a.1))

  above : (t area c e n : ℕ) (zs : List Zone) → Laid cells class_of area c e zs → has_tag t (blocks zs) ≡ true → c + n < class_of (length (find t (blocks zs))) → Above t n zs
  unfolding blocks has_tag
  above t area c e n [] h i k = never i
  above t area c e zero (empty ∷ zs) h i k = (tt, i)
  above t area c e (suc n) (empty ∷ zs) h i k = (tt, above t area (suc c) e n zs h i (omega arith))
  above t area c e zero (from f x xs ∷ zs) h i k = let n' : has_tag t (x ∷ xs) ≡ false = lower cells class_of t c 0 x xs (blocks zs) h.0.sit k in
      (n', sym (has_append t (x ∷ xs) (blocks zs) n') ∙ i)
  above t area c e (suc n) (from f x xs ∷ zs) h i k = let n' : has_tag t (x ∷ xs) ≡ false = lower cells class_of t c (suc n) x xs (blocks zs) h.0.sit k in (
    n',
    above t area (suc c) (f + suc (length xs) * cells c) n zs h.1 (sym (has_append t (x ∷ xs) (blocks zs) n') ∙ i)
        (omega (arith, ap (λ (l : List Record). class_of (length l)) (find_later t (x ∷ xs) (blocks zs) n'))),
  )

  pub shrink_room : (t area n : ℕ) (b : Block) (zs : List Zone) → Valid cells class_of area zs → has_tag t (blocks zs) ≡ true
      → n < class_of (length (find t (blocks zs))) → IsSome (place cells area 0 0 n b (take_out cells t 0 0 zs))
  shrink_room t area n b zs v i k = place-some t area 0 0 n b zs v.laid (above t area 0 0 n zs v.laid i (omega arith))
