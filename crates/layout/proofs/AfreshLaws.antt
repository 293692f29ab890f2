-- What laying out afresh keeps, and that it fails only where the sizes of all blocks add up to more than the area: for any block sizes that never fall, none of which is 0.
use Rattle.std.specs.Prelude.{◌≡◌, true, ◌≢◌, leb, length}
use Rattle.std.proofs.Math.Path.{refl, sym, ap, subst}
use Rattle.std.proofs.Common.{◌∙◌}
use Rattle.std.proofs.Math.Option.{none, some, IsSome}
use mathlib.Core.List.{List, [], ◌∷◌, ◌++◌}
use Prim.Native.Nat.{ℕ, zero, suc, ◌+◌, ◌*◌, ◌≤◌, ◌<◌}
use native.Mathlib.Omega.{arith}
use borrow.Author.Tests.{leb-true, leb-false, le-leb, lt-leb, ne_eqb}
use Rattle.wire.specs.Cases.{by_test, by_lt}
use Rattle.wire.specs.All.{All, none as nil, more, all_append}
use Rattle.wire.specs.Bytes.{is_some}
use Rattle.records.specs.declared.Record.{Record}
use Rattle.layout.specs.Zones.{Block, Zone, empty, from, end_of, blocks, has_tag, find, place, take_out, based, joined, total, afresh, lay_afresh, settle, change}
use Rattle.layout.specs.Perm.{Perm, ptrans, sum, after}
use Rattle.layout.specs.PermLaws.{prefl, psym, pleft, pright, pfront, protate, plength, psum}
use Rattle.layout.specs.Valid.{Sits, Laid, Fit, Valid}
use Rattle.layout.specs.Cases.{by_pick, or_else, Holds, holds_some, holds_both, holds_to, holds_else, holds_at, else_first, else_some, some_is, none_is}
use Rattle.layout.specs.FindLaws.{Lacks, pdistinct}
use Rattle.layout.specs.PlaceLaws.{length_snoc, Made, Placed, place-made, place-length}
use Rattle.layout.proofs.RoomLaws.{shrink_room}
use Rattle.layout.specs.Afresh.{by_class, behind, Gapless, just_before}
use Rattle.layout.specs.Sizes.{block_size, sizes}

-- ---- the same blocks in the same order

pub afresh-length : (cells : ℕ → ℕ) (c e : ℕ) (zs : List Zone) → length (afresh cells c e zs) ≡ length zs
unfolding afresh
afresh-length cells c e [] = refl
afresh-length cells c e (z ∷ zs) = ap suc (afresh-length cells (suc c) (end_of cells c e (based e z)) zs)

pub afresh-blocks : (cells : ℕ → ℕ) (c e : ℕ) (zs : List Zone) → blocks (afresh cells c e zs) ≡ blocks zs
unfolding afresh blocks
afresh-blocks cells c e [] = refl
afresh-blocks cells c e (empty ∷ zs) = afresh-blocks cells (suc c) e zs
afresh-blocks cells c e (from f x xs ∷ zs) = ap (λ (l : List Block). x ∷ (xs ++ l)) (afresh-blocks cells (suc c) (e + suc (length xs) * cells c) zs)

pub afresh_classes : (cells : ℕ → ℕ) (c e : ℕ) (zs : List Zone) → by_class (afresh cells c e zs) ≡ by_class zs
unfolding afresh by_class
afresh_classes cells c e [] = refl
afresh_classes cells c e (empty ∷ zs) = ap (λ (l : List (List Block)). [] ∷ l) (afresh_classes cells (suc c) e zs)
afresh_classes cells c e (from f x xs ∷ zs) = ap (λ (l : List (List Block)). (x ∷ xs) ∷ l) (afresh_classes cells (suc c) (e + suc (length xs) * cells c) zs)

pub afresh_gapless : (cells : ℕ → ℕ) (c e : ℕ) (zs : List Zone) → Gapless cells c e (afresh cells c e zs)
unfolding afresh
afresh_gapless cells c e [] = tt
afresh_gapless cells c e (empty ∷ zs) = afresh_gapless cells (suc c) e zs
afresh_gapless cells c e (from f x xs ∷ zs) = (refl, afresh_gapless cells (suc c) (e + suc (length xs) * cells c) zs)

pub joined_length : (n : ℕ) (b : Block) (zs : List Zone) → length (joined n b zs) ≡ length zs
unfolding joined
joined_length n b [] = refl
joined_length zero b (z ∷ zs) = refl
joined_length (suc n) b (z ∷ zs) = ap suc (joined_length n b zs)

pub joined_classes : (n : ℕ) (b : Block) (zs : List Zone) → by_class (joined n b zs) ≡ behind n b (by_class zs)
unfolding joined by_class behind
joined_classes n b [] = refl
joined_classes zero b (empty ∷ zs) = refl
joined_classes zero b (from f x xs ∷ zs) = refl
joined_classes (suc n) b (empty ∷ zs) = ap (λ (l : List (List Block)). [] ∷ l) (joined_classes n b zs)
joined_classes (suc n) b (from f x xs ∷ zs) = ap (λ (l : List (List Block)). (x ∷ xs) ∷ l) (joined_classes n b zs)

pub joined-blocks : (n : ℕ) (b : Block) (zs : List Zone) → n < length zs → Perm (blocks (joined n b zs)) (b ∷ blocks zs)
unfolding joined blocks
joined-blocks n b [] g = absurd (omega arith)
joined-blocks zero b (empty ∷ zs) g = prefl (b ∷ blocks zs)
joined-blocks zero b (from f x xs ∷ zs) g = pright (blocks zs) (protate b (x ∷ xs))
joined-blocks (suc n) b (empty ∷ zs) g = joined-blocks n b zs (omega arith)
joined-blocks (suc n) b (from f x xs ∷ zs) g = ptrans (pleft (x ∷ xs) (joined-blocks n b zs (omega arith))) (pfront b (x ∷ xs) (blocks zs))

pub joined-total : (cells : ℕ → ℕ) (c n k : ℕ) (b : Block) (zs : List Zone) → n < length zs → k ≡ c + n → total cells c (joined n b zs) ≡ total cells c zs + cells k
unfolding joined total
joined-total cells c n k b [] g q = absurd (omega arith)
joined-total cells c zero k b (empty ∷ zs) g q = let e : k ≡ c = omega arith in rw e (omega arith)
joined-total cells c zero k b (from f x xs ∷ zs) g q = let e : k ≡ c = omega arith in rw (e, length_snoc xs b) (omega arith)
joined-total cells c (suc n) k b (empty ∷ zs) g q = joined-total cells (suc c) n k b zs (omega arith) (omega arith)
joined-total cells c (suc n) k b (from f x xs ∷ zs) g q = omega (arith, joined-total cells (suc c) n k b zs (omega arith) (omega arith))

-- ---- sizes by zones and by lists

module _ (cells class_of : ℕ → ℕ) where
  -- every block of zones c and up is of its zone's class
  abbrev pub Seated : ℕ → List Zone → Type 0
  Seated c [] = Unit {0}
  Seated c (empty ∷ zs) = Seated (suc c) zs
  Seated c (from f x xs ∷ zs) = All (Sits cells class_of c) (x ∷ xs) × Seated (suc c) zs

  -- all of this holds without the rule on gaps
  pub laid_fit : (area c e : ℕ) (zs : List Zone) → Laid cells class_of area c e zs → Fit cells class_of area c e zs
  laid_fit area c e [] h = h
  laid_fit area c e (empty ∷ zs) h = laid_fit area (suc c) e zs h
  laid_fit area c e (from f x xs ∷ zs) h = (record { after = h.0.after; sit = h.0.sit }, laid_fit area (suc c) (f + suc (length xs) * cells c) zs h.1)

  pub fit_seated : (area c e : ℕ) (zs : List Zone) → Fit cells class_of area c e zs → Seated c zs
  fit_seated area c e [] h = tt
  fit_seated area c e (empty ∷ zs) h = fit_seated area (suc c) e zs h
  fit_seated area c e (from f x xs ∷ zs) h = (h.0.sit, fit_seated area (suc c) (f + suc (length xs) * cells c) zs h.1)

  pub fit_total : (area c e : ℕ) (zs : List Zone) → Fit cells class_of area c e zs → e + total cells c zs ≤ area
  unfolding total
  fit_total area c e [] h = omega arith
  fit_total area c e (empty ∷ zs) h = fit_total area (suc c) e zs h
  fit_total area c e (from f x xs ∷ zs) h = omega (arith, fit_total area (suc c) (f + suc (length xs) * cells c) zs h.1, h.0.after)

  pub laid-seated : (area c e : ℕ) (zs : List Zone) → Laid cells class_of area c e zs → Seated c zs
  laid-seated area c e zs h = fit_seated area c e zs (laid_fit area c e zs h)

  pub laid-total : (area c e : ℕ) (zs : List Zone) → Laid cells class_of area c e zs → e + total cells c zs ≤ area
  laid-total area c e zs h = fit_total area c e zs (laid_fit area c e zs h)

  pub size-some : (rs : List Record) → 0 < length rs → block_size cells class_of rs ≡ cells (class_of (length rs))
  unfolding block_size
  size-some [] g = absurd (omega arith)
  size-some (r ∷ rs) g = refl

  pub size-sits : (c : ℕ) (b : Block) → Sits cells class_of c b → block_size cells class_of b.list ≡ cells c
  size-sits c b s = size-some b.list s.some ∙ ap cells s.class

  sizes-row : (c : ℕ) (xs ys : List Block) → All (Sits cells class_of c) xs → sizes cells class_of (xs ++ ys) ≡ length xs * cells c + sizes cells class_of ys
  unfolding sum
  sizes-row c [] ys s = omega arith
  sizes-row c (x ∷ xs) ys (more a s) = omega (arith, size-sits c x a, sizes-row c xs ys s)

  pub total-sizes : (c : ℕ) (zs : List Zone) → Seated c zs → total cells c zs ≡ sizes cells class_of (blocks zs)
  unfolding total blocks sum
  total-sizes c [] s = refl
  total-sizes c (empty ∷ zs) s = total-sizes (suc c) zs s
  total-sizes c (from f x xs ∷ zs) s = ap (λ (n : ℕ). suc (length xs) * cells c + n) (total-sizes (suc c) zs s.1) ∙ sym (sizes-row c (x ∷ xs) (blocks zs) s.0)

  pub joined-seated : (c n k : ℕ) (b : Block) (zs : List Zone) → k ≡ c + n → Sits cells class_of k b → Seated c zs → Seated c (joined n b zs)
  unfolding joined
  joined-seated c n k b [] q s h = tt
  joined-seated c zero k b (empty ∷ zs) q s h = let e : k ≡ c = omega arith in (more (rw e at s) nil, h)
  joined-seated c zero k b (from f x xs ∷ zs) q s h = let e : k ≡ c = omega arith in (all_append h.0 (more (rw e at s) nil), h.1)
  joined-seated c (suc n) k b (empty ∷ zs) q s h = joined-seated (suc c) n k b zs (omega arith) s h
  joined-seated c (suc n) k b (from f x xs ∷ zs) q s h = (h.0, joined-seated (suc c) n k b zs (omega arith) s h.1)

  pub afresh-laid : ((c : ℕ) → 0 < cells c) → (area c e : ℕ) (zs : List Zone) → Seated c zs → e + total cells c zs ≤ area → Laid cells class_of area c e (afresh cells c e zs)
  unfolding afresh total
  afresh-laid pos area c e [] s h = omega arith
  afresh-laid pos area c e (empty ∷ zs) s h = afresh-laid pos area (suc c) e zs s h
  afresh-laid pos area c e (from f x xs ∷ zs) s h =
      (record { after = omega arith; tight = omega (arith, pos c); sit = s.0 }, afresh-laid pos area (suc c) (e + suc (length xs) * cells c) zs s.1 (omega arith))

-- ---- settled

module _ (cells class_of : ℕ → ℕ) (mono : (c : ℕ) → cells c ≤ cells (suc c)) (pos : (c : ℕ) → 0 < cells c) where
  -- laid with this block and the others, in as many zones
  record Settles (area : ℕ) (b : Block) (zs zs' : List Zone) : Type 0 where
    made : Made cells class_of area 0 0 (b ∷ blocks zs) zs'
    long : length zs' ≡ length zs

  module _ (area n : ℕ) (b : Block) (zs : List Zone) (h : Laid cells class_of area 0 0 zs) (s : Sits cells class_of n b) (g : n < length zs) where
    abbrev ys : List Zone
    ys = joined n b zs

    all : total cells 0 ys ≡ total cells 0 zs + cells n
    all = joined-total cells 0 n n b zs g (omega arith)

    placed_settles : Holds (Settles area b zs) (place cells area 0 0 n b zs)
    placed_settles =
        holds_both (Made cells class_of area 0 0 (b ∷ blocks zs)) (λ (r : List Zone). length r ≡ length zs) (Settles area b zs) (place cells area 0 0 n b zs) (λ r m l. record { made = m; long = l })
        (place-made cells class_of mono pos area 0 0 n n b zs (omega arith) s h) (place-length cells class_of mono pos area 0 0 n b zs)

    laid_settles : Holds (Settles area b zs) (lay_afresh cells area n b zs)
    unfolding lay_afresh
    laid_settles =
        by_pick (Holds (Settles area b zs)) (leb (total cells 0 ys) area)
        (λ t. record {
          made = record {
            laid = afresh-laid cells class_of pos area 0 0 ys (joined-seated cells class_of 0 n n b zs (omega arith) s (laid-seated cells class_of area 0 0 zs h)) (omega (arith, leb-true (total cells 0 ys) area t));
            same = subst (λ (l : List Block). Perm l (b ∷ blocks zs)) (sym (afresh-blocks cells 0 0 ys)) (joined-blocks n b zs g);
          };
          long = afresh-length cells 0 0 ys ∙ joined_length n b zs;
        })
        (λ t. tt)

    settles : Holds (Settles area b zs) (settle cells area n b zs)
    unfolding settle
    settles = holds_else (Settles area b zs) (place cells area 0 0 n b zs) (lay_afresh cells area n b zs) placed_settles laid_settles

    -- all blocks lie in the area
    settled-fits : (zs' : List Zone) → Settles area b zs zs' → total cells 0 zs + cells n ≤ area
    unfolding sum
    settled-fits zs' m =
        omega (
          arith,
          laid-total cells class_of area 0 0 zs' m.made.laid,
          total-sizes cells class_of 0 zs' (laid-seated cells class_of area 0 0 zs' m.made.laid),
          psum (λ (y : Block). block_size cells class_of y.list) m.made.same,
          size-sits cells class_of n b s,
          total-sizes cells class_of 0 zs (laid-seated cells class_of area 0 0 zs h),
        )

    settle-some : total cells 0 zs + cells n ≤ area → IsSome (settle cells area n b zs)
    unfolding settle lay_afresh
    settle-some f =
        else_some (place cells area 0 0 n b zs) (lay_afresh cells area n b zs) (by_pick IsSome (leb (total cells 0 ys) area) (λ t. tt) (λ t. absurd (omega (arith, all, leb-false (total cells 0 ys) area t))))

    -- "Refusal 12 then means only this: the sizes of all blocks after the edit add up to more than the record area"
    pub settle_exactly : is_some (settle cells area n b zs) ≡ leb (total cells 0 zs + cells n) area
    settle_exactly =
        by_lt area (total cells 0 zs + cells n)
        (λ o. none_is (settle cells area n b zs) (λ i. holds_at (Settles area b zs) (settle cells area n b zs) i settles (λ zs' m. omega (arith, settled-fits zs' m))) ∙ sym (lt-leb (total cells 0 zs + cells n) area o))
        (λ f. some_is (settle cells area n b zs) (settle-some f) ∙ sym (le-leb (total cells 0 zs + cells n) area f))

  -- where placing finds room nothing is laid out afresh
  pub settle_placed : (area n : ℕ) (b : Block) (zs : List Zone) → IsSome (place cells area 0 0 n b zs) → settle cells area n b zs ≡ place cells area 0 0 n b zs
  unfolding settle
  settle_placed area n b zs h = else_first (place cells area 0 0 n b zs) (lay_afresh cells area n b zs) h

  -- where it finds none there is no gap afterwards, and each class's blocks lie in their order with b behind them
  pub settle-afresh : (area n : ℕ) (b : Block) (zs zs' : List Zone) → place cells area 0 0 n b zs ≡ none → settle cells area n b zs ≡ some zs'
      → (zs' ≡ afresh cells 0 0 (joined n b zs)) × Gapless cells 0 0 zs' × (by_class zs' ≡ behind n b (by_class zs))
  unfolding settle or_else lay_afresh
  settle-afresh area n b zs zs' p q =
      let ys : List Zone = afresh cells 0 0 (joined n b zs) in
      let e : zs' ≡ ys = holds_some (λ (r : List Zone). r ≡ ys) (settle cells area n b zs) zs' q
      (rw p (by_pick (Holds (λ (r : List Zone). r ≡ ys)) (leb (total cells 0 (joined n b zs)) area) (λ t. refl) (λ t. tt))) in
      (e, rw e (afresh_gapless cells 0 0 (joined n b zs)), rw e (afresh_classes cells 0 0 (joined n b zs) ∙ joined_classes n b zs))

  -- the layout stays valid, with the block and the others
  module _ (area n : ℕ) (b : Block) (zs : List Zone) (v : Valid cells class_of area zs) (s : Sits cells class_of n b) (g : n < 30) (new : Lacks b.tag (blocks zs)) (few : length (blocks zs) < 256) where
    settles_placed : (zs' : List Zone) → Settles area b zs zs' → Placed cells class_of area b zs zs'
    settles_placed zs' m = record {
      valid = record { classes = m.long ∙ v.classes; laid = m.made.laid; distinct = pdistinct (psym m.made.same) (after new v.distinct); few = omega (arith, plength m.made.same) };
      same = m.made.same;
    }

    pub settle_holds : Holds (Placed cells class_of area b zs) (settle cells area n b zs)
    settle_holds =
        holds_to (Settles area b zs) (Placed cells class_of area b zs) (settle cells area n b zs) settles_placed (settles area n b zs v.laid s (omega (arith, v.classes)))

    pub laid_holds : Holds (Placed cells class_of area b zs) (lay_afresh cells area n b zs)
    laid_holds =
        holds_to (Settles area b zs) (Placed cells class_of area b zs) (lay_afresh cells area n b zs) settles_placed (laid_settles area n b zs v.laid s (omega (arith, v.classes)))

  -- a block of a lower class than the one taken out before is placed, so that a delete lays nothing out afresh
  pub settle_shorter : (t area n : ℕ) (b : Block) (zs : List Zone) → Valid cells class_of area zs → has_tag t (blocks zs) ≡ true → n < class_of (length (find t (blocks zs)))
      → settle cells area n b (take_out cells t 0 0 zs) ≡ place cells area 0 0 n b (take_out cells t 0 0 zs)
  settle_shorter t area n b zs v i k = settle_placed area n b (take_out cells t 0 0 zs) (shrink_room cells class_of mono pos t area n b zs v i k)

-- a list that does not stay in its block is settled
pub change_settles : (cells class_of : ℕ → ℕ) (area t : ℕ) (rs : List Record) (zs : List Zone) → 0 < length rs → (has_tag t (blocks zs) ≡ true → class_of (length (find t (blocks zs))) ≢ class_of (length rs))
    → change cells class_of area t rs zs ≡ settle cells area (class_of (length rs)) (record { tag = t; list = rs }) (just_before cells t zs)
unfolding change just_before
change_settles cells class_of area t [] zs g d = absurd (omega arith)
change_settles cells class_of area t (r ∷ rs) zs g d =
    by_test (has_tag t (blocks zs)) (λ i. rw (i, ne_eqb (class_of (length (find t (blocks zs)))) (class_of (length (r ∷ rs))) (d i))) (λ i. rw i)
