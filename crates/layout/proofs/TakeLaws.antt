-- Taking a block out and closing up keep the layout.
use Rattle.std.specs.Prelude.{◌≡◌, true, ◌≢◌, leb, eqb}
use Rattle.std.proofs.Math.Path.{refl, ap}
use Rattle.std.proofs.Common.{sym, ◌∙◌, subst, arith}
use mathlib.Core.List.{List, [], ◌∷◌, ◌++◌}
use Prim.Native.Nat.{ℕ, zero, suc, ◌+◌, ◌*◌, ◌-◌, ◌≤◌, ◌<◌}
use Rattle.std.proofs.Math.ListN.{length}
use borrow.Author.Tests.{leb-true, leb-false, eqb-true}
use Rattle.wire.specs.Cases.{never}
use Rattle.wire.specs.All.{All, all_tail}
use Rattle.layout.specs.Zones.{Block, Zone, empty, from, zone, end_of, last_of, init_of, turned, has_tag, removed, lowered, close, take_out, blocks, find}
use Rattle.layout.specs.Perm.{Perm, pnil, pskip, pswap, ptrans, Pairs}
use Rattle.layout.specs.Valid.{Other, Sits, Lies, Laid, Valid}
use Rattle.layout.specs.Cases.{by_pick}
use Rattle.layout.specs.PermLaws.{prefl, psym, pleft, pright, pfront, plength, pall, pairs_head, pairs_tail}
use Rattle.layout.specs.FindLaws.{Lacks, pdistinct, find_skip, has_append, pfind}
use Rattle.layout.specs.PlaceLaws.{Made}

-- ---- the last block in front

pub last_perm : (x : Block) (xs : List Block) → Perm (last_of x xs ∷ init_of x xs) (x ∷ xs)
unfolding last_of init_of
last_perm x [] = prefl (x ∷ [])
last_perm x (y ∷ ys) = ptrans (pswap (last_of y ys) x (init_of y ys)) (pskip x (last_perm y ys))

pub turned_perm : (xs : List Block) → Perm (turned xs) xs
unfolding turned
turned_perm [] = pnil
turned_perm (x ∷ xs) = last_perm x xs

-- ---- taking out

-- a block with tag t is gone
pub record Out (t : ℕ) (bs bs' : List Block) : Type 0 where
  pub block : Block
  pub tag : block.tag ≡ t
  pub same : Perm (block ∷ bs') bs

pub removed_out : (t : ℕ) (bs : List Block) → has_tag t bs ≡ true → Out t bs (removed t bs)
unfolding has_tag removed
removed_out t [] h = never h
removed_out t (x ∷ xs) h = by_pick (λ (l : List Block). has_tag t (x ∷ xs) ≡ true → Out t (x ∷ xs) l) (eqb x.tag t)
    (λ p i. record { block = x; tag = eqb-true x.tag t p; same = pskip x (turned_perm xs) })
    (λ p i. let o : Out t xs (removed t xs) = removed_out t xs (rw p at i) in
    record { block = o.block; tag = o.tag; same = ptrans (pswap o.block x (removed t xs)) (pskip x o.same) }) h

-- ---- closing up

module _ (cells : ℕ → ℕ) where
  -- a zone of blocks bs from f closed up to f'
  pub record Low (c e f : ℕ) (bs : List Block) (f' : ℕ) (bs' : List Block) : Type 0 where
    pub after : e ≤ f'
    pub tight : f' < e + cells c
    pub down : f' ≤ f
    pub step : f' < f → f' + cells c ≤ f
    pub same : Perm bs' bs

  abbrev pub LowTo : (c e f : ℕ) (bs : List Block) → Zone → Type 0
  LowTo c e f bs empty = ⊥
  LowTo c e f bs (from f' x xs) = Low c e f bs f' (x ∷ xs)

module _ (cells class_of : ℕ → ℕ) where
  -- zones laid from e on, with all blocks of bs but one with tag t
  pub record Taken (t area c e : ℕ) (bs : List Block) (zs : List Zone) : Type 0 where
    pub laid : Laid cells class_of area c e zs
    pub out : Out t bs (blocks zs)

  -- valid without tag t, every other tag's list as before
  pub record TakenOut (t area : ℕ) (zs zs' : List Zone) : Type 0 where
    pub valid : Valid cells class_of area zs'
    pub gone : Lacks t (blocks zs')
    pub others : (u : ℕ) → u ≢ t → find u (blocks zs') ≡ find u (blocks zs)

module _ (cells class_of : ℕ → ℕ) (pos : (c : ℕ) → 0 < cells c) where
  low_again : (c e f f₁ : ℕ) (bs bs₁ : List Block) → f₁ + cells c ≤ f → Perm bs₁ bs → (z : Zone) → LowTo cells c e f₁ bs₁ z → LowTo cells c e f bs z
  low_again c e f f₁ bs bs₁ k p empty l = l
  low_again c e f f₁ bs bs₁ k p (from f' x xs) l =
      record { after = l.after; tight = l.tight; down = omega arith; step = λ h. omega arith; same = ptrans l.same p }

  pub lowered-low : (n c e f : ℕ) (x : Block) (xs : List Block) → e ≤ f → f ≤ e + n → LowTo cells c e f (x ∷ xs) (lowered cells n c e f x xs)
  unfolding lowered
  lowered-low zero c e f x xs lo hi =
      record { after = lo; tight = omega (arith, pos c); down = omega arith; step = λ h. omega arith; same = prefl (x ∷ xs) }
  lowered-low (suc n) c e f x xs lo hi = by_pick (LowTo cells c e f (x ∷ xs)) (leb (e + cells c) f)
      (λ t. let k : e + cells c ≤ f = leb-true (e + cells c) f t in
      low_again c e f (f - cells c) (x ∷ xs) (last_of x xs ∷ init_of x xs) (omega arith) (last_perm x xs)
      (lowered cells n c e (f - cells c) (last_of x xs) (init_of x xs))
      (lowered-low n c e (f - cells c) (last_of x xs) (init_of x xs) (omega arith) (omega (arith, pos c))))
      (λ t. let k : f < e + cells c = leb-false (e + cells c) f t in
      record { after = lo; tight = k; down = omega arith; step = λ h. omega arith; same = prefl (x ∷ xs) })

  pub low-length : (c e f : ℕ) (x : Block) (xs : List Block) (f' : ℕ) (x' : Block) (xs' : List Block) → Low cells c e f (x ∷ xs) f' (x' ∷ xs') → length xs' ≡ length xs
  low-length c e f x xs f' x' xs' l = omega (arith, plength l.same)

  pub low_end : (c e f : ℕ) (x : Block) (xs : List Block) (z : Zone) → LowTo cells c e f (x ∷ xs) z → end_of cells c e z ≤ f + suc (length xs) * cells c
  unfolding end_of
  low_end c e f x xs empty l = absurd l
  low_end c e f x xs (from f' x' xs') l = rw (low-length c e f x xs f' x' xs' l) (omega arith)

  low-cons : (area c e f : ℕ) (x : Block) (xs : List Block) (zs rest : List Zone) (z : Zone) → All (Sits cells class_of c) (x ∷ xs) → LowTo cells c e f (x ∷ xs) z
      → Made cells class_of area (suc c) (end_of cells c e z) (blocks zs) rest → Made cells class_of area c e (blocks (from f x xs ∷ zs)) (z ∷ rest)
  unfolding end_of blocks
  low-cons area c e f x xs zs rest empty s l m = absurd l
  low-cons area c e f x xs zs rest (from f' x' xs') s l m = record {
    laid = (record { after = l.after; tight = l.tight; sit = pall (Sits cells class_of c) (psym l.same) s }, m.laid);
    same = ptrans (pleft (x' ∷ xs') m.same) (pright (blocks zs) l.same);
  }

  -- zones laid from e₀, closed up from an earlier e
  pub close-made : (area c e₀ e : ℕ) (zs : List Zone) → Laid cells class_of area c e₀ zs → e ≤ e₀ → Made cells class_of area c e (blocks zs) (close cells c e zs)
  unfolding close blocks
  close-made area c e₀ e [] h lo = record { laid = omega arith; same = pnil }
  close-made area c e₀ e (empty ∷ zs) h lo =
      let m : Made cells class_of area (suc c) e (blocks zs) (close cells (suc c) e zs) = close-made area (suc c) e₀ e zs h lo in
      record { laid = m.laid; same = m.same }
  close-made area c e₀ e (from f x xs ∷ zs) h lo =
      let z : Zone = lowered cells f c e f x xs in
      let l : LowTo cells c e f (x ∷ xs) z = lowered-low f c e f x xs (omega arith) (omega arith) in
      low-cons area c e f x xs zs (close cells (suc c) (end_of cells c e z) zs) z h.0.sit l
      (close-made area (suc c) (f + suc (length xs) * cells c) (end_of cells c e z) zs h.1 (low_end c e f x xs z l))

  out_zone : (t area c e f : ℕ) (x : Block) (xs : List Block) (zs : List Zone) (r : List Block) → Lies cells class_of c e f (x ∷ xs)
      → Laid cells class_of area (suc c) (f + suc (length xs) * cells c) zs → Out t (x ∷ xs) r
      → Taken cells class_of t area c e (x ∷ (xs ++ blocks zs)) (zone f r ∷ close cells (suc c) (end_of cells c e (zone f r)) zs)
  unfolding zone end_of blocks
  out_zone t area c e f x xs zs [] k h o =
      let m : Made cells class_of area (suc c) e (blocks zs) (close cells (suc c) e zs) = close-made area (suc c) (f + suc (length xs) * cells c) e zs h (omega arith) in
      record { laid = m.laid; out = record { block = o.block; tag = o.tag; same = ptrans (pskip o.block m.same) (pright (blocks zs) o.same) } }
  out_zone t area c e f x xs zs (y ∷ ys) k h o =
      let l : suc (suc (length ys)) ≡ suc (length xs) = plength o.same in
      let g : ℕ = f + suc (length ys) * cells c in
      let m : Made cells class_of area (suc c) g (blocks zs) (close cells (suc c) g zs) = close-made area (suc c) (f + suc (length xs) * cells c) g zs h (rw (← l) (omega arith)) in
      record {
        laid = (record { after = k.after; tight = k.tight; sit = all_tail (pall (Sits cells class_of c) (psym o.same) k.sit) }, m.laid);
        out = record { block = o.block; tag = o.tag; same = ptrans (pleft (o.block ∷ y ∷ ys) m.same) (pright (blocks zs) o.same) };
      }

  pub take_out_taken : (t area c e : ℕ) (zs : List Zone) → Laid cells class_of area c e zs → has_tag t (blocks zs) ≡ true → Taken cells class_of t area c e (blocks zs) (take_out cells t c e zs)
  unfolding take_out blocks has_tag
  take_out_taken t area c e [] h i = never i
  take_out_taken t area c e (empty ∷ zs) h i =
      let k : Taken cells class_of t area (suc c) e (blocks zs) (take_out cells t (suc c) e zs) = take_out_taken t area (suc c) e zs h i in
      record { laid = k.laid; out = k.out }
  take_out_taken t area c e (from f x xs ∷ zs) h i = by_pick (Taken cells class_of t area c e (x ∷ (xs ++ blocks zs))) (has_tag t (x ∷ xs))
      (λ p. out_zone t area c e f x xs zs (removed t (x ∷ xs)) h.0 h.1 (removed_out t (x ∷ xs) p))
      (λ p. let g : ℕ = f + suc (length xs) * cells c in
      let k : Taken cells class_of t area (suc c) g (blocks zs) (take_out cells t (suc c) g zs) = take_out_taken t area (suc c) g zs h.1 (sym (has_append t (x ∷ xs) (blocks zs) p) ∙ i) in
      record {
        laid = (h.0, k.laid);
        out = record {
          block = k.out.block;
          tag = k.out.tag;
          same = ptrans (psym (pfront k.out.block (x ∷ xs) (blocks (take_out cells t (suc c) g zs)))) (pleft (x ∷ xs) k.out.same);
        };
      })

  pub close-length : (c e : ℕ) (zs : List Zone) → length (close cells c e zs) ≡ length zs
  unfolding close
  close-length c e [] = refl
  close-length c e (empty ∷ zs) = ap suc (close-length (suc c) e zs)
  close-length c e (from f x xs ∷ zs) = ap suc (close-length (suc c) (end_of cells c e (lowered cells f c e f x xs)) zs)

  pub take_out-length : (t c e : ℕ) (zs : List Zone) → length (take_out cells t c e zs) ≡ length zs
  unfolding take_out
  take_out-length t c e [] = refl
  take_out-length t c e (empty ∷ zs) = ap suc (take_out-length t (suc c) e zs)
  take_out-length t c e (from f x xs ∷ zs) = by_pick (λ (l : List Zone). length l ≡ suc (length zs)) (has_tag t (x ∷ xs))
      (λ p. ap suc (close-length (suc c) (end_of cells c e (zone f (removed t (x ∷ xs)))) zs))
      (λ p. ap suc (take_out-length t (suc c) (f + suc (length xs) * cells c) zs))

  pub take_out-valid : (t area : ℕ) (zs : List Zone) → Valid cells class_of area zs → has_tag t (blocks zs) ≡ true → TakenOut cells class_of t area zs (take_out cells t 0 0 zs)
  take_out-valid t area zs v i =
      let zs' : List Zone = take_out cells t 0 0 zs in
      let k : Taken cells class_of t area 0 0 (blocks zs) zs' = take_out_taken t area 0 0 zs v.laid i in
      let b : Block = k.out.block in
      let d : Pairs Other (b ∷ blocks zs') = pdistinct (psym k.out.same) v.distinct in
      record {
        valid = record { classes = take_out-length t 0 0 zs ∙ v.classes; laid = k.laid; distinct = pairs_tail Other b (blocks zs') d; few = omega (arith, plength k.out.same, v.few) };
        gone = subst (λ (n : ℕ). Lacks n (blocks zs')) k.out.tag (pairs_head Other b (blocks zs') d);
        others = λ u n. sym (find_skip u b (blocks zs') (λ e. n (e ∙ k.out.tag))) ∙ pfind u k.out.same d;
      }
