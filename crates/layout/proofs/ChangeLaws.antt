-- A tag's list changed: the layout stays valid, the tag has the new list, and every other tag its own. A list that does not grow finds room.
use Rattle.std.specs.Prelude.{◌≡◌, refl, true, false, ◌≢◌, eqb}
use Rattle.std.proofs.Math.Path.{sym}
use Rattle.std.proofs.Common.{ap, ◌∙◌, subst, arith}
use Rattle.std.proofs.Math.Option.{IsSome}
use mathlib.Core.List.{List, [], ◌∷◌, ◌++◌}
use Prim.Native.Nat.{ℕ, suc, ◌+◌, ◌*◌, ◌≤◌, ◌<◌}
use Rattle.std.proofs.Math.ListN.{length}
use borrow.Author.Tests.{eqb-true, eqb-false}
use Rattle.wire.specs.Cases.{never}
use Rattle.wire.specs.All.{more, all_tail}
use Rattle.records.specs.declared.Record.{Record}
use Rattle.layout.specs.Zones.{Block, Zone, empty, from, zone, place, has_tag, take_out, blocks, find, replaced, rewritten, settle, change}
use Rattle.layout.specs.Perm.{Perm, pskip, pswap, ptrans, Pairs, after}
use Rattle.layout.specs.Rising.{Rising}
use Rattle.layout.specs.Valid.{Other, Sits, Lies, Laid, Valid, Proper}
use Rattle.layout.specs.Cases.{by_pick, Holds, holds_to}
use Rattle.layout.specs.PermLaws.{prefl, psym, pleft, pright, pfront, plength, pall, pairs_head, pairs_tail}
use Rattle.layout.specs.FindLaws.{Lacks, pdistinct, find_here, find_skip, has_append, find_later, find_none, lacks_has, pfind}
use Rattle.layout.specs.PlaceLaws.{Placed}
use Rattle.layout.proofs.AfreshLaws.{settle_holds, settle_placed}
use Rattle.layout.proofs.TakeLaws.{TakenOut, take_out_taken, take_out-valid}
use Rattle.layout.proofs.RoomLaws.{find_class, shrink_room}

-- ---- a list changed where it lies

-- bs' is bs with one block of tag t replaced by b, in any order
pub record Swapped (t : ℕ) (b : Block) (bs bs' : List Block) : Type 0 where
  pub old : Block
  pub rest : List Block
  pub tag : old.tag ≡ t
  pub was : Perm bs (old ∷ rest)
  pub is : Perm bs' (b ∷ rest)

replaced_swapped : (t : ℕ) (rs : List Record) (bs : List Block) → has_tag t bs ≡ true → Swapped t (record { tag = t; list = rs }) bs (replaced t rs bs)
unfolding replaced has_tag
replaced_swapped t rs [] h = never h
replaced_swapped t rs (x ∷ xs) h = by_pick (λ (l : List Block). has_tag t (x ∷ xs) ≡ true → Swapped t (record { tag = t; list = rs }) (x ∷ xs) l) (eqb x.tag t)
    (λ p i. record { old = x; rest = xs; tag = eqb-true x.tag t p; was = prefl _; is = prefl _ })
    (λ p i. let s : Swapped t (record { tag = t; list = rs }) xs (replaced t rs xs) = replaced_swapped t rs xs (rw p at i) in
    record { old = s.old; rest = x ∷ s.rest; tag = s.tag; was = ptrans (pskip x s.was) (pswap x s.old s.rest); is = ptrans (pskip x s.is) (pswap x _ s.rest) }) h

swapped_more : (t : ℕ) (b : Block) (bs bs' zs : List Block) → Swapped t b bs bs' → Swapped t b (bs ++ zs) (bs' ++ zs)
swapped_more t b bs bs' zs s = record { old = s.old; rest = s.rest ++ zs; tag = s.tag; was = pright zs s.was; is = pright zs s.is }

swapped_after : (t : ℕ) (b : Block) (xs bs bs' : List Block) → Swapped t b bs bs' → Swapped t b (xs ++ bs) (xs ++ bs')
swapped_after t b xs bs bs' s = record {
  old = s.old;
  rest = xs ++ s.rest;
  tag = s.tag;
  was = ptrans (pleft xs s.was) (pfront s.old xs s.rest);
  is = ptrans (pleft xs s.is) (pfront b xs s.rest);
}

rewritten-length : (t : ℕ) (rs : List Record) (zs : List Zone) → length (rewritten t rs zs) ≡ length zs
unfolding rewritten
rewritten-length t rs [] = refl
rewritten-length t rs (empty ∷ zs) = ap suc (rewritten-length t rs zs)
rewritten-length t rs (from f x xs ∷ zs) = by_pick (λ (l : List Zone). length l ≡ suc (length zs)) (has_tag t (x ∷ xs)) (λ p. refl) (λ p. ap suc (rewritten-length t rs zs))

module _ (cells class_of : ℕ → ℕ) where
  -- zones laid from e on, with the block b in place of one with tag t
  pub record Rewritten (t n c e : ℕ) (b : Block) (bs : List Block) (zs : List Zone) : Type 0 where
    pub laid : Laid cells class_of n c e zs
    pub swapped : Swapped t b bs (blocks zs)

  -- the outcome of an edit of tag t
  pub record Changed (t n : ℕ) (rs : List Record) (zs zs' : List Zone) : Type 0 where
    pub valid : Valid cells class_of n zs'
    pub found : find t (blocks zs') ≡ rs
    pub others : (u : ℕ) → u ≢ t → find u (blocks zs') ≡ find u (blocks zs)

  in_zone : (t n c e f : ℕ) (b x : Block) (xs r : List Block) (zs : List Zone) → Sits cells class_of c b → Lies cells class_of c e f (x ∷ xs) → Laid cells class_of n (suc c) (f + suc (length xs) * cells c) zs
      → Swapped t b (x ∷ xs) r → Rewritten t n c e b (x ∷ (xs ++ blocks zs)) (zone f r ∷ zs)
  unfolding zone blocks
  in_zone t n c e f b x xs [] zs s k h w = absurd (omega (arith, plength w.is))
  in_zone t n c e f b x xs (y ∷ ys) zs s k h w =
      let l : length xs ≡ length ys = omega (arith, plength w.is, plength w.was) in
      record {
        laid = (record { after = k.after; tight = k.tight; sit = pall (Sits cells class_of c) (psym w.is) (more s (all_tail (pall (Sits cells class_of c) w.was k.sit))) }, rw l at h);
        swapped = swapped_more t b (x ∷ xs) (y ∷ ys) (blocks zs) w;
      }

  rewritten-made : (t n c e k : ℕ) (rs : List Record) (zs : List Zone) → Laid cells class_of n c e zs → has_tag t (blocks zs) ≡ true → Sits cells class_of k (record { tag = t; list = rs })
      → class_of (length (find t (blocks zs))) ≡ k → Rewritten t n c e (record { tag = t; list = rs }) (blocks zs) (rewritten t rs zs)
  unfolding rewritten blocks has_tag
  rewritten-made t n c e k rs [] h i s q = never i
  rewritten-made t n c e k rs (empty ∷ zs) h i s q =
      let m : Rewritten t n (suc c) e (record { tag = t; list = rs }) (blocks zs) (rewritten t rs zs) = rewritten-made t n (suc c) e k rs zs h i s q in
      record { laid = m.laid; swapped = m.swapped }
  rewritten-made t n c e k rs (from f x xs ∷ zs) h i s q = by_pick (Rewritten t n c e (record { tag = t; list = rs }) (x ∷ (xs ++ blocks zs))) (has_tag t (x ∷ xs))
      (λ p. let kc : k ≡ c = sym q ∙ find_class cells class_of t c (x ∷ xs) (blocks zs) h.0.sit p in
      in_zone t n c e f (record { tag = t; list = rs }) x xs (replaced t rs (x ∷ xs)) zs (rw kc at s) h.0 h.1 (replaced_swapped t rs (x ∷ xs) p))
      (λ p. let m : Rewritten t n (suc c) (f + suc (length xs) * cells c) (record { tag = t; list = rs }) (blocks zs) (rewritten t rs zs) =
      rewritten-made t n (suc c) (f + suc (length xs) * cells c) k rs zs h.1 (sym (has_append t (x ∷ xs) (blocks zs) p) ∙ i) s
      (sym (ap (λ (l : List Record). class_of (length l)) (find_later t (x ∷ xs) (blocks zs) p)) ∙ q) in
      record { laid = (h.0, m.laid); swapped = swapped_after t (record { tag = t; list = rs }) (x ∷ xs) (blocks zs) (blocks (rewritten t rs zs)) m.swapped })

  -- one block replaced by another with its tag
  swapped_changed : (t n : ℕ) (rs : List Record) (zs zs' : List Zone) → Valid cells class_of n zs → length zs' ≡ length zs → Laid cells class_of n 0 0 zs'
      → Swapped t (record { tag = t; list = rs }) (blocks zs) (blocks zs') → Changed t n rs zs zs'
  swapped_changed t n rs zs zs' v l h s =
      let b : Block = record { tag = t; list = rs } in
      let d : Pairs Other (s.old ∷ s.rest) = pdistinct s.was v.distinct in
      let d' : Pairs Other (b ∷ s.rest) = after (subst (λ (m : ℕ). Lacks m s.rest) s.tag (pairs_head Other s.old s.rest d)) (pairs_tail Other s.old s.rest d) in
      let db : Pairs Other (blocks zs') = pdistinct (psym s.is) d' in
      record {
        valid = record { classes = l ∙ v.classes; laid = h; distinct = db; few = omega (arith, plength s.is, plength s.was, v.few) };
        found = pfind t s.is db ∙ find_here t b s.rest refl;
        others = λ u k. pfind u s.is db ∙ find_skip u b s.rest k
            ∙ sym (pfind u s.was v.distinct ∙ find_skip u s.old s.rest (λ e. k (e ∙ s.tag)));
      }

module _ (cells class_of : ℕ → ℕ) (up : Rising cells class_of) where
  pub sits : (t : ℕ) (r : Record) (rs : List Record) → t < 4294967296 → Proper (r ∷ rs) → Sits cells class_of (class_of (length (r ∷ rs))) (record { tag = t; list = r ∷ rs })
  sits t r rs b h = record { tag = b; some = omega arith; room = up.holds (length (r ∷ rs)) h.short; class = refl; rising = h.rising; fits = h.fits }

  module _ (n t : ℕ) (zs : List Zone) (v : Valid cells class_of n zs) (bt : t < 4294967296) where
    drop-changed : has_tag t (blocks zs) ≡ true → Changed cells class_of t n [] zs (take_out cells t 0 0 zs)
    drop-changed i = let k : TakenOut cells class_of t n zs (take_out cells t 0 0 zs) = take_out-valid cells class_of up.pos t n zs v i in
        record { valid = k.valid; found = find_none t (blocks (take_out cells t 0 0 zs)) k.gone; others = k.others }

    module _ (r : Record) (rs : List Record) (l : Proper (r ∷ rs)) where
      settled-changed : (ws zs' : List Zone) → Valid cells class_of n ws → Lacks t (blocks ws) → ((u : ℕ) → u ≢ t → find u (blocks ws) ≡ find u (blocks zs))
          → Placed cells class_of n (record { tag = t; list = r ∷ rs }) ws zs' → Changed cells class_of t n (r ∷ rs) zs zs'
      settled-changed ws zs' w k o p =
          let b : Block = record { tag = t; list = r ∷ rs } in
          let d : Pairs Other (blocks zs') = pdistinct (psym p.same) (after k w.distinct) in
          record { valid = p.valid; found = pfind t p.same d ∙ find_here t b (blocks ws) refl; others = λ u q. pfind u p.same d ∙ find_skip u b (blocks ws) q ∙ o u q }

      new-changed : has_tag t (blocks zs) ≡ false → length (blocks zs) < 256
          → Holds (Changed cells class_of t n (r ∷ rs) zs) (settle cells n (class_of (length (r ∷ rs))) (record { tag = t; list = r ∷ rs }) zs)
      new-changed i few =
          let b : Block = record { tag = t; list = r ∷ rs } in
          let c : ℕ = class_of (length (r ∷ rs)) in
          let k : Lacks t (blocks zs) = lacks_has t (blocks zs) i in
          holds_to (Placed cells class_of n b zs) (Changed cells class_of t n (r ∷ rs) zs) (settle cells n c b zs)
          (λ zs' p. settled-changed zs zs' v k (λ u q. refl) p)
          (settle_holds cells class_of up.mono up.pos n c b zs v (sits t r rs bt l) (up.below (length (r ∷ rs)) l.short) k few)

      moved-changed : has_tag t (blocks zs) ≡ true → Holds (Changed cells class_of t n (r ∷ rs) zs) (settle cells n (class_of (length (r ∷ rs))) (record { tag = t; list = r ∷ rs }) (take_out cells t 0 0 zs))
      moved-changed i =
          let b : Block = record { tag = t; list = r ∷ rs } in
          let c : ℕ = class_of (length (r ∷ rs)) in
          let ys : List Zone = take_out cells t 0 0 zs in
          let k : TakenOut cells class_of t n zs ys = take_out-valid cells class_of up.pos t n zs v i in
          let m : suc (length (blocks ys)) ≡ length (blocks zs) = plength (take_out_taken cells class_of up.pos t n 0 0 zs v.laid i).out.same in
          holds_to (Placed cells class_of n b ys) (Changed cells class_of t n (r ∷ rs) zs) (settle cells n c b ys)
          (λ zs' p. settled-changed ys zs' k.valid k.gone k.others p)
          (settle_holds cells class_of up.mono up.pos n c b ys k.valid (sits t r rs bt l) (up.below (length (r ∷ rs)) l.short) k.gone (omega (arith, m, v.few)))

      same_changed : has_tag t (blocks zs) ≡ true → class_of (length (find t (blocks zs))) ≡ class_of (length (r ∷ rs)) → Changed cells class_of t n (r ∷ rs) zs (rewritten t (r ∷ rs) zs)
      same_changed i q =
          let m : Rewritten cells class_of t n 0 0 (record { tag = t; list = r ∷ rs }) (blocks zs) (rewritten t (r ∷ rs) zs) =
          rewritten-made cells class_of t n 0 0 (class_of (length (r ∷ rs))) (r ∷ rs) zs v.laid i (sits t r rs bt l) q in
          swapped_changed cells class_of t n (r ∷ rs) zs (rewritten t (r ∷ rs) zs) v (rewritten-length t (r ∷ rs) zs) m.laid m.swapped

    -- tag t is there, or the list is not empty and there is a place in the dictionary
    abbrev pub Open : List Record → Type 0
    Open [] = has_tag t (blocks zs) ≡ true
    Open (r ∷ rs) = has_tag t (blocks zs) ≡ false → length (blocks zs) < 256

    pub change-changed : (rs : List Record) → Proper rs → Open rs → Holds (Changed cells class_of t n rs zs) (change cells class_of n t rs zs)
    unfolding change
    change-changed [] l o = drop-changed o
    change-changed (r ∷ rs) l o = by_pick (Holds (Changed cells class_of t n (r ∷ rs) zs)) (has_tag t (blocks zs))
        (λ i. by_pick (Holds (Changed cells class_of t n (r ∷ rs) zs)) (eqb (class_of (length (find t (blocks zs)))) (class_of (length (r ∷ rs))))
        (λ p. same_changed r rs l i (eqb-true _ _ p)) (λ p. moved-changed r rs l i))
        (λ i. new-changed r rs l i (o i))

    -- a list that does not grow always finds room
    pub shorter_some : (rs : List Record) → has_tag t (blocks zs) ≡ true → length rs ≤ length (find t (blocks zs)) → IsSome (change cells class_of n t rs zs)
    unfolding change
    shorter_some [] i h = tt
    shorter_some (r ∷ rs) i h = by_pick IsSome (has_tag t (blocks zs))
        (λ p. by_pick IsSome (eqb (class_of (length (find t (blocks zs)))) (class_of (length (r ∷ rs)))) (λ q. tt)
        (λ q. let ne : class_of (length (find t (blocks zs))) ≢ class_of (length (r ∷ rs)) = eqb-false _ _ q in
        let le : class_of (length (r ∷ rs)) ≤ class_of (length (find t (blocks zs))) = up.ordered (length (r ∷ rs)) (length (find t (blocks zs))) h in
        let y : IsSome (place cells n 0 0 (class_of (length (r ∷ rs))) (record { tag = t; list = r ∷ rs }) (take_out cells t 0 0 zs)) =
        shrink_room cells class_of up.mono up.pos t n (class_of (length (r ∷ rs))) (record { tag = t; list = r ∷ rs }) zs v i (omega arith) in
        rw (settle_placed cells class_of up.mono up.pos n (class_of (length (r ∷ rs))) (record { tag = t; list = r ∷ rs }) (take_out cells t 0 0 zs) y) y))
        (λ p. never (sym p ∙ i))
