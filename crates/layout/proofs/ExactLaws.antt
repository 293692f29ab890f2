-- A tag's list changed: there is room exactly if the sizes of all blocks afterwards fit in the area.
use Rattle.std.specs.Prelude.{◌≡◌, refl, true, false, eqb}
use Rattle.std.proofs.Math.Path.{sym, ap}
use Rattle.std.proofs.Common.{◌∙◌, le-leb, eqb-true}
use Rattle.std.proofs.Math.Option.{Option}
use mathlib.Core.List.{List, [], ◌∷◌}
use Prim.Native.Nat.{ℕ, suc, ◌+◌, ◌*◌, ◌-◌, ◌≤◌, ◌<◌}
use native.Mathlib.Omega.{arith}
use Rattle.std.proofs.Math.Dec.{leb}
use Rattle.std.proofs.Math.ListN.{length}
use Rattle.wire.specs.All.{All, none as nil, all_append, all_map, all_head}
use Rattle.wire.specs.Bytes.{is_some}
use Rattle.records.specs.declared.Record.{Record}
use Rattle.layout.specs.Zones.{Block, Zone, empty, from, zone, blocks, has_tag, find, replaced, rewritten, take_out, total, settle, change}
use Rattle.layout.specs.Perm.{sum}
use Rattle.layout.specs.PermLaws.{psym, plength, pall, psum}
use Rattle.layout.specs.Rising.{Rising}
use Rattle.layout.specs.Valid.{Sits, Valid, Proper}
use Rattle.layout.specs.Cases.{by_pick, Holds, holds_to}
use Rattle.layout.specs.FindLaws.{pfind, find_here, find_none, lacks_has}
use Rattle.layout.specs.PlaceLaws.{Placed}
use Rattle.layout.proofs.TakeLaws.{TakenOut, Taken, take_out-valid, take_out_taken}
use Rattle.layout.proofs.ChangeLaws.{Open, sits}
use Rattle.layout.specs.Sizes.{block_size, total_after}
use Rattle.layout.proofs.AfreshLaws.{Seated, laid-seated, laid-total, total-sizes, size-some, settle_holds, settle_exactly}

-- every block holds a record
blocks-some : (cells class_of : ℕ → ℕ) (c : ℕ) (zs : List Zone) → Seated cells class_of c zs → All (λ (b : Block). 0 < length b.list) (blocks zs)
unfolding blocks
blocks-some cells class_of c [] s = nil
blocks-some cells class_of c (empty ∷ zs) s = blocks-some cells class_of (suc c) zs s
blocks-some cells class_of c (from f x xs ∷ zs) s =
    all_append (all_map {P = Sits cells class_of c} {Q = λ (b : Block). 0 < length b.list} (λ b k. k.some) s.0) (blocks-some cells class_of (suc c) zs s.1)

-- a list that stays where it is changes no size
replaced-length : (t : ℕ) (rs : List Record) (bs : List Block) → length (replaced t rs bs) ≡ length bs
unfolding replaced
replaced-length t rs [] = refl
replaced-length t rs (x ∷ xs) = by_pick (λ (l : List Block). length l ≡ suc (length xs)) (eqb x.tag t) (λ p. refl) (λ p. ap suc (replaced-length t rs xs))

zone-total : (cells : ℕ → ℕ) (c f : ℕ) (bs : List Block) (zs : List Zone) → total cells c (zone f bs ∷ zs) ≡ length bs * cells c + total cells (suc c) zs
unfolding total zone
zone-total cells c f [] zs = omega arith
zone-total cells c f (x ∷ xs) zs = refl

rewritten-total : (cells : ℕ → ℕ) (t : ℕ) (rs : List Record) (c : ℕ) (zs : List Zone) → total cells c (rewritten t rs zs) ≡ total cells c zs
unfolding total rewritten
rewritten-total cells t rs c [] = refl
rewritten-total cells t rs c (empty ∷ zs) = rewritten-total cells t rs (suc c) zs
rewritten-total cells t rs c (from f x xs ∷ zs) =
    by_pick (λ (l : List Zone). total cells c l ≡ suc (length xs) * cells c + total cells (suc c) zs) (has_tag t (x ∷ xs))
    (λ p. zone-total cells c f (replaced t rs (x ∷ xs)) zs ∙ ap (λ (n : ℕ). n * cells c + total cells (suc c) zs) (replaced-length t rs (x ∷ xs)))
    (λ p. ap (λ (n : ℕ). suc (length xs) * cells c + n) (rewritten-total cells t rs (suc c) zs))

module _ (cells class_of : ℕ → ℕ) (up : Rising cells class_of)
    (n t : ℕ) (zs : List Zone) (v : Valid cells class_of n zs) (bt : t < 4294967296) where
  abbrev old : List Record
  old = find t (blocks zs)

  abbrev ys : List Zone
  ys = take_out cells t 0 0 zs

  abbrev size : Block → ℕ
  size b = block_size cells class_of b.list

  -- the sizes of a valid layout's blocks
  sized : (ws : List Zone) → Valid cells class_of n ws → total cells 0 ws ≡ sum size (blocks ws)
  sized ws w = total-sizes cells class_of 0 ws (laid-seated cells class_of n 0 0 ws w.laid)

  -- the tag's block: its size, and the sizes of the others
  pub record Had : Type 0 where
    pub size : block_size cells class_of old ≡ cells (class_of (length old))
    pub others : total cells 0 ys + block_size cells class_of old ≡ total cells 0 zs

  pub had : has_tag t (blocks zs) ≡ true → Had
  unfolding sum
  had i =
      let k : Taken cells class_of t n 0 0 (blocks zs) ys = take_out_taken cells class_of up.pos t n 0 0 zs v.laid i in
      let x : Block = k.out.block in
      let f : old ≡ x.list = pfind t (psym k.out.same) v.distinct ∙ find_here t x (blocks ys) k.out.tag in
      let g : 0 < length x.list = all_head (pall (λ (y : Block). 0 < length y.list) (psym k.out.same) (blocks-some cells class_of 0 zs (laid-seated cells class_of n 0 0 zs v.laid))) in
      record {
        size = rw f (size-some cells class_of x.list g);
        others = omega (
          arith,
          ap (block_size cells class_of) f,
          psum size k.out.same,
          sized ys (take_out-valid cells class_of up.pos t n zs v i).valid,
          sized zs v,
        );
      }

  none_had : has_tag t (blocks zs) ≡ false → block_size cells class_of old ≡ 0
  unfolding block_size
  none_had i = ap (block_size cells class_of) (find_none t (blocks zs) (lacks_has t (blocks zs) i))

  low : total cells 0 zs ≤ n
  low = omega (arith, laid-total cells class_of n 0 0 zs v.laid)

  -- "Refusal 12 then means only this": for a tag that has a list or none, and any list for it
  pub change_exactly : (rs : List Record) → Proper rs → is_some (change cells class_of n t rs zs) ≡ leb (total_after cells class_of t rs zs) n
  unfolding change block_size total_after
  change_exactly [] l = sym (le-leb (total cells 0 zs - block_size cells class_of old + 0) n (omega (arith, low)))
  change_exactly (r ∷ rs) l =
      let b : Block = record { tag = t; list = r ∷ rs } in
      let c : ℕ = class_of (length (r ∷ rs)) in
      let m : ℕ = total cells 0 zs - block_size cells class_of old + cells c in
      let g : c < 30 = up.below (length (r ∷ rs)) l.short in
      by_pick (λ (o : Option (List Zone)). is_some o ≡ leb m n) (has_tag t (blocks zs))
      (λ i. by_pick (λ (o : Option (List Zone)). is_some o ≡ leb m n) (eqb (class_of (length old)) c)
      (λ p. sym (le-leb m n (omega (arith, low, ap cells (eqb-true (class_of (length old)) c p), (had i).size, (had i).others))))
      (λ p. let k : TakenOut cells class_of t n zs ys = take_out-valid cells class_of up.pos t n zs v i in
      settle_exactly cells class_of up.mono up.pos n c b ys k.valid.laid (sits cells class_of up t r rs bt l) (omega (arith, k.valid.classes))
      ∙ ap (λ (x : ℕ). leb x n) (omega (arith, (had i).others))))
      (λ i. settle_exactly cells class_of up.mono up.pos n c b zs v.laid (sits cells class_of up t r rs bt l) (omega (arith, v.classes))
      ∙ ap (λ (x : ℕ). leb x n) (omega (arith, none_had i)))

  -- and then that is the sum of their sizes
  pub change-total : (rs : List Record) → Proper rs → Open cells class_of up n t zs v bt rs
      → Holds (λ (zs' : List Zone). total cells 0 zs' ≡ total_after cells class_of t rs zs) (change cells class_of n t rs zs)
  unfolding change block_size total_after sum
  change-total [] l i = omega (arith, (had i).others)
  change-total (r ∷ rs) l o =
      let b : Block = record { tag = t; list = r ∷ rs } in
      let c : ℕ = class_of (length (r ∷ rs)) in
      let Sum : List Zone → Type 0 = λ (zs' : List Zone). total cells 0 zs' ≡ total cells 0 zs - block_size cells class_of old + cells c in
      let s : Sits cells class_of c b = sits cells class_of up t r rs bt l in
      let g : c < 30 = up.below (length (r ∷ rs)) l.short in
      by_pick (Holds Sum) (has_tag t (blocks zs))
      (λ i. by_pick (Holds Sum) (eqb (class_of (length old)) c)
      (λ p. omega (arith, rewritten-total cells t (r ∷ rs) 0 zs, ap cells (eqb-true (class_of (length old)) c p), (had i).size, (had i).others))
      (λ p. let k : TakenOut cells class_of t n zs ys = take_out-valid cells class_of up.pos t n zs v i in
      holds_to (Placed cells class_of n b ys) Sum (settle cells n c b ys) (λ zs' m. omega (arith, sized zs' m.valid, psum size m.same, sized ys k.valid, (had i).others))
      (settle_holds cells class_of up.mono up.pos n c b ys k.valid s g k.gone (omega (arith, plength (take_out_taken cells class_of up.pos t n 0 0 zs v.laid i).out.same, v.few)))))
      (λ i. holds_to (Placed cells class_of n b zs) Sum (settle cells n c b zs) (λ zs' m. omega (arith, sized zs' m.valid, psum size m.same, sized zs v, none_had i))
      (settle_holds cells class_of up.mono up.pos n c b zs v s g (lacks_has t (blocks zs) i) (o i)))
