-- A tag's block found in a layout, and what the moves make of its zone.
use Rattle.std.specs.Prelude.{◌≡◌, refl, false, length}
use Rattle.std.proofs.Common.{sym, ◌∙◌, eq-eqb, ne_eqb}
use Rattle.std.proofs.Math.Path.{ap, ap₂}
use Rattle.std.proofs.Math.Bool.{true}
use mathlib.Core.List.{List, [], ◌∷◌, ◌++◌, append_assoc}
use Prim.Native.Nat.{ℕ, suc, ◌+◌, ◌*◌}
use native.Mathlib.Omega.{arith}
use Rattle.wire.specs.Cases.{by_test, never}
use Rattle.wire.specs.All.{more}
use Rattle.records.specs.declared.Record.{Record}
use Rattle.layout.specs.Capacities.{cells}
use Rattle.layout.specs.Zones.{Block, Zone, empty, from, zone, blocks, has_tag, find, turned, removed, replaced, rewritten, end_of, close, take_out}
use Rattle.layout.specs.FindLaws.{Lacks, by_tag, has_here, has_skip, has_append, lacks_has, find_here, find_later}
use Rattle.moves.specs.Stored.{end_after}
use Rattle.moves.specs.LooseLaws.{blocks-append, zone-blocks}
use Rattle.zones.specs.Known.{Located, lacking}

-- ---- found

-- the first block with tag t in a zone
pub record Cut (t : ℕ) (bs : List Block) : Type 0 where
  pub before : List Block
  pub block : Block
  pub behind : List Block
  pub is : bs ≡ before ++ block ∷ behind
  pub tag : block.tag ≡ t
  pub none : has_tag t before ≡ false

cut : (t : ℕ) (bs : List Block) → has_tag t bs ≡ true → Cut t bs
unfolding has_tag
cut t [] h = never h
cut t (x ∷ xs) h =
    by_tag t x
    (λ e. record { before = []; block = x; behind = xs; is = refl; tag = e; none = refl })
    (λ n. let k : Cut t xs = cut t xs (sym (has_skip t x xs n) ∙ h) in
    record { before = x ∷ k.before; block = k.block; behind = k.behind; is = ap (λ (l : List Block). x ∷ l) k.is; tag = k.tag; none = has_skip t x k.before n ∙ k.none })

-- in a layout
pub located : (t : ℕ) (zs : List Zone) → has_tag t (blocks zs) ≡ true → Located t zs
unfolding blocks has_tag zone
located t [] h = never h
located t (empty ∷ zs) h =
    let k : Located t zs = located t zs h in
    record {
      lower = empty ∷ k.lower;
      first = k.first;
      before = k.before;
      block = k.block;
      behind = k.behind;
      higher = k.higher;
      is = ap (λ (l : List Zone). empty ∷ l) k.is;
      tag = k.tag;
      none_lower = k.none_lower;
      none_before = k.none_before;
    }
located t (from f x xs ∷ zs) h =
    by_test (has_tag t (x ∷ xs))
    (λ p. let k : Cut t (x ∷ xs) = cut t (x ∷ xs) p in
    record {
      lower = [];
      first = f;
      before = k.before;
      block = k.block;
      behind = k.behind;
      higher = zs;
      is = ap (λ (l : List Block). zone f l ∷ zs) k.is;
      tag = k.tag;
      none_lower = refl;
      none_before = k.none;
    })
    (λ p. let k : Located t zs = located t zs (sym (has_append t (x ∷ xs) (blocks zs) p) ∙ h) in
    record {
      lower = from f x xs ∷ k.lower;
      first = k.first;
      before = k.before;
      block = k.block;
      behind = k.behind;
      higher = k.higher;
      is = ap (λ (l : List Zone). from f x xs ∷ l) k.is;
      tag = k.tag;
      none_lower = has_append t (x ∷ xs) (blocks k.lower) p ∙ k.none_lower;
      none_before = k.none_before;
    })

-- ---- what is done to the first block with tag t

has_left : (t : ℕ) (xs ys : List Block) → has_tag t xs ≡ true → has_tag t (xs ++ ys) ≡ true
unfolding has_tag
has_left t [] ys h = never h
has_left t (x ∷ xs) ys h = by_tag t x (λ e. has_here t x (xs ++ ys) e) (λ n. has_skip t x (xs ++ ys) n ∙ has_left t xs ys (sym (has_skip t x xs n) ∙ h))

-- tag t is in neither
has_neither : (t : ℕ) (xs ys : List Block) → has_tag t (xs ++ ys) ≡ false → (has_tag t xs ≡ false) × (has_tag t ys ≡ false)
has_neither t xs ys h =
    by_test (has_tag t xs) (λ p. never (sym h ∙ has_left t xs ys p)) (λ p. (p, sym (has_append t xs ys p) ∙ h))

module _ (t : ℕ) (b : Block) (same : b.tag ≡ t) (behind : List Block) where
  removed_there : (before : List Block) → Lacks t before → removed t (before ++ b ∷ behind) ≡ before ++ turned behind
  unfolding removed
  removed_there [] l = rw (eq-eqb b.tag t same)
  removed_there (x ∷ xs) (more d l) = rw (ne_eqb x.tag t (λ e. d (sym e))) (ap (λ (ys : List Block). x ∷ ys) (removed_there xs l))

  replaced_there : (rs : List Record) (before : List Block) → Lacks t before → replaced t rs (before ++ b ∷ behind) ≡ before ++ record { tag = t; list = rs } ∷ behind
  unfolding replaced
  replaced_there rs [] l = rw (eq-eqb b.tag t same)
  replaced_there rs (x ∷ xs) (more d l) = rw (ne_eqb x.tag t (λ e. d (sym e))) (ap (λ (ys : List Block). x ∷ ys) (replaced_there rs xs l))

  module _ (f : ℕ) (before : List Block) (none : has_tag t before ≡ false) where
    has_there : has_tag t (before ++ b ∷ behind) ≡ true
    has_there = has_append t before (b ∷ behind) none ∙ has_here t b behind same

    -- the zone is not empty
    by_zone : (P : List Block → Zone → Type 0) → ((x : Block) (xs : List Block) → P (x ∷ xs) (from f x xs)) → P (before ++ b ∷ behind) (zone f (before ++ b ∷ behind))
    unfolding zone
    by_zone P k = at before
      where
        at : (l : List Block) → P (l ++ b ∷ behind) (zone f (l ++ b ∷ behind))
        at [] = k b behind
        at (x ∷ xs) = k x (xs ++ b ∷ behind)

    pub lacking_there : lacking t (zone f (before ++ b ∷ behind)) ≡ zone f (before ++ turned behind)
    unfolding lacking
    lacking_there = by_zone (λ (l : List Block) (z : Zone). lacking t z ≡ zone f (removed t l)) (λ x xs. refl) ∙ ap (zone f) (removed_there before (lacks_has t before none))

    -- "the zone's last block fills its place. Then, for each higher nonempty zone"
    pub take_out_there : (step c e k : ℕ) (ls hs : List Zone) → k ≡ c + length ls → has_tag t (blocks ls) ≡ false
        → take_out (cells step) t c e (ls ++ zone f (before ++ b ∷ behind) ∷ hs)
        ≡ ls ++ zone f (before ++ turned behind) ∷ close (cells step) (suc k) (end_of (cells step) k (end_after step c e ls) (zone f (before ++ turned behind))) hs
    unfolding take_out blocks end_after
    take_out_there step c e k [] hs q n =
        let p : c ≡ k = omega arith in
        by_zone (λ (l : List Block) (z : Zone). has_tag t l ≡ true → take_out (cells step) t c e (z ∷ hs) ≡ zone f (removed t l) ∷ close (cells step) (suc c) (end_of (cells step) c e (zone f (removed t l))) hs)
        (λ x xs h. rw h) has_there
        ∙ ap₂ (λ (d : ℕ) (l : List Block). zone f l ∷ close (cells step) (suc d) (end_of (cells step) d e (zone f l)) hs) p (removed_there before (lacks_has t before none))
    take_out_there step c e k (empty ∷ ls) hs q n = ap (λ (l : List Zone). empty ∷ l) (take_out_there step (suc c) e k ls hs (omega arith) n)
    take_out_there step c e k (from g x xs ∷ ls) hs q n =
        let m = has_neither t (x ∷ xs) (blocks ls) n in
        rw m.0 (ap (λ (l : List Zone). from g x xs ∷ l) (take_out_there step (suc c) (g + suc (length xs) * cells step c) k ls hs (omega arith) m.1))

    -- another list in its place
    pub rewritten_there : (rs : List Record) (ls hs : List Zone) → has_tag t (blocks ls) ≡ false
        → rewritten t rs (ls ++ zone f (before ++ b ∷ behind) ∷ hs) ≡ ls ++ zone f (before ++ record { tag = t; list = rs } ∷ behind) ∷ hs
    unfolding rewritten blocks
    rewritten_there rs [] hs n =
        by_zone (λ (l : List Block) (z : Zone). has_tag t l ≡ true → rewritten t rs (z ∷ hs) ≡ zone f (replaced t rs l) ∷ hs) (λ x xs h. rw h) has_there
        ∙ ap (λ (l : List Block). zone f l ∷ hs) (replaced_there rs before (lacks_has t before none))
    rewritten_there rs (empty ∷ ls) hs n = ap (λ (l : List Zone). empty ∷ l) (rewritten_there rs ls hs n)
    rewritten_there rs (from g x xs ∷ ls) hs n =
        let m = has_neither t (x ∷ xs) (blocks ls) n in
        rw m.0 (ap (λ (l : List Zone). from g x xs ∷ l) (rewritten_there rs ls hs m.1))

    -- its list
    pub find_there : (ls hs : List Zone) → has_tag t (blocks ls) ≡ false → find t (blocks (ls ++ zone f (before ++ b ∷ behind) ∷ hs)) ≡ b.list
    find_there ls hs n =
        ap (find t) (blocks-append ls (zone f (before ++ b ∷ behind) ∷ hs)) ∙ find_later t (blocks ls) (blocks (zone f (before ++ b ∷ behind) ∷ hs)) n
        ∙ ap (find t) (zone-blocks f (before ++ b ∷ behind) hs ∙ append_assoc before (b ∷ behind) (blocks hs))
        ∙ find_later t before (b ∷ (behind ++ blocks hs)) none ∙ find_here t b (behind ++ blocks hs) same
