-- The four edits: where one is not refused there is room for the list that it makes, and the layout stays valid.
use Rattle.refusals.specs.declared.Refusal.{Refusal}
use Rattle.refusals.specs.declared.Refusal.TheVariants.{BuildingFull, Listed, NoRoom, TagsFull, Unknown}
use Rattle.std.specs.Prelude.{◌≡◌, refl, true, false, not, ◌&&◌, ltb, eqb, length}
use Rattle.std.proofs.Common.{sym, ap, ◌∙◌}
use Rattle.std.proofs.Math.Option.{Option, none, some, IsSome}
use mathlib.Core.List.{List, [], ◌∷◌}
use Prim.Native.Nat.{ℕ, suc, ◌+◌, ◌*◌, ◌≤◌, ◌<◌}
use native.Mathlib.Omega.{arith}
use Rattle.std.proofs.Math.Dec.{leb}
use borrow.Author.Tests.{ltb-false, leb-false, le-leb, not-false}
use Rattle.wire.specs.Cases.{never}
use Rattle.refusals.specs.Rules.{refusal}
use Rattle.refusals.specs.RulesLaws.{passes}
use Rattle.wire.specs.All.{All, none as nothing, more, all_append, all_map}
use Rattle.wire.specs.Bytes.{is_some}
use Rattle.records.specs.declared.Record.{Record}
use Rattle.records.specs.Records.{Fits, key, look, held, insert, remove, lasting, amend}
use Rattle.records.specs.Order.{rising-nil, insert-rising, remove-rising, amend-rising}
use Rattle.layout.specs.Rising.{Rising}
use Rattle.layout.specs.Zones.{Block, Zone, empty, from, has_tag, blocks, tags, find, total, change}
use Rattle.layout.specs.Buildings.{building_full}
use Rattle.layout.specs.Edits.{record_rules, put, delete, set_minutes, drop_tag}
use Rattle.layout.specs.Cases.{by_pick, some_is, Holds}
use Rattle.layout.specs.FindLaws.{by_tag, has_here, has_skip, find_here, find_skip}
use Rattle.layout.specs.Sizes.{block_size, total_after}
use Rattle.layout.proofs.AfreshLaws.{laid-total}
use Rattle.layout.proofs.ChangeLaws.{Changed, Open, change-changed, shorter_some}
use Rattle.layout.proofs.ExactLaws.{had, change_exactly}
use Rattle.layout.specs.Valid.{Sits, Laid, Valid, Proper}

-- ---- lists

pub length-insert : (r : Record) (rs : List Record) → length (insert r rs) ≡ suc (length rs)
unfolding insert
length-insert r [] = refl
length-insert r (x ∷ xs) = by_pick (λ (l : List Record). length l ≡ suc (suc (length xs))) (ltb (key x) (key r)) (λ t. ap suc (length-insert r xs)) (λ t. refl)

pub length-remove : (k : ℕ) (rs : List Record) → length (remove k rs) ≤ length rs
unfolding remove
length-remove k [] = omega arith
length-remove k (x ∷ xs) = by_pick (λ (l : List Record). length l ≤ suc (length xs)) (eqb (key x) k) (λ t. omega arith) (λ t. omega (arith, length-remove k xs))

pub length-amend : (k m : ℕ) (rs : List Record) → length (amend k m rs) ≡ length rs
unfolding amend
length-amend k m [] = refl
length-amend k m (x ∷ xs) = by_pick (λ (l : List Record). length l ≡ suc (length xs)) (eqb (key x) k) (λ t. refl) (λ t. ap suc (length-amend k m xs))

insert-fits : (r : Record) (rs : List Record) → Fits r → All Fits rs → All Fits (insert r rs)
unfolding insert
insert-fits r [] f h = more f nothing
insert-fits r (x ∷ xs) f (more g h) = by_pick (All Fits) (ltb (key x) (key r)) (λ t. more g (insert-fits r xs f h)) (λ t. more f (more g h))

remove-fits : (k : ℕ) (rs : List Record) → All Fits rs → All Fits (remove k rs)
unfolding remove
remove-fits k [] h = nothing
remove-fits k (x ∷ xs) (more g h) = by_pick (All Fits) (eqb (key x) k) (λ t. h) (λ t. more g (remove-fits k xs h))

lasting-fits : (r : Record) (m : ℕ) → m < 256 → Fits r → Fits (lasting r m)
lasting-fits r m b f = record { level = f.level; second = f.second; phone = f.phone; minutes = b }

amend-fits : (k m : ℕ) (rs : List Record) → m < 256 → All Fits rs → All Fits (amend k m rs)
unfolding amend
amend-fits k m [] b h = nothing
amend-fits k m (x ∷ xs) b (more g h) = by_pick (All Fits) (eqb (key x) k) (λ t. more (lasting-fits x m b g) h) (λ t. more g (amend-fits k m xs b h))

not-held : (o : Option Record) → held o ≡ false → o ≡ none
not-held none h = refl
not-held (some r) h = never (sym h)

-- what an edit makes of a list that may stand in a block may stand in one
pub remove-listed : (k : ℕ) (rs : List Record) → Proper rs → Proper (remove k rs)
remove-listed k rs l = record { rising = remove-rising 0 k rs l.rising; fits = remove-fits k rs l.fits; short = omega (arith, length-remove k rs, l.short) }

pub amend-listed : (k m : ℕ) (rs : List Record) → m < 256 → Proper rs → Proper (amend k m rs)
amend-listed k m rs b l = record { rising = amend-rising 0 k m rs l.rising; fits = amend-fits k m rs b l.fits; short = omega (arith, length-amend k m rs, l.short) }

pub insert-listed : (r : Record) (rs : List Record) → Fits r → held (look (key r) rs) ≡ false → length rs < 989 → Proper rs → Proper (insert r rs)
insert-listed r rs f h g l = record {
  rising = insert-rising 0 r rs (omega arith) (not-held (look (key r) rs) h) l.rising;
  fits = insert-fits r rs f l.fits;
  short = omega (arith, length-insert r rs);
}

-- ---- the lists of blocks

find-listed : (t : ℕ) (bs : List Block) → All (λ (b : Block). Proper b.list) bs → Proper (find t bs)
unfolding find
find-listed t [] h = record { rising = rising-nil 0; fits = nothing; short = omega arith }
find-listed t (x ∷ xs) (more l h) = by_pick Proper (eqb x.tag t) (λ p. l) (λ p. find-listed t xs h)

-- a tag with a record is there
pub has_held : (t k : ℕ) (bs : List Block) → held (look k (find t bs)) ≡ true → has_tag t bs ≡ true
unfolding find has_tag look
has_held t k [] h = never h
has_held t k (x ∷ xs) h =
    by_tag t x (λ e. has_here t x xs e) (λ n. has_skip t x xs n ∙ has_held t k xs (ap (λ (l : List Record). held (look k l)) (sym (find_skip t x xs n)) ∙ h))

find_empty : (t : ℕ) (bs : List Block) → All (λ (b : Block). 0 < length b.list) bs → find t bs ≡ [] → has_tag t bs ≡ false
unfolding has_tag
find_empty t [] h e = refl
find_empty t (x ∷ xs) (more g h) e =
    by_tag t x
    (λ q. let z : length x.list ≡ 0 = ap length (sym (find_here t x xs q) ∙ e) in absurd (omega arith))
    (λ n. has_skip t x xs n ∙ find_empty t xs h (sym (find_skip t x xs n) ∙ e))

-- ---- with any table of sizes and classes

module _ (cells class_of : ℕ → ℕ) (up : Rising cells class_of) where
  listed : (c : ℕ) (b : Block) → Sits cells class_of c b → Proper b.list
  listed c b s = record { rising = s.rising; fits = s.fits; short = omega (arith, s.room, up.most c) }

  all_listed : (n c e : ℕ) (zs : List Zone) → Laid cells class_of n c e zs → All (λ (b : Block). Proper b.list) (blocks zs)
  unfolding blocks
  all_listed n c e [] h = nothing
  all_listed n c e (empty ∷ zs) h = all_listed n (suc c) e zs h
  all_listed n c e (from f x xs ∷ zs) h = all_append (all_map (listed c) h.0.sit) (all_listed n (suc c) (f + suc (length xs) * cells c) zs h.1)

  pub valid-listed : (n t : ℕ) (zs : List Zone) → Valid cells class_of n zs → Proper (find t (blocks zs))
  valid-listed n t zs v = find-listed t (blocks zs) (all_listed n 0 0 zs v.laid)

  -- "a list that becomes empty loses its dictionary entry": no block is empty
  all_some : (n c e : ℕ) (zs : List Zone) → Laid cells class_of n c e zs → All (λ (b : Block). 0 < length b.list) (blocks zs)
  unfolding blocks
  all_some n c e [] h = nothing
  all_some n c e (empty ∷ zs) h = all_some n (suc c) e zs h
  all_some n c e (from f x xs ∷ zs) h = all_append (all_map (λ b s. s.some) h.0.sit) (all_some n (suc c) (f + suc (length xs) * cells c) zs h.1)

  pub empty_unknown : (n t : ℕ) (zs : List Zone) → Valid cells class_of n zs → find t (blocks zs) ≡ [] → has_tag t (blocks zs) ≡ false
  empty_unknown n t zs v e = find_empty t (blocks zs) (all_some n 0 0 zs v.laid) e

  -- ---- edits that are not refused

  -- all blocks lie in the area
  pub total-low : (n : ℕ) (zs : List Zone) → Valid cells class_of n zs → total cells 0 zs ≤ n
  total-low n zs v = omega (arith, laid-total cells class_of n 0 0 zs v.laid)

  module _ (n t : ℕ) (zs : List Zone) (v : Valid cells class_of n zs) (bt : t < 4294967296) where
    abbrev pub Free : List Record → Type 0
    Free rs = Open cells class_of up n t zs v bt rs

    pub changed : (rs : List Record) → Proper rs → Free rs → Holds (Changed cells class_of t n rs zs) (change cells class_of n t rs zs)
    changed rs l o = change-changed cells class_of up n t zs v bt rs l o

    pub shorter : (rs : List Record) → has_tag t (blocks zs) ≡ true → length rs ≤ length (find t (blocks zs)) → IsSome (change cells class_of n t rs zs)
    shorter rs i h = shorter_some cells class_of up n t zs v bt rs i h

    -- "Refusal 12 then means only this"
    pub exactly : (rs : List Record) → Proper rs → is_some (change cells class_of n t rs zs) ≡ leb (total_after cells class_of t rs zs) n
    exactly rs l = change_exactly cells class_of up n t zs v bt rs l

    -- the size of the tag's block, which is one of all
    pub had_size : has_tag t (blocks zs) ≡ true → (block_size cells class_of (find t (blocks zs)) ≡ cells (class_of (length (find t (blocks zs))))) × (block_size cells class_of (find t (blocks zs)) ≤ total cells 0 zs)
    had_size i = let k = had cells class_of up n t zs v bt i in (k.size, omega (arith, k.others))

    -- a tag that is there may have any list
    pub free_any : (rs : List Record) → has_tag t (blocks zs) ≡ true → Free rs
    free_any [] i = i
    free_any (r ∷ rs) i = λ k. never (sym k ∙ i)

    -- a list that the tag may have: it may stand in a block, the dictionary has an entry for it, and there is room
    pub record Fine (rs : List Record) : Type 0 where
      pub listed : Proper rs
      pub free : Free rs
      pub room : is_some (change cells class_of n t rs zs) ≡ true

    -- a shorter list, or one as long
    no_longer : (rs : List Record) → Proper rs → length rs ≤ length (find t (blocks zs)) → has_tag t (blocks zs) ≡ true → Fine rs
    no_longer rs l b i = record { listed = l; free = free_any rs i; room = some_is (change cells class_of n t rs zs) (shorter rs i b) }

    abbrev list : List Record
    list = find t (blocks zs)

    proper : Proper list
    proper = valid-listed n t zs v

    known : (k : ℕ) → refusal (record_rules t k zs) ≡ none → has_tag t (blocks zs) ≡ true
    known k e = has_held t k (blocks zs) (not-false (held (look k list)) (passes Unknown (not (held (look k list))) [] e).0)

    -- "A delete never meets it": where the record is listed there is room
    pub delete_fine : (k : ℕ) → refusal (delete t k zs).rules ≡ none → Fine (delete t k zs).list
    unfolding delete
    delete_fine k e = no_longer (remove k list) (remove-listed k list proper) (length-remove k list) (known k e)

    pub set_fine : (k m : ℕ) → m < 256 → refusal (set_minutes t k m zs).rules ≡ none → Fine (set_minutes t k m zs).list
    unfolding set_minutes
    set_fine k m b e = no_longer (amend k m list) (amend-listed k m list b proper) (omega (arith, length-amend k m list)) (known k e)

    pub drop_fine : refusal (drop_tag t zs).rules ≡ none → Fine []
    unfolding drop_tag
    drop_fine e = no_longer [] (record { rising = rising-nil 0; fits = nothing; short = omega arith }) (omega arith) (not-false (has_tag t (blocks zs)) (passes Unknown (not (has_tag t (blocks zs))) [] e).0)

    -- the dictionary has an entry for it
    free_new : (rs : List Record) → 0 < length rs → not (has_tag t (blocks zs)) && leb 256 (length (blocks zs)) ≡ false → Free rs
    free_new [] h o = absurd (omega arith)
    free_new (r ∷ rs) h o = λ k. leb-false 256 (length (blocks zs)) (rw k at o)

    pub put_fine : (limit : ℕ) (full : Refusal) → limit ≤ 989 → (r : Record) → Fits r → refusal (put cells class_of n limit full t r zs).rules ≡ none → Fine (insert r list)
    unfolding put
    put_fine limit full low r f e =
        let a = passes Listed (held (look (key r) list)) _ e in
        let b = passes full (leb limit (length list)) _ a.1 in
        let a19 = passes BuildingFull (not (has_tag t (blocks zs)) && building_full t (tags (blocks zs))) _ b.1 in
        let c = passes TagsFull (not (has_tag t (blocks zs)) && leb 256 (length (blocks zs))) _ a19.1 in
        let d = passes NoRoom (ltb n (total_after cells class_of t (insert r list) zs)) [] c.1 in
        let l : Proper (insert r list) = insert-listed r list f a.0 (omega (arith, leb-false limit (length list) b.0)) proper in
        record {
          listed = l;
          free = free_new (insert r list) (omega (arith, length-insert r list)) c.0;
          room = exactly (insert r list) l ∙ le-leb (total_after cells class_of t (insert r list) zs) n (ltb-false n (total_after cells class_of t (insert r list) zs) d.0);
        }
