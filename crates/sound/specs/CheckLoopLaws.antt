-- One turn of each loop that tests home, and the test of a dictionary entry by the block that it leads to.
use Rattle.std.specs.Prelude.{◌≡◌, Bool, true, false, ◌&&◌, List, ltb, eqb, length, take, drop}
use Rattle.std.proofs.Math.Path.{refl}
use Rattle.std.proofs.Common.{sym, ap, ◌∙◌, div-add-mod', div-lt_iff_lt-mul}
use Rattle.std.proofs.Math.Bool.{and_assoc}
use Prim.Native.Nat.{ℕ, zero, suc, ◌+◌, ◌*◌, ◌-◌, ◌/◌, ◌%◌, ◌≤◌, ◌<◌}
use native.Mathlib.Omega.{arith}
use Rattle.std.proofs.Math.Numerals.{add-one}
use Rattle.std.proofs.Math.Dec.{leb}
use borrow.Author.Tests.{ltb-true, leb-true, eqb-true, lt-ltb, le-ltb, le-leb, lt-leb, eq-eqb, ne_eqb}
use Rattle.wire.specs.Bytes.{part, get16, get32, blank}
use Rattle.wire.specs.BytesLaws.{part_of}
use Rattle.wire.specs.Cases.{by_lt, by_eq, both, bool_iff, never, or_left, or_right, by_or}
use Rattle.records.specs.Records.{rising, records, decode}
use Rattle.records.specs.Edits.{decode-part}
use Rattle.layout.specs.Capacities.{capacity, under, cells, class_of}
use Rattle.layout.specs.CapacitiesLaws.{cells_is, cells_pos, cells_most, class_below, class_holds, class_over, class_within}
use Rattle.home.specs.Bytes.{step_of, cell_at, count_at, zone_entry_at, first_at, many_at, tag_at, entry_cell, end_at}
use Rattle.home.specs.EndLaws.{end_none, end_some}
use Rattle.home.specs.Sound.{bare, pages_of, sized}
use Rattle.sound.specs.Checks.{coded, block_fine, blocks_fine, lies, zone_fine, zones_fine, many_in, starts, leads, tags_fine, checked}
use Rattle.sound.specs.Checks.{leads_at, entry_fine}

-- ---- parts

pub rising_part : (h : List ℕ) (at n : ℕ) → at + 8 * n ≤ length h → rising (decode (take (at + 8 * n - at) (drop at h))) ≡ rising (records h at n)
rising_part h at n g = rw (part_of h at (8 * n), decode-part h at n g)

-- ---- a block

-- one that has its class has room for its records
class_room : (step c n : ℕ) → n < 990 → class_of step n ≡ c → n ≤ capacity step c
class_room step c n h e =
    let b : n ≤ capacity step (class_of step n) = omega (arith, class_holds step n (omega arith), cells_is step (class_of step n)) in
    rw e at b

module _ (step : ℕ) (h : List ℕ) (c p n : ℕ) (e : n ≡ count_at h p) where
  block_class : (0 < n → n < 990 → class_of step n ≡ c → ⊥) → false ≡ block_fine step h c p
  unfolding block_fine
  block_class q =
      by_lt 0 n
      (λ a. by_lt n 990
      (λ b. rw (← e, lt-ltb 0 n a, lt-ltb n 990 b, ne_eqb (class_of step n) c (q a b)))
      (λ b. rw (← e, lt-ltb 0 n a, le-ltb n 990 b)))
      (λ a. rw (← e, le-ltb 0 n a))

  module _ (low room : ℕ) (el : low ≡ under step c) (er : room ≡ capacity step c) where
    pub block_few : n ≤ low → false ≡ block_fine step h c p
    block_few q = block_class (λ a b d. omega (arith, class_over step n c a d))

    pub block_much : room < n → false ≡ block_fine step h c p
    block_much q = block_class (λ a b d. omega (arith, class_room step c n b d))

    module _ (lo : low < n) (hi : n ≤ room) (m : ℕ) (em : m ≡ get16 h (cell_at p + 6)) where
      some : ltb 0 n ≡ true
      some = lt-ltb 0 n (omega arith)

      few : ltb n 990 ≡ true
      few = lt-ltb n 990 (omega (arith, cells_is step c, cells_most step c))

      class : eqb (class_of step n) c ≡ true
      class = eq-eqb (class_of step n) c (class_within step n c (omega arith) (omega arith))

      pub block_head : (m ≡ 0 → ⊥) → false ≡ block_fine step h c p
      unfolding block_fine
      block_head d = rw (← e, some, few, class, ← em, ne_eqb m 0 d)

      pub block_order : m ≡ 0 → rising (records h (cell_at p + 8) n) ≡ false → false ≡ block_fine step h c p
      unfolding block_fine
      block_order d o = rw (← e, some, few, class, ← em, eq-eqb m 0 d, o)

      pub block_rest : m ≡ 0 → rising (records h (cell_at p + 8) n) ≡ true → blank (part h (cell_at p + 8 + 8 * n) (8 * (room - n))) ≡ block_fine step h c p
      unfolding block_fine
      block_rest d o = rw (← e, some, few, class, ← em, eq-eqb m 0 d, o, ← er)

-- ---- the blocks of a zone

pub times_turn : (n s : ℕ) → 0 < n → n * s ≡ s + (n - 1) * s
times_turn zero s b = absurd (omega arith)
times_turn (suc n) s b = let e : suc n - 1 ≡ n = omega arith in rw e (omega arith)

module _ (step : ℕ) (h : List ℕ) (c p : ℕ) where
  pub blocks_turn : (n : ℕ) → 0 < n → block_fine step h c p ≡ true → blocks_fine step h c (p + cells step c) (n - 1) ≡ blocks_fine step h c p n
  unfolding blocks_fine
  blocks_turn zero b t = absurd (omega arith)
  blocks_turn (suc n) b t = let e : suc n - 1 ≡ n = omega arith in rw (e, t)

  pub blocks_stop : (n : ℕ) → 0 < n → block_fine step h c p ≡ false → false ≡ blocks_fine step h c p n
  unfolding blocks_fine
  blocks_stop zero b t = absurd (omega arith)
  blocks_stop (suc n) b t = rw t

  pub blocks_end : (n : ℕ) → n ≤ 0 → true ≡ blocks_fine step h c p n
  unfolding blocks_fine
  blocks_end zero b = refl
  blocks_end (suc n) b = absurd (omega arith)

pub blocks_at_lem : (step : ℕ) (h : List ℕ) (c p n : ℕ) → blocks_fine step h c p n ≡ true → (j : ℕ) → j < n → block_fine step h c (p + j * cells step c) ≡ true
unfolding blocks_fine
blocks_at_lem step h c p zero t j b = absurd (omega arith)
blocks_at_lem step h c p (suc n) t zero b =
    let e : p + 0 * cells step c ≡ p = omega arith in rw e (both (block_fine step h c p) (blocks_fine step h c (p + cells step c) n) t).0
blocks_at_lem step h c p (suc n) t (suc j) b =
    let e : p + suc j * cells step c ≡ p + cells step c + j * cells step c = omega arith in
    rw e (blocks_at_lem step h c (p + cells step c) n (both (block_fine step h c p) (blocks_fine step h c (p + cells step c) n) t).1 j (omega arith))

-- ---- a zone

-- what is false of three tests is false of four
and_stops : (a b c d : Bool) → a && (b && c) ≡ false → false ≡ a && (b && (c && d))
and_stops true true true d t = never (sym t)
and_stops true true false d t = refl
and_stops true false c d t = refl
and_stops false b c d t = refl

-- where a zone lies that is not astray
pub zone-lies : (area e s f m : ℕ) → lies area e s f m ≡ true → (e ≤ f) × (f < e + s) × (f + m * s ≤ area)
zone-lies area e s f m t =
    let a = both (leb e f) (ltb f (e + s) && leb (f + m * s) area) t in
    let b = both (ltb f (e + s)) (leb (f + m * s) area) a.1 in
    (leb-true e f a.0, ltb-true f (e + s) b.0, leb-true (f + m * s) area b.1)

module _ (step : ℕ) (h : List ℕ) (area c e f m s : ℕ) (ef : f ≡ first_at h c) (em : m ≡ many_at h c) (es : s ≡ cells step c) where
  pub zone_empty : m ≡ 0 → eqb f 0 ≡ zone_fine step h area c e
  unfolding zone_fine
  zone_empty q = rw (← ef, ← em, eq-eqb m 0 q)

  -- where it lies
  pub zone_astray : (m ≡ 0 → ⊥) → lies area e s f m ≡ false → false ≡ zone_fine step h area c e
  unfolding zone_fine
  zone_astray q t =
      rw (← ef, ← em, ← es, ne_eqb m 0 q)
      (and_stops (leb e f) (ltb f (e + s)) (leb (f + m * s) area) (blank (part h (cell_at e) (8 * (f - e))) && blocks_fine step h c f m) t)

  module _ (q : m ≡ 0 → ⊥) (a : e ≤ f) (b : f < e + s) (d : f + m * s ≤ area) where
    pub zone_gap : blank (part h (cell_at e) (8 * (f - e))) ≡ false → false ≡ zone_fine step h area c e
    unfolding zone_fine
    zone_gap g = rw (← ef, ← em, ← es, ne_eqb m 0 q, le-leb e f a, lt-ltb f (e + s) b, le-leb (f + m * s) area d, g)

    pub zone-rest : blank (part h (cell_at e) (8 * (f - e))) ≡ true → blocks_fine step h c f m ≡ zone_fine step h area c e
    unfolding zone_fine
    zone-rest g = rw (← ef, ← em, ← es, ne_eqb m 0 q, le-leb e f a, lt-ltb f (e + s) b, le-leb (f + m * s) area d, g)

-- the four bytes of a zone's entry as one number
halves : (h : List ℕ) (at : ℕ) → get32 h at ≡ get16 h at * 65536 + get16 h (at + 2)
unfolding get16 get32
halves h at = let k : at + 2 + 1 ≡ at + 3 = omega arith in rw k (omega arith)

module _ (step : ℕ) (h : List ℕ) (area c e : ℕ) where
  -- zero is the entry of an empty zone
  pub zone-zero : get32 h (zone_entry_at c) ≡ 0 → (many_at h c ≡ 0) × (zone_fine step h area c e ≡ true)
  zone-zero z =
      let f : first_at h c ≡ 0 = omega (arith, halves h (zone_entry_at c)) in
      let m : many_at h c ≡ 0 = omega (arith, halves h (zone_entry_at c)) in
      (m, sym (zone_empty step h area c e (first_at h c) (many_at h c) (cells step c) refl refl refl m) ∙ eq-eqb (first_at h c) 0 f)

  -- and no other one
  pub zone-some : (get32 h (zone_entry_at c) ≡ 0 → ⊥) → zone_fine step h area c e ≡ true → many_at h c ≡ 0 → ⊥
  zone-some z t m =
      let f : first_at h c ≡ 0 = eqb-true (first_at h c) 0 (zone_empty step h area c e (first_at h c) (many_at h c) (cells step c) refl refl refl m ∙ t) in
      z (omega (arith, halves h (zone_entry_at c)))

-- what a nonempty zone that is fine tells
pub record Full (step : ℕ) (h : List ℕ) (area c : ℕ) : Type 0 where
  pub inside : first_at h c + many_at h c * cells step c ≤ area
  pub blocks : blocks_fine step h c (first_at h c) (many_at h c) ≡ true

pub zone_full : (step : ℕ) (h : List ℕ) (area c e : ℕ) → (many_at h c ≡ 0 → ⊥) → zone_fine step h area c e ≡ true → Full step h area c
unfolding zone_fine
zone_full step h area c e q t =
    let f : ℕ = first_at h c in
    let g : ℕ = f + many_at h c * cells step c in
    let b1 : Bool = blank (part h (cell_at e) (8 * (f - e))) in
    let b2 : Bool = blocks_fine step h c f (many_at h c) in
    let t1 : leb e f && (ltb f (e + cells step c) && (leb g area && (b1 && b2))) ≡ true = rw (ne_eqb (many_at h c) 0 q) at t in
    let t2 = (both (leb e f) (ltb f (e + cells step c) && (leb g area && (b1 && b2))) t1).1 in
    let t3 = (both (ltb f (e + cells step c)) (leb g area && (b1 && b2)) t2).1 in
    let t4 = both (leb g area) (b1 && b2) t3 in
    record { inside = leb-true g area t4.0; blocks = (both b1 b2 t4.1).1 }

pub end_inside : (step : ℕ) (h : List ℕ) (area c e : ℕ) → e ≤ area → zone_fine step h area c e ≡ true → end_at step h c e ≤ area
end_inside step h area c e b t =
    by_eq (many_at h c) 0
    (λ q. omega (arith, end_none step h c e q))
    (λ q. omega (arith, end_some step h c e q, (zone_full step h area c e q t).inside))

-- ---- all zones

module _ (step : ℕ) (h : List ℕ) (area c e n : ℕ) where
  pub zones_turn : c < n → zone_fine step h area c e ≡ true → zones_fine step h area (c + 1) (end_at step h c e) (n - (c + 1)) ≡ zones_fine step h area c e (n - c)
  unfolding zones_fine
  zones_turn b t = let k : n - c ≡ suc (n - (c + 1)) = omega arith in rw (k, t, add-one c)

  pub zones_stop : c < n → zone_fine step h area c e ≡ false → false ≡ zones_fine step h area c e (n - c)
  unfolding zones_fine
  zones_stop b t = let k : n - c ≡ suc (n - (c + 1)) = omega arith in rw (k, t)

  pub zones_end : n ≤ c → e ≤ area → blank (part h (cell_at e) (8 * (area - e))) ≡ zones_fine step h area c e (n - c)
  unfolding zones_fine
  zones_end b d = let k : n - c ≡ 0 = omega arith in rw (k, le-leb e area d)

module _ (h : List ℕ) (c n : ℕ) where
  pub many_turn : c < n → many_in h c (n - c) ≡ many_at h c + many_in h (c + 1) (n - (c + 1))
  unfolding many_in
  many_turn b = let k : n - c ≡ suc (n - (c + 1)) = omega arith in rw (k, add-one c)

  pub many_end : n ≤ c → many_in h c (n - c) ≡ 0
  unfolding many_in
  many_end b = let k : n - c ≡ 0 = omega arith in rw k

-- ---- where an entry leads

leads_in : (step : ℕ) (h : List ℕ) (c n p d : ℕ) → c ≤ d → d < c + n → starts step h d p ≡ true → leads step h c n p ≡ true
unfolding leads starts
leads_in step h c zero p d a b t = absurd (omega arith)
leads_in step h c (suc n) p d a b t =
    by_eq c d
    (λ e. or_left (starts step h c p) (leads step h (suc c) n p) (rw e t))
    (λ e. or_right (starts step h c p) (leads step h (suc c) n p) (leads_in step h (suc c) n p d (omega arith) (omega arith) t))

-- in a zone that is fine
record Block (step : ℕ) (h : List ℕ) (area c p : ℕ) : Type 0 where
  inside : p < area
  few : count_at h p < 990
  class : class_of step (count_at h p) ≡ c

block_tells : (step : ℕ) (h : List ℕ) (c p : ℕ) → block_fine step h c p ≡ true → (count_at h p < 990) × (class_of step (count_at h p) ≡ c)
unfolding block_fine
block_tells step h c p t =
    let n : ℕ = count_at h p in
    let r : Bool = eqb (get16 h (cell_at p + 6)) 0 && (rising (records h (cell_at p + 8) n) && blank (part h (cell_at p + 8 + 8 * n) (8 * (capacity step c - n)))) in
    let t1 = (both (ltb 0 n) (ltb n 990 && (eqb (class_of step n) c && r)) t).1 in
    let t2 = both (ltb n 990) (eqb (class_of step n) c && r) t1 in
    (ltb-true n 990 t2.0, eqb-true (class_of step n) c (both (eqb (class_of step n) c) r t2.1).0)

starts_block : (step : ℕ) (h : List ℕ) (area c e p : ℕ) → zone_fine step h area c e ≡ true → starts step h c p ≡ true → Block step h area c p
unfolding starts
starts_block step h area c e p t s =
    let f : ℕ = first_at h c in
    let m : ℕ = many_at h c in
    let j : ℕ = (p - f) / cells step c in
    let s1 = both (leb f p) (ltb p (f + m * cells step c) && eqb ((p - f) % cells step c) 0) s in
    let s2 = both (ltb p (f + m * cells step c)) (eqb ((p - f) % cells step c) 0) s1.1 in
    let lo : f ≤ p = leb-true f p s1.0 in
    let hi : p < f + m * cells step c = ltb-true p (f + m * cells step c) s2.0 in
    let z : (p - f) % cells step c ≡ 0 = eqb-true ((p - f) % cells step c) 0 s2.1 in
    let full : Full step h area c = zone_full step h area c e (λ q. none_there f m p (cells step c) lo hi q) t in
    let at : p ≡ f + j * cells step c = omega (arith, div-add-mod' (p - f) (cells step c)) in
    let less : j < m = (div-lt_iff_lt-mul {k = cells step c} {x = p - f} {y = m} (cells_pos step c)).1 (omega arith) in
    let b = block_tells step h c (f + j * cells step c) (blocks_at_lem step h c f m full.blocks j less) in
    record { inside = omega (arith, full.inside); few = rw at b.0; class = rw at b.1 }
  where
    none_there : (f m p s : ℕ) → f ≤ p → p < f + m * s → m ≡ 0 → ⊥
    none_there f zero p s a b q = omega arith
    none_there f (suc m) p s a b q = omega arith

leads_block : (step : ℕ) (h : List ℕ) (area p c e n : ℕ) → zones_fine step h area c e n ≡ true → leads step h c n p ≡ true → leads_at step h area p ≡ true
unfolding zones_fine leads leads_at starts
leads_block step h area p c e zero t l = never l
leads_block step h area p c e (suc n) t l =
    let u = both (zone_fine step h area c e) (zones_fine step h area (suc c) (end_at step h c e) n) t in
    by_or (starts step h c p) (leads step h (suc c) n p) l
    (λ s. let b = starts_block step h area c e p u.0 s in leads_here h area c p b s)
    (λ s. leads_block step h area p (suc c) (end_at step h c e) n u.1 s)
  where
    leads_here : (h : List ℕ) (area c p : ℕ) → Block step h area c p → starts step h c p ≡ true → leads_at step h area p ≡ true
    leads_here h area c p b s = rw (lt-ltb p area b.inside, lt-ltb (count_at h p) 990 b.few, b.class) s

-- where the zones are fine, the block that stands there tells its zone
pub leads_is : (step : ℕ) (h : List ℕ) (area p : ℕ) → zones_fine step h area 0 0 30 ≡ true → leads_at step h area p ≡ leads step h 0 30 p
unfolding leads_at
leads_is step h area p t = bool_iff (leads_at step h area p) (leads step h 0 30 p) (λ l. there h area p l) (λ l. leads_block step h area p 0 0 30 t l)
  where
    there : (h : List ℕ) (area p : ℕ) → leads_at step h area p ≡ true → leads step h 0 30 p ≡ true
    there h area p l =
        let c : ℕ = class_of step (count_at h p) in
        let l1 = (both (ltb p area) (ltb (count_at h p) 990 && starts step h c p) l).1 in
        let l2 = both (ltb (count_at h p) 990) (starts step h c p) l1 in
        leads_in step h 0 30 p c (omega arith) (omega (arith, class_below step (count_at h p) (omega (arith, ltb-true (count_at h p) 990 l2.0)))) l2.1

module _ (step : ℕ) (h : List ℕ) (area p n : ℕ) (e : n ≡ count_at h p) where
  pub leads-beyond : area ≤ p → false ≡ leads_at step h area p
  unfolding leads_at
  leads-beyond a = rw (le-ltb p area a)

  pub leads_much : p < area → 990 ≤ n → false ≡ leads_at step h area p
  unfolding leads_at
  leads_much a b = rw (← e, lt-ltb p area a, le-ltb n 990 b)

  module _ (c f m s : ℕ) (ec : c ≡ class_of step n) (ef : f ≡ first_at h c) (em : m ≡ many_at h c) (es : s ≡ cells step c) where
    pub leads_early : p < area → n < 990 → p < f → false ≡ leads_at step h area p
    unfolding leads_at starts
    leads_early a b d = rw (← e, lt-ltb p area a, lt-ltb n 990 b, ← ec, ← ef, lt-leb f p d)

    pub leads_late : p < area → n < 990 → f ≤ p → f + m * s ≤ p → false ≡ leads_at step h area p
    unfolding leads_at starts
    leads_late a b d g = rw (← e, lt-ltb p area a, lt-ltb n 990 b, ← ec, ← ef, ← em, ← es, le-leb f p d, le-ltb p (f + m * s) g)

    pub leads_there : p < area → n < 990 → f ≤ p → p < f + m * s → eqb ((p - f) % s) 0 ≡ leads_at step h area p
    unfolding leads_at starts
    leads_there a b d g = rw (← e, lt-ltb p area a, lt-ltb n 990 b, ← ec, ← ef, ← em, ← es, le-leb f p d, lt-ltb p (f + m * s) g)

-- ---- the dictionary

module _ (step : ℕ) (h : List ℕ) (area low i t p : ℕ) (et : t ≡ tag_at h i) (ep : p ≡ entry_cell h i) where
  pub entry-low : t < low → false ≡ entry_fine step h area low i
  unfolding entry_fine
  entry-low a = rw (← et, lt-leb low t a)

  pub entry_astray : low ≤ t → leads_at step h area p ≡ false → false ≡ entry_fine step h area low i
  unfolding entry_fine
  entry_astray a b = rw (← et, ← ep, le-leb low t a, b)

  pub entry-rest : low ≤ t → leads_at step h area p ≡ true → eqb (get32 h (cell_at p)) t ≡ entry_fine step h area low i
  unfolding entry_fine
  entry-rest a b = rw (← et, ← ep, le-leb low t a, b)

  -- it leads into the area
  pub leads_inside : leads_at step h area p ≡ true → p < area
  unfolding leads_at
  leads_inside b = ltb-true p area (both (ltb p area) (ltb (count_at h p) 990 && starts step h (class_of step (count_at h p)) p) b).0

and_three : (a b c d : Bool) → (a && (b && c)) && d ≡ a && (b && (c && d))
and_three true true c d = refl
and_three true false c d = refl
and_three false b c d = refl

module _ (step : ℕ) (h : List ℕ) (area low i n : ℕ) (t : zones_fine step h area 0 0 30 ≡ true) where
  tags_more : (k : ℕ) → entry_fine step h area low i && tags_fine step h (tag_at h i + 1) (suc i) k ≡ tags_fine step h low i (suc k)
  unfolding tags_fine entry_fine
  tags_more k = rw (leads_is step h area (entry_cell h i) t) (and_three (leb low (tag_at h i)) (leads step h 0 30 (entry_cell h i)) (eqb (get32 h (cell_at (entry_cell h i))) (tag_at h i)) (tags_fine step h (tag_at h i + 1) (suc i) k))

  pub tags_turn : i < n → entry_fine step h area low i ≡ true → tags_fine step h (tag_at h i + 1) (i + 1) (n - (i + 1)) ≡ tags_fine step h low i (n - i)
  tags_turn b u = let k : n - i ≡ suc (n - (i + 1)) = omega arith in rw (k, ← tags_more (n - (i + 1)), u, add-one i)

  pub tags_stop : i < n → entry_fine step h area low i ≡ false → false ≡ tags_fine step h low i (n - i)
  tags_stop b u = let k : n - i ≡ suc (n - (i + 1)) = omega arith in rw (k, ← tags_more (n - (i + 1)), u)

pub tags_end : (step : ℕ) (h : List ℕ) (low i n : ℕ) → n ≤ i → true ≡ tags_fine step h low i (n - i)
unfolding tags_fine
tags_end step h low i n b = let k : n - i ≡ 0 = omega arith in rw k

-- ---- the length

pub sized-short : (h : List ℕ) → length h < 1728 → false ≡ sized h
unfolding sized
sized-short h b = let e : leb 1 (pages_of h) ≡ false = lt-leb 1 (pages_of h) (omega arith) in rw e

pub sized-rest : (h : List ℕ) → 1728 ≤ length h → leb (pages_of h) 1024 && eqb (length h) (64 * (26 + pages_of h)) ≡ sized h
unfolding sized
sized-rest h b = let e : leb 1 (pages_of h) ≡ true = le-leb 1 (pages_of h) (omega arith) in rw e

-- ---- the step code

pub coded_as : (h : List ℕ) (k : ℕ) (z : Bool) → k ≡ step_of h → z ≡ blank (part h 123 5) → leb k 1 && z ≡ coded h
unfolding coded
coded_as h k z a b = rw (a, b)

pub bare-none : (h : List ℕ) → blank (part h 0 122) ≡ false → false ≡ bare h
unfolding bare
bare-none h e = rw e

pub bare_as : (h : List ℕ) (k : ℕ) (z : Bool) → blank (part h 0 122) ≡ true → k ≡ step_of h → z ≡ blank (part h 123 (length h - 123)) → leb k 1 && z ≡ bare h
unfolding bare
bare_as h k z e a b = rw (e, a, b)

-- ---- all of it

module _ (step : ℕ) (h : List ℕ) (n : ℕ) (e : n ≡ get16 h 0) (k : step ≡ step_of h) where
  pub checked-count : sized h ≡ true → 256 < n → false ≡ checked h
  unfolding checked
  checked-count a b = rw (← e, ← k, a, lt-leb n 256 b)

  pub checked_gap : sized h ≡ true → n ≤ 256 → coded h ≡ false → false ≡ checked h
  unfolding checked
  checked_gap a b g = rw (← e, ← k, a, le-leb n 256 b, g)

  module _ (a : sized h ≡ true) (b : n ≤ 256) (g : coded h ≡ true) where
    abbrev zones : Bool
    zones = zones_fine step h (8 * pages_of h) 0 0 30 && eqb (many_in h 0 30) n

    grouped : leb (get16 h 0) 256 && (coded h && (zones && (tags_fine step h 0 0 n && blank (part h (128 + 6 * n) (1536 - 6 * n))))) ≡ checked h
    unfolding checked
    grouped = rw (← e, ← k, a) (ap (λ (x : Bool). leb n 256 && (coded h && x)) (and_assoc (zones_fine step h (8 * pages_of h) 0 0 30) (eqb (many_in h 0 30) n) (tags_fine step h 0 0 n && blank (part h (128 + 6 * n) (1536 - 6 * n)))))

    pub checked-zones : zones ≡ false → false ≡ checked h
    checked-zones z = rw (← grouped, ← e, le-leb n 256 b, g, z)

    pub checked-tags : zones ≡ true → tags_fine step h 0 0 n ≡ false → false ≡ checked h
    checked-tags z t = rw (← grouped, ← e, le-leb n 256 b, g, z, t)

    pub checked-rest : zones ≡ true → tags_fine step h 0 0 n ≡ true → blank (part h (128 + 6 * n) (1536 - 6 * n)) ≡ checked h
    checked-rest z t = rw (← grouped, ← e, le-leb n 256 b, g, z, t)
