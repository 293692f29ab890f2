-- The pass along the dictionary that counts a building's tags, and those beyond the eighth of their building.
use Rattle.std.specs.Prelude.{◌≡◌, Bool, true, false, ◌&&◌, ◌≢◌, List, [], ◌∷◌, leb, eqb}
use Rattle.std.proofs.Math.Path.{refl, ap}
use Rattle.std.proofs.Common.{sym, ap₂, ◌∙◌, subst, le-leb, eq-eqb, ne_eqb}
use Prim.Native.Nat.{ℕ, zero, suc, ◌+◌, ◌-◌, ◌≤◌, ◌<◌}
use native.Mathlib.Omega.{arith}
use Rattle.std.proofs.lemmas.Bool.{lt-leb}
use Rattle.wire.specs.Bytes.{get16}
use Rattle.wire.specs.Cases.{by_eq}
use Rattle.std.specs.Int.{from_bool}
use Rattle.records.specs.Records.{tally}
use Rattle.records.specs.Order.{tally-small}
use Rattle.layout.specs.Zones.{blocks, tags}
use Rattle.layout.specs.Perm.{Perm, pskip, pswap, ptrans, sum}
use Rattle.layout.specs.PermLaws.{prefl, pmap}
use Rattle.layout.specs.Buildings.{building, up_to, owned, building_full}
use Rattle.layout.specs.BuildingsLaws.{owned_more, owned_perm, beyond, beyond_more, beyond_perm, full_perm, full_beyond, few_open}
use Rattle.home.specs.Bytes.{Entry, decode, tag_at, entry_cell, entries_at, first_tags, tags_of}
use Rattle.home.specs.Sound.{sound}
use Rattle.home.specs.SoundLaws.{sound-tags}
use Rattle.home.specs.Lookup.{Ordered}
use Rattle.home.specs.TagsLaws.{tags_perm, tags-small, tags-many, tags_few, tag_small}

-- ---- an entry more

abbrev entry : List ℕ → ℕ → Entry
entry h i = record { tag = tag_at h i; cell = entry_cell h i }

entries_more : (h : List ℕ) (i n : ℕ) → Perm (entries_at h i (suc n)) (entry h (i + n) ∷ entries_at h i n)
unfolding entries_at
entries_more h i zero = let e : i + 0 ≡ i = omega arith in rw e (prefl (entry h i ∷ []))
entries_more h i (suc n) =
    let e : i + suc n ≡ suc i + n = omega arith in
    rw e (ptrans (pskip (entry h i) (entries_more h (suc i) n)) (pswap (entry h i) (entry h (suc i + n)) (entries_at h (suc i) n)))

first_more : (h : List ℕ) (i : ℕ) → Perm (first_tags h (suc i)) (tag_at h i ∷ first_tags h i)
first_more h i = let e : 0 + i ≡ i = omega arith in subst (λ (k : ℕ). Perm (first_tags h (suc i)) (tag_at h k ∷ first_tags h i)) e (pmap (λ (d : Entry). d.tag) (entries_more h 0 i))

module _ (h : List ℕ) where
  -- of building b among the first i
  abbrev of : ℕ → ℕ → ℕ
  of b i = owned b (first_tags h i)

  of_more : (b i : ℕ) → of b (suc i) ≡ tally (eqb (building (tag_at h i)) b) + of b i
  of_more b i = owned_perm (first_more h i) b ∙ owned_more (tag_at h i) (first_tags h i) b

  of_nil : (b : ℕ) → of b 0 ≡ 0
  unfolding owned sum entries_at
  of_nil b = refl

  of_few : (b j k : ℕ) → of b (j + k) ≤ of b j + k
  of_few b j zero = let e : j + 0 ≡ j = omega arith in omega (arith, ap (of b) e)
  of_few b j (suc k) =
      let e : j + suc k ≡ suc (j + k) = omega arith in
      omega (arith, ap (of b) e, of_more b (j + k), tally-small (eqb (building (tag_at h (j + k))) b), of_few b j k)

  of_none : (b j : ℕ) → ((i : ℕ) → i < j → building (tag_at h i) ≢ b) → of b j ≡ 0
  unfolding tally
  of_none b zero f = of_nil b
  of_none b (suc j) f = omega (arith, of_more b j, ap tally (ne_eqb (building (tag_at h j)) b (f j (omega arith))), of_none b j (λ i g. f i (omega arith)))

  of-run : (b j k : ℕ) → ((i : ℕ) → j ≤ i → i < j + k → building (tag_at h i) ≡ b) → k ≤ of b (j + k)
  unfolding tally
  of-run b j zero f = omega arith
  of-run b j (suc k) f =
      let e : j + suc k ≡ suc (j + k) = omega arith in
      omega (arith, ap (of b) e, of_more b (j + k), ap tally (eq-eqb (building (tag_at h (j + k))) b (f (j + k) (omega arith) (omega arith))), of-run b j k (λ i lo hi. f i lo (omega arith)))

  -- an entry is beyond the eighth of its building where the one eight places before it is of the same building, for between the two stands no other
  module _ (o : Ordered h) where
    abbrev at : ℕ → ℕ
    at i = building (tag_at h i)

    rise : (i j : ℕ) → i ≤ j → j < get16 h 0 → at i ≤ at j
    rise i j g b = by_eq i j (λ e. omega (arith, ap (tag_at h) e)) (λ d. omega (arith, o.rise i j (omega arith) b))

    pub early : (i : ℕ) → i < 8 → leb 8 i ≡ leb 8 (of (building (tag_at h i)) i)
    early i g = let e : 0 + i ≡ i = omega arith in lt-leb 8 i g ∙ sym (lt-leb 8 (of (building (tag_at h i)) i) (omega (arith, of_few (building (tag_at h i)) 0 i, of_nil (building (tag_at h i)), ap (of (building (tag_at h i))) e)))

    pub eight_before : (i : ℕ) → 8 ≤ i → i < get16 h 0 → eqb (building (tag_at h (i - 8))) (building (tag_at h i)) ≡ leb 8 (of (building (tag_at h i)) i)
    eight_before i g b = by_eq (at (i - 8)) (at i)
        (λ e.
        let q : i - 8 + 8 ≡ i = omega arith in
        eq-eqb (at (i - 8)) (at i) e
        ∙ sym (le-leb 8 (of (at i) i) (omega (arith, ap (of (at i)) q, of-run (at i) (i - 8) 8 (λ j lo hi. omega (arith, rise (i - 8) j lo (omega arith), rise j i (omega arith) b))))))
        (λ d.
        let q : i - 7 + 7 ≡ i = omega arith in
        ne_eqb (at (i - 8)) (at i) d
        ∙ sym (lt-leb 8 (of (at i) i) (omega (arith, ap (of (at i)) q, of_few (at i) (i - 7) 7, of_none (at i) (i - 7) (λ j hi e. d (omega (arith, e, rise j (i - 8) (omega arith) (omega arith), rise (i - 8) i (omega arith) b)))))))

-- ---- the pass

-- what the code adds for an entry
pub tally_is : (x : ℕ) (b : Bool) → x ≡ from_bool b → x ≡ tally b
unfolding tally
tally_is x true e = e
tally_is x false e = e

pub at_most_one : (x : ℕ) (b : Bool) → x ≡ tally b → x ≤ 1
at_most_one x b e = omega (arith, e, tally-small b)

-- what is counted before the i-th entry: tags of building b, and tags beyond the eighth of theirs
pub record Counting (h : List ℕ) (b own over i : ℕ) : Type 0 where
  pub under : i ≤ get16 h 0
  pub of_building : own ≡ owned b (first_tags h i)
  pub of_all : over ≡ beyond (first_tags h i)
  pub few : own ≤ i
  pub fewer : over ≤ i

module _ (h : List ℕ) (b : ℕ) (s : sound h ≡ true) where
  pub count-start : Counting h b 0 0 0
  unfolding owned beyond sum up_to entries_at
  count-start = record { under = omega arith; of_building = refl; of_all = refl; few = omega arith; fewer = omega arith }

  pub count_next : (own over i c x y : ℕ) (z : Bool) → Counting h b own over i → i < get16 h 0 → c ≡ building (tag_at h i) → x ≡ tally (eqb c b)
      → z ≡ leb 8 (owned (building (tag_at h i)) (first_tags h i)) → y ≡ tally z → Counting h b (own + x) (over + y) (i + 1)
  count_next own over i c x y z k g e p f q =
      let n : i + 1 ≡ suc i = omega arith in
      rw n (record {
        under = omega arith;
        of_building = omega (arith, k.of_building, p, ap (λ (d : ℕ). tally (eqb d b)) e, of_more h b i);
        of_all = omega (arith, k.of_all, q, ap tally f, beyond_perm (first_more h i), beyond_more (tag_at h i) (first_tags h i) (tag_small h s i g));
        few = omega (arith, k.few, at_most_one x (eqb c b) p);
        fewer = omega (arith, k.fewer, at_most_one y z q);
      })

-- too few tags
pub few_counted : (h : List ℕ) (t : ℕ) → sound h ≡ true → t < 4294967296 → get16 h 0 < 136 → false ≡ building_full t (tags (blocks (decode h)))
few_counted h t s g few = sym (few_open t (tags_of h) g (tags-small h s) (omega (arith, sound-tags h s, tags-many h s))) ∙ full_perm (tags_perm h s) t

-- all tags counted
pub count_done : (h : List ℕ) (t own over i : ℕ) → sound h ≡ true → Counting h (building t) own over i → get16 h 0 ≤ i → (leb 8 own && leb 128 over) ≡ building_full t (tags (blocks (decode h)))
count_done h t own over i s k all =
    let e : i ≡ get16 h 0 = omega (arith, k.under) in
    let a : own ≡ owned (building t) (tags_of h) = k.of_building ∙ ap (λ (j : ℕ). owned (building t) (first_tags h j)) e in
    let b : over ≡ beyond (tags_of h) = k.of_all ∙ ap (λ (j : ℕ). beyond (first_tags h j)) e in
    ap₂ (λ (x y : ℕ). leb 8 x && leb 128 y) a b ∙ sym (full_beyond t (tags_of h) (tags-small h s) (tags_few h s)) ∙ full_perm (tags_perm h s) t
