-- A tag's block in a sound home: found by the dictionary, and its bytes.
use Rattle.std.specs.Prelude.{Ok}
use Rattle.std.specs.Prelude.{◌≡◌, refl, true, List, [], ◌∷◌, ◌++◌, map, ℕ, suc, ◌+◌, ◌*◌, ◌≤◌, length, drop}
use Rattle.std.proofs.Common.{sym, ap, ◌∙◌, subst, inl, inr, arith}
use Rattle.wire.specs.Bytes.{part, get16, get32}
use Rattle.wire.specs.All.{all_head}
use Rattle.layout.specs.Capacities.{cells, class_of}
use Rattle.layout.specs.Zones.{Block, Zone, zone, blocks, has_tag}
use Rattle.layout.specs.Perm.{Perm, In, Pairs, after}
use Rattle.layout.specs.PermLaws.{prefl, psym, pall, pin, all_in, in_map, map_in}
use Rattle.home.specs.Layout.{Sits, Loose}
use Rattle.layout.specs.FindLaws.{by_tag, has_here, has_skip}
use Rattle.home.specs.Bytes.{step_of, Spot, row, spots, Entry, entry_of, block_bytes, cell_at, count_at, tag_at, entry_cell, encode, decode}
use Rattle.home.specs.AreaLaws.{Good, spots_sit, spots_good}
use Rattle.home.specs.HomeLaws.{ReadsAt, block_tag, block_count, block_starts}
use Rattle.home.specs.DictionaryLaws.{Else, spots-blocks, dictionary_perm}
use Rattle.home.specs.Sound.{sound, pages_of}
use Rattle.home.specs.SoundLaws.{sound_words, encode-decode, sound-small, sound_loose}
use Rattle.home.specs.Lookup.{slot_of}
use Rattle.home.specs.LookupLaws.{entry_in}
use Rattle.home.specs.LookupLoopLaws.{sound_ordered, slot_at}
use Rattle.home.specs.EncodeLaws.{length_loose, reads_loose}
use Rattle.moves.specs.SpotLaws.{spot, gone_before}
use Rattle.moves.specs.HomeLaws.{others}
use Rattle.moves.specs.LayoutMoves.{in_zone}
use Rattle.zones.specs.Known.{Located, Known}
use Rattle.zones.specs.KnownLaws.{located}

-- ---- a block that lies in home's bytes

pub record Lying (step : ℕ) (h : List ℕ) (c p : ℕ) (b : Block) : Type 0 where
  pub sits : Sits step c b
  pub inside : cell_at p + 8 * cells step c ≤ length h
  pub bytes : part h (cell_at p) (8 * cells step c) ≡ block_bytes step c b
  pub tag : get32 h (cell_at p) ≡ b.tag
  pub count : count_at h p ≡ length b.list

module _ (step R : ℕ) (zs : List Zone) (v : Loose step R zs) where
  pub lying : (s : Spot) (ss : List Spot) → Perm (spots step 0 zs) (s ∷ ss) → Lying step (encode step R zs) s.class s.cell s.block
  lying s ss p =
      let sit : Sits step s.class s.block = all_head (pall (λ (x : Spot). Sits step x.class x.block) p (spots_sit step (8 * R) 0 0 zs v.fit)) in
      let good : Good step (8 * R) s = all_head (pall (Good step (8 * R)) p (spots_good step (8 * R) 0 0 zs v.fit)) in
      let rest : List ℕ = drop (cell_at s.cell + 8 * cells step s.class) (encode step R zs) in
      let reads : ReadsAt step (encode step R zs) s = all_head (pall (ReadsAt step (encode step R zs)) p (reads_loose step R zs v)) in
      record {
        sits = sit;
        inside = omega (arith, good.inside, length_loose step R zs v);
        bytes = reads;
        tag = block_tag step (encode step R zs) s.cell s.class s.block rest (block_starts step (encode step R zs) s reads) sit;
        count = block_count step (encode step R zs) s.cell s.class s.block rest (block_starts step (encode step R zs) s reads) sit;
      }

spots-of : (step R : ℕ) (small : R ≤ 1024) (zs ls : List Zone) (f : ℕ) (pre : List Block) (b : Block) (post : List Block) (hs : List Zone) (c p : ℕ)
    → zs ≡ ls ++ zone f (pre ++ b ∷ post) ∷ hs → length ls ≡ c → f + length pre * cells step c ≡ p
    → Perm (spots step 0 zs) (spot c p b ∷ (spots step 0 ls ++ ((row step c f pre ++ row step c (p + cells step c) post) ++ spots step (suc c) hs)))
spots-of step R small zs ls f pre b post hs c p is class cell =
    rw (is, ← cell, ← class) (in_zone step R small ls f (pre ++ b ∷ post) hs (spot (length ls) (f + length pre * cells step (length ls)) b)
    (row step (length ls) f pre ++ row step (length ls) (f + length pre * cells step (length ls) + cells step (length ls)) post) (gone_before step (length ls) f pre b post))

-- a tag's block, and the others
module _ (step R : ℕ) (h : List ℕ) (zs : List Zone) (t c p : ℕ) (k : Known step R h zs t c p) where
  pub others-of : List Spot
  others-of = spots step 0 k.found.lower ++ ((row step c k.found.first k.found.before ++ row step c (p + cells step c) k.found.behind) ++ spots step (suc c) k.found.higher)

  pub known_spots : Perm (spots step 0 zs) (spot c p k.found.block ∷ others-of)
  unfolding others-of
  known_spots = spots-of step R k.pages zs k.found.lower k.found.first k.found.before k.found.block k.found.behind k.found.higher c p k.found.is k.class k.cell

  pub known_lying : Lying step h c p k.found.block
  known_lying = subst (λ (l : List ℕ). Lying step l c p k.found.block) (sym k.bytes) (lying step R zs k.loose (spot c p k.found.block) others-of known_spots)

-- ---- found by the dictionary

-- entries with the same tag are the same
same_entry : (ds : List Entry) (x y : Entry) → Pairs Else ds → In x ds → In y ds → x.tag ≡ y.tag → x ≡ y
same_entry [] x y p i j e = absurd i
same_entry (d ∷ ds) x y (after a p) (inl i) (inl j) e = i ∙ sym j
same_entry (d ∷ ds) x y (after a p) (inl i) (inr j) e = absurd (all_in (Else d) y ds a j (ap (λ (z : Entry). z.tag) (sym i) ∙ e))
same_entry (d ∷ ds) x y (after a p) (inr i) (inl j) e = absurd (all_in (Else d) x ds a i (ap (λ (z : Entry). z.tag) (sym j) ∙ sym e))
same_entry (d ∷ ds) x y (after a p) (inr i) (inr j) e = same_entry ds x y p i j e

in_has : (t : ℕ) (b : Block) (bs : List Block) → In b bs → b.tag ≡ t → has_tag t bs ≡ true
in_has t b [] i e = absurd i
in_has t b (x ∷ xs) (inl i) e = has_here t x xs (ap (λ (y : Block). y.tag) (sym i) ∙ e)
in_has t b (x ∷ xs) (inr i) e = by_tag t x (λ q. has_here t x xs q) (λ n. has_skip t x xs n ∙ in_has t b xs i e)

module _ (h : List ℕ) (s : sound h ≡ true) where
  abbrev R : ℕ
  R = pages_of h

  abbrev zs : List Zone
  zs = decode h

  is : h ≡ encode (step_of h) R zs
  is = sym (encode-decode h s)

  -- the block to which an entry leads is the first one with its tag
  module _ (t i : ℕ) (e : slot_of h t ≡ Ok i) where
    abbrev p : ℕ
    p = entry_cell h i

    abbrev d : Entry
    d = record { tag = tag_at h i; cell = p }

    led : In d (map entry_of (spots (step_of h) 0 zs))
    led = pin d (dictionary_perm (step_of h) zs) (subst (In d) (sound_words h s) (entry_in h 0 (get16 h 0) i (omega arith) (omega (arith, (slot_at h t i (sound_ordered h s) e).0))))

    tagged : tag_at h i ≡ t
    tagged = (slot_at h t i (sound_ordered h s) e).1

    pub slot_has : has_tag t (blocks zs) ≡ true
    slot_has =
        let m = in_map entry_of d (spots (step_of h) 0 zs) led in
        in_has t m.0.block (blocks zs) (subst (In m.0.block) (spots-blocks (step_of h) 0 zs) (map_in (λ (x : Spot). x.block) m.0 (spots (step_of h) 0 zs) m.1))
        (ap (λ (x : Entry). x.tag) (sym m.2) ∙ tagged)

    known_at : (k : Located t zs) → Known (step_of h) R h zs t (length k.lower) p
    known_at k =
        let c : ℕ = length k.lower in
        let q : ℕ = k.first + length k.before * cells (step_of h) c in
        let sp : Spot = spot c q k.block in
        let perm = spots-of (step_of h) R (sound-small h s) zs k.lower k.first k.before k.block k.behind k.higher c q k.is refl refl in
        let same : d ≡ entry_of sp = same_entry (map entry_of (spots (step_of h) 0 zs)) d (entry_of sp) (others (step_of h) R zs (sound_loose h s) (spots (step_of h) 0 zs) (prefl (spots (step_of h) 0 zs)))
        led (map_in entry_of sp (spots (step_of h) 0 zs) (pin sp (psym perm) (inl refl))) (tagged ∙ sym k.tag) in
        record {
          pages = sound-small h s;
          bytes = is;
          loose = sound_loose h s;
          found = k;
          class = refl;
          cell = ap (λ (x : Entry). x.cell) (sym same);
        }

    pub slot_known : Known (step_of h) R h zs t (class_of (step_of h) (count_at h p)) p
    slot_known =
        let k : Located t zs = located t zs slot_has in
        let w : Known (step_of h) R h zs t (length k.lower) p = known_at k in
        let l : Lying (step_of h) h (length k.lower) p w.found.block = known_lying (step_of h) R h zs t (length k.lower) p w in
        subst (λ (c : ℕ). Known (step_of h) R h zs t c p) (sym (ap (class_of (step_of h)) l.count ∙ l.sits.class)) w
