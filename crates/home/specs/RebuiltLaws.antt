-- Which homes can be rebuilt: those that are a sound one but for tag count and dictionary; and that this one is what is rebuilt.
use Rattle.std.specs.Prelude.{◌≡◌, refl, true, leb, drop, get_or}
use Rattle.std.proofs.Math.Path.{sym, ap, ap₂}
use Rattle.std.proofs.Common.{◌∙◌, subst, inr, arith, get_or-drop, length-drop}
use mathlib.Core.List.{List, [], ◌∷◌}
use Prim.Native.Nat.{ℕ, suc, ◌+◌, ◌*◌, ◌-◌, ◌/◌, ◌≤◌, ◌<◌}
use Rattle.std.proofs.Math.Seq.{ext_get_or}
use Rattle.std.proofs.Math.ListN.{length}
use borrow.Author.Tests.{le-leb, leb-true}
use Rattle.wire.specs.Bytes.{part, over, get16, bytes16}
use Rattle.wire.specs.BytesLaws.{length_over, over-low, over_high, over-at, over_same, over_whole, part-over, part_else, part_same, get16_same, length-bytes16}
use Rattle.wire.specs.Cases.{by_within, both}
use Rattle.wire.specs.All.{All, all_map}
use Rattle.layout.specs.Capacities.{cells}
use Rattle.layout.specs.Zones.{Zone, empty, from, blocks}
use Rattle.home.specs.Bytes.{Entry, Spot, spots, zone_entries, dictionary, padded, area, step_of, cell_at, zone_entry_at, zones_from, decode}
use Rattle.home.specs.Sound.{pages_of, sound}
use Rattle.home.specs.HomeLaws.{ReadsAt, ZeroAt, Entries, zones-back, length-dictionary, length-padded}
use Rattle.home.specs.AreaLaws.{Clean}
use Rattle.home.specs.JoinLaws.{join, join-count, join-entry}
use Rattle.home.specs.EncodeLaws.{length-zones, entries_loose, clean_loose, encode-state, state}
use Rattle.home.specs.SoundLaws.{encode-decode, sound_long, sound-small, sound_loose, sound-valid, sound_reads}
use Rattle.home.specs.Rebuilt.{with_entries, block_entries, rebuilt, mendable}

-- alike "in all other respects": in all bytes but those of the tag count and the dictionary
pub record Elsewhere (g h : List ℕ) : Type 0 where
  pub long : length g ≡ length h
  pub front : (i : ℕ) → 2 ≤ i → i < 128 → get_or g i 0 ≡ get_or h i 0
  pub behind : (i : ℕ) → 1664 ≤ i → get_or g i 0 ≡ get_or h i 0

pub elsewhere_sym : (g h : List ℕ) → Elsewhere g h → Elsewhere h g
elsewhere_sym g h e = record { long = sym e.long; front = λ i a b. sym (e.front i a b); behind = λ i a. sym (e.behind i a) }

-- ---- other entries

pub length_with : (ds : List Entry) (h : List ℕ) → length (with_entries ds h) ≡ length h
unfolding with_entries
length_with ds h = length_over (over h 0 (bytes16 (length ds))) 128 (padded ds) ∙ length_over h 0 (bytes16 (length ds))

module _ (ds : List Entry) (few : length ds ≤ 256) where
  pub with_elsewhere : (h : List ℕ) → Elsewhere (with_entries ds h) h
  unfolding with_entries
  with_elsewhere h =
      let h1 : List ℕ = over h 0 (bytes16 (length ds)) in
      record {
        long = length_with ds h;
        front = λ i a b. over-low h1 128 (padded ds) i b ∙ over_high h 0 (bytes16 (length ds)) i (omega (arith, length-bytes16 (length ds)));
        behind = λ i a. over_high h1 128 (padded ds) i (omega (arith, length-padded ds few)) ∙ over_high h 0 (bytes16 (length ds)) i (omega (arith, length-bytes16 (length ds)));
      }

  -- its own parts
  module _ (h : List ℕ) (l : 1664 ≤ length h) where
    pub with_count : part (with_entries ds h) 0 2 ≡ bytes16 (length ds)
    unfolding with_entries
    with_count =
        let c : List ℕ = bytes16 (length ds) in
        part_else (over h 0 c) 128 (padded ds) 0 2 (inr (omega arith)) ∙ ap (part (over h 0 c) 0) (sym (length-bytes16 (length ds))) ∙ part-over h 0 c (omega (arith, length-bytes16 (length ds)))

    pub with_dictionary : part (with_entries ds h) 128 1536 ≡ padded ds
    unfolding with_entries
    with_dictionary =
        let h1 : List ℕ = over h 0 (bytes16 (length ds)) in
        let m : length (padded ds) ≡ 1536 = length-padded ds few in
        ap (part (over h1 128 (padded ds)) 128) (sym m) ∙ part-over h1 128 (padded ds) (omega (arith, length_over h 0 (bytes16 (length ds))))

    -- a home that has them is as it was
    pub with_same : part h 0 2 ≡ bytes16 (length ds) → part h 128 1536 ≡ padded ds → with_entries ds h ≡ h
    unfolding with_entries
    with_same p q =
        let c : List ℕ = bytes16 (length ds) in
        let n : length c ≡ 2 = length-bytes16 (length ds) in
        let m : length (padded ds) ≡ 1536 = length-padded ds few in
        ap (λ (x : List ℕ). over x 128 (padded ds)) (over_same h 0 c (omega arith) (ap (part h 0) n ∙ p)) ∙ over_same h 128 (padded ds) (omega arith) (ap (part h 128) m ∙ q)

  -- homes alike elsewhere are the same with the same entries
  pub with_alike : (g h : List ℕ) → 1664 ≤ length h → Elsewhere g h → with_entries ds g ≡ with_entries ds h
  unfolding with_entries
  with_alike g h l e =
      let c : List ℕ = bytes16 (length ds) in
      let g1 : List ℕ = over g 0 c in
      let h1 : List ℕ = over h 0 c in
      let n : length c ≡ 2 = length-bytes16 (length ds) in
      let m : length (padded ds) ≡ 1536 = length-padded ds few in
      ext_get_or 0 (with_entries ds g) (with_entries ds h) (length_with ds g ∙ e.long ∙ sym (length_with ds h))
      (λ i b. let k : i < length h = omega (arith, length_with ds g, e.long) in
      by_within 128 1536 i
      (λ a. over-low g1 128 (padded ds) i a
      ∙ by_within 0 2 i
      (λ u. absurd (omega arith))
      (λ u v. over-at g 0 c i (omega arith) (omega arith) (omega (arith, e.long)) ∙ sym (over-at h 0 c i (omega arith) (omega arith) k))
      (λ u. over_high g 0 c i (omega arith) ∙ e.front i (omega arith) a ∙ sym (over_high h 0 c i (omega arith)))
      ∙ sym (over-low h1 128 (padded ds) i a))
      (λ a v. over-at g1 128 (padded ds) i a (omega arith) (omega (arith, length_over g 0 c, e.long)) ∙ sym (over-at h1 128 (padded ds) i a (omega arith) (omega (arith, length_over h 0 c))))
      (λ a. over_high g1 128 (padded ds) i (omega arith) ∙ over_high g 0 c i (omega arith) ∙ e.behind i (omega arith) ∙ sym (over_high h1 128 (padded ds) i (omega arith) ∙ over_high h 0 c i (omega arith))))

-- ---- what a home holds, one alike elsewhere holds

module _ (g h : List ℕ) (e : Elsewhere g h) where
  step_elsewhere : step_of g ≡ step_of h
  step_elsewhere = e.front 122 (omega arith) (omega arith)

  pub front_elsewhere : (i n : ℕ) → 2 ≤ i → i + n ≤ 128 → part g i n ≡ part h i n
  front_elsewhere i n a b = part_same h g i n e.long (λ k lo hi. e.front k (omega arith) (omega arith))

  part_elsewhere : (p n : ℕ) → part g (cell_at p) n ≡ part h (cell_at p) n
  part_elsewhere p n = part_same h g (cell_at p) n e.long (λ i a b. e.behind i (omega arith))

  pub area_elsewhere : drop 1664 g ≡ drop 1664 h
  area_elsewhere = ext_get_or 0 (drop 1664 g) (drop 1664 h) (simp length-drop (omega (arith, e.long))) (λ i b. get_or-drop 1664 g i 0 ∙ e.behind (1664 + i) (omega arith) ∙ sym (get_or-drop 1664 h i 0))

  number_elsewhere : (k : ℕ) → 2 ≤ k → k + 1 < 128 → get16 g k ≡ get16 h k
  number_elsewhere k a b = get16_same h g k (e.front k a (omega arith)) (e.front (k + 1) (omega arith) b)

  entries_elsewhere : (c : ℕ) (zs : List Zone) → c + length zs ≤ 30 → Entries g c zs → Entries h c zs
  entries_elsewhere c [] b d = tt
  entries_elsewhere c (empty ∷ zs) b d = (
    sym (number_elsewhere (zone_entry_at c) (omega arith) (omega arith)) ∙ d.0,
    sym (number_elsewhere (zone_entry_at c + 2) (omega arith) (omega arith)) ∙ d.1,
    entries_elsewhere (suc c) zs (omega arith) d.2,
  )
  entries_elsewhere c (from f x xs ∷ zs) b d = (
    sym (number_elsewhere (zone_entry_at c) (omega arith) (omega arith)) ∙ d.0,
    sym (number_elsewhere (zone_entry_at c + 2) (omega arith) (omega arith)) ∙ d.1,
    entries_elsewhere (suc c) zs (omega arith) d.2,
  )

  reads_elsewhere : (step : ℕ) {ss : List Spot} → All (ReadsAt step g) ss → All (ReadsAt step h) ss
  reads_elsewhere step a = all_map {P = ReadsAt step g} {Q = ReadsAt step h} (λ s r. sym (part_elsewhere s.cell (8 * cells step s.class)) ∙ r) a

  clean_elsewhere : (step n c k : ℕ) (zs : List Zone) → Clean step (ZeroAt g) n c k zs → Clean step (ZeroAt h) n c k zs
  clean_elsewhere step n c k [] z = sym (part_elsewhere k (8 * (n - k))) ∙ z
  clean_elsewhere step n c k (empty ∷ zs) z = clean_elsewhere step n (suc c) k zs z
  clean_elsewhere step n c k (from f x xs ∷ zs) z = (sym (part_elsewhere k (8 * (f - k))) ∙ z.0, clean_elsewhere step n (suc c) (f + suc (length xs) * cells step c) zs z.1)

-- ---- a sound home

module _ (g : List ℕ) (t : sound g ≡ true) where
  abbrev zs : List Zone
  zs = decode g

  few : length (block_entries g) ≤ 256
  few = omega (arith, length-dictionary (step_of g) zs, (sound-valid g t).few)

  -- it is what is rebuilt of it
  pub rebuilt-sound : rebuilt g ≡ g
  unfolding rebuilt with_entries
  rebuilt-sound =
      let step : ℕ = step_of g in
      let ds : List Entry = block_entries g in
      let es : List ℕ = zone_entries zs in
      let a : List ℕ = area step (8 * pages_of g) zs in
      let l : length es ≡ 120 = length-zones step (pages_of g) zs (sound_loose g t) in
      let m : length (padded ds) ≡ 1536 = length-padded ds few in
      let s : g ≡ state step es ds a = sym (encode-decode g t) ∙ encode-state step (pages_of g) zs (sound_loose g t) in
      ap (λ (x : List ℕ). over (over x 0 (bytes16 (length ds))) 128 (padded ds)) s
      ∙ ap (λ (x : List ℕ). over x 128 (padded ds)) (join-count step (length ds) es (padded ds) a l m (length ds))
      ∙ join-entry step (length ds) es (padded ds) a l m 0 (padded ds) (omega arith)
      ∙ ap (λ (x : List ℕ). join step (length ds) es x a) (over_whole (padded ds) (padded ds) refl)
      ∙ sym s

  -- any home alike elsewhere tells the same layout, and is rebuilt to this one
  module _ (h : List ℕ) (e : Elsewhere g h) where
    pub pages_elsewhere : pages_of h ≡ pages_of g
    pages_elsewhere = ap (λ (n : ℕ). n / 64 - 26) (sym e.long)

    pub holds_entries : Entries h 0 zs
    holds_entries = entries_elsewhere g h e 0 zs (omega (arith, (sound-valid g t).classes))
        (subst (λ (x : List ℕ). Entries x 0 zs) (encode-decode g t) (entries_loose (step_of g) (pages_of g) (sound-small g t) zs (sound_loose g t)))

    pub holds_blocks : All (ReadsAt (step_of g) h) (spots (step_of g) 0 zs)
    holds_blocks = reads_elsewhere g h e (step_of g) (sound_reads g t)

    pub holds_zeros : Clean (step_of g) (ZeroAt h) (8 * pages_of g) 0 0 zs
    holds_zeros = clean_elsewhere g h e (step_of g) (8 * pages_of g) 0 0 zs
        (subst (λ (x : List ℕ). Clean (step_of g) (ZeroAt x) (8 * pages_of g) 0 0 zs) (encode-decode g t) (clean_loose (step_of g) (pages_of g) zs (sound_loose g t)))

    pub decode_elsewhere : decode h ≡ zs
    unfolding decode
    decode_elsewhere =
        ap (λ (k : ℕ). zones_from k h 0 30) (sym (step_elsewhere g h e))
        ∙ ap (zones_from (step_of g) h 0) (sym (sound-valid g t).classes)
        ∙ zones-back (step_of g) (8 * pages_of g) 0 0 zs h (sound_loose g t).fit holds_entries holds_blocks

    pub rebuilt_elsewhere : rebuilt h ≡ g
    unfolding rebuilt
    rebuilt_elsewhere =
        ap₂ (λ (k : ℕ) (l : List Zone). with_entries (dictionary k l) h) (sym (step_elsewhere g h e)) decode_elsewhere
        ∙ sym (with_alike (block_entries g) few g h (omega (arith, sound_long g t, e.long)) e)
        ∙ rebuilt-sound

    pub mendable_elsewhere : mendable h ≡ true
    unfolding mendable
    mendable_elsewhere = rw (decode_elsewhere, rebuilt_elsewhere, le-leb (length (blocks zs)) 256 (sound-valid g t).few) t

-- ---- a home that can be rebuilt

module _ (h : List ℕ) (t : mendable h ≡ true) where
  -- has at most 256 blocks
  pub mendable_few : length (blocks (decode h)) ≤ 256
  unfolding mendable
  mendable_few = leb-true (length (blocks (decode h))) 256 (both (leb (length (blocks (decode h))) 256) (sound (rebuilt h)) t).0

  -- is sound then, and alike elsewhere
  pub mended-sound : sound (rebuilt h) ≡ true
  unfolding mendable
  mended-sound = (both (leb (length (blocks (decode h))) 256) (sound (rebuilt h)) t).1

  pub mended_elsewhere : Elsewhere (rebuilt h) h
  unfolding rebuilt
  mended_elsewhere = with_elsewhere (block_entries h) (omega (arith, length-dictionary (step_of h) (decode h), mendable_few)) h

  -- its blocks are those of the rebuilt one
  pub mended-blocks : decode (rebuilt h) ≡ decode h
  mended-blocks = sym (decode_elsewhere (rebuilt h) mended-sound h mended_elsewhere)

-- exactly if some sound home is alike elsewhere; and that one is what is rebuilt
pub record Mends (h g : List ℕ) : Type 0 where
  pub fine : sound g ≡ true
  pub same : Elsewhere g h

pub mendable-says : (h : List ℕ) → mendable h ≡ true → Mends h (rebuilt h)
mendable-says h t = record { fine = mended-sound h t; same = mended_elsewhere h t }

pub mendable_when : (h g : List ℕ) → Mends h g → (mendable h ≡ true) × (rebuilt h ≡ g)
mendable_when h g m = (mendable_elsewhere g m.fine h m.same, rebuilt_elsewhere g m.fine h m.same)
