-- What the loops of a check find: bytes that pass every test are a sound home.
use Rattle.std.specs.Prelude.{◌≡◌, ◌&&◌, ltb, drop}
use Rattle.std.proofs.Math.Path.{refl, sym, ap, ap₂, subst}
use Rattle.std.proofs.Common.{◌∙◌, drop_of_length-le}
use Rattle.std.proofs.Math.Bool.{true, false}
use Rattle.std.proofs.Math.Logic.{inl, inr}
use mathlib.Core.List.{List, [], ◌∷◌, ◌++◌, map}
use Prim.Native.Nat.{ℕ, zero, suc, ◌+◌, ◌*◌, ◌-◌, ◌%◌, ◌≤◌, ◌<◌}
use native.Mathlib.Omega.{arith}
use Rattle.std.proofs.Math.Nat.{mod-eq_of_lt, mul-add-mod_self_right}
use Rattle.std.proofs.Math.Dec.{leb, eqb}
use Rattle.std.proofs.Math.ListN.{length, replicate, length-append}
use borrow.Author.Tests.{leb-true, ltb-true, eqb-true, ne_eqb}
use Rattle.wire.specs.Bytes.{pick, part, get16, get32, bytes16, blank, Bytes}
use Rattle.wire.specs.BytesLaws.{part-cons, length_part, blank_is, part-add, part_none}
use Rattle.wire.specs.Cases.{by_eq, by_lt, both, never, by_or}
use Rattle.wire.specs.All.{All, none, more, all_append, all_map}
use Rattle.records.specs.Records.{rising, records}
use Rattle.records.specs.Cells.{length-records}
use Rattle.records.specs.Edits.{encode-records}
use Rattle.layout.specs.Capacities.{cells, capacity, class_of}
use Rattle.layout.specs.CapacitiesLaws.{class_holds}
use Rattle.layout.specs.Zones.{Block, Zone, empty, from, zone, blocks}
use Rattle.layout.specs.Perm.{In, Pairs, single, after}
use Rattle.layout.specs.Valid.{Other}
use Rattle.home.specs.Layout.{Sits, Laid, Fit, Valid, Loose}
use Rattle.home.specs.Bytes.{step_bytes, step_of, block_bytes, Spot, row, spots, area, zone_entries, Entry, entry_of, dictionary, entries_bytes, padded, encode, cell_at, zone_entry_at, count_at, block_at, blocks_at, first_at, many_at, zone_at, zones_from, decode, tag_at, entry_cell, entries_at, end_at}
use Rattle.home.specs.Sound.{pages_of, sized, Sound}
use Rattle.sound.specs.CheckLoopLaws.{end_inside}
use Rattle.sound.specs.Checks.{coded, block_fine, blocks_fine, zone_fine, zones_fine, many_in, leads, tags_fine, checked, starts}
use Rattle.layout.specs.PermLaws.{all_left, all_right, map_in}
use Rattle.home.specs.BytesLaws.{chop, get32-small, records_fit, bytes16_read, bytes32_read}
use Rattle.home.specs.AreaLaws.{Clean}
use Rattle.home.specs.HomeLaws.{ReadsAt, ZeroAt, length-spots, length-dictionary}
use Rattle.home.specs.Rebuilt.{with_entries, block_entries, rebuilt}
use Rattle.home.specs.RebuiltLaws.{Elsewhere, with_elsewhere, with_count, with_dictionary, with_same, front_elsewhere, area_elsewhere}
use Rattle.home.specs.SoundLaws.{t_sized}
use Rattle.home.specs.DictionaryLaws.{Else, Below, dictionary-of, distinct-tags, zone-spots}
use Rattle.home.specs.EncodeLaws.{area_loose, clean_loose, length_loose, reads_loose, valid_loose}

-- a part in two
split : (l : List ℕ) (at m n at' : ℕ) → at + m ≡ at' → part l at (m + n) ≡ part l at m ++ part l at' n
split l at m n at' e = part-add l at m n ∙ ap (λ (k : ℕ). part l at m ++ part l k n) e

blank_part : (l : List ℕ) (at n : ℕ) → at + n ≤ length l → blank (part l at n) ≡ true → part l at n ≡ replicate n 0
blank_part l at n b t = blank_is (part l at n) t ∙ ap (λ (k : ℕ). replicate k 0) (length_part l at n b)

-- ---- blocks

module _ (step : ℕ) (h : List ℕ) (bytes : Bytes h) where
  -- what passes for a block of class c at cell p
  record FoundBlock (c p : ℕ) : Type 0 where
    some : 0 < count_at h p
    few : count_at h p < 990
    class : class_of step (count_at h p) ≡ c
    zeros : get16 h (cell_at p + 6) ≡ 0
    rising : rising (records h (cell_at p + 8) (count_at h p)) ≡ true
    tail : blank (part h (cell_at p + 8 + 8 * count_at h p) (8 * (capacity step c - count_at h p))) ≡ true

  found_block : (c p : ℕ) → block_fine step h c p ≡ true → FoundBlock c p
  unfolding block_fine
  found_block c p t =
      let n : ℕ = count_at h p in
      let t1 = both (ltb 0 n) _ t in
      let t2 = both (ltb n 990) _ t1.1 in
      let t3 = both (eqb (class_of step n) c) _ t2.1 in
      let t4 = both (eqb (get16 h (cell_at p + 6)) 0) _ t3.1 in
      let t5 = both (rising (records h (cell_at p + 8) n)) _ t4.1 in
      record {
        some = ltb-true 0 n t1.0;
        few = ltb-true n 990 t2.0;
        class = eqb-true (class_of step n) c t3.0;
        zeros = eqb-true (get16 h (cell_at p + 6)) 0 t4.0;
        rising = t5.0;
        tail = t5.1;
      }

  room : (c p : ℕ) → FoundBlock c p → count_at h p < cells step c
  room c p f = subst (λ (k : ℕ). count_at h p < cells step k) f.class (class_holds step (count_at h p) (omega (arith, f.few)))

  found_sits : (c p : ℕ) → FoundBlock c p → Sits step c (block_at h p)
  unfolding block_at
  found_sits c p f =
      let l : length (records h (cell_at p + 8) (count_at h p)) ≡ count_at h p = length-records h (cell_at p + 8) (count_at h p) in
      record {
        tag = get32-small h (cell_at p) bytes;
        some = rw l f.some;
        room = rw l (room c p f);
        class = rw l f.class;
        rising = f.rising;
        fits = records_fit h (cell_at p + 8) (count_at h p) bytes;
      }

  found_reads : (c p : ℕ) → cell_at p + 8 * cells step c ≤ length h → FoundBlock c p → ReadsAt step h (record { cell = p; class = c; block = block_at h p })
  unfolding block_at block_bytes bytes16 cells
  found_reads c p b f =
      let at : ℕ = cell_at p in
      let n : ℕ = count_at h p in
      let z : ℕ = 8 * (capacity step c - n) in
      let k : n ≤ capacity step c = omega (arith, room c p f) in
      let l : length (records h (at + 8) n) ≡ n = length-records h (at + 8) n in
      let e : 8 * suc (capacity step c) ≡ 4 + (2 + (2 + (8 * n + z))) = omega arith in
      let lo : at + 8 * suc (capacity step c) ≤ length h = b in
      let two : part h (at + 6) 2 ≡ 0 ∷ 0 ∷ [] = sym (bytes16_read h (at + 6) bytes (omega arith)) ∙ ap bytes16 f.zeros in
      ap (part h at) e
      ∙ split h at 4 (2 + (2 + (8 * n + z))) (at + 4) refl
      ∙ ap₂ (λ (x y : List ℕ). x ++ y) (sym (bytes32_read h at bytes (omega arith)))
      (split h (at + 4) 2 (2 + (8 * n + z)) (at + 6) (omega arith)
      ∙ ap₂ (λ (x y : List ℕ). x ++ y) (sym (bytes16_read h (at + 4) bytes (omega arith)) ∙ ap bytes16 (sym l))
      (split h (at + 6) 2 (8 * n + z) (at + 8) (omega arith)
      ∙ ap₂ (λ (x y : List ℕ). x ++ y) two
      (split h (at + 8) (8 * n) z (at + 8 + 8 * n) refl
      ∙ ap₂ (λ (x y : List ℕ). x ++ y) (sym (encode-records h (at + 8) n bytes (omega arith)))
      (blank_part h (at + 8 + 8 * n) z (omega arith) f.tail ∙ ap (λ (m : ℕ). replicate (8 * (capacity step c - m)) 0) (sym l)))))

  found_blocks : (c p n : ℕ) → cell_at p + 8 * (n * cells step c) ≤ length h → blocks_fine step h c p n ≡ true
      → All (Sits step c) (blocks_at step h c p n) × All (ReadsAt step h) (row step c p (blocks_at step h c p n))
  unfolding blocks_fine blocks_at row
  found_blocks c p zero b t = (none, none)
  found_blocks c p (suc n) b t =
      let u = both (block_fine step h c p) (blocks_fine step h c (p + cells step c) n) t in
      let f : FoundBlock c p = found_block c p u.0 in
      let r = found_blocks c (p + cells step c) n (omega arith) u.1 in
      (more (found_sits c p f) r.0, more (found_reads c p (omega arith) f) r.1)

  length-blocks_at : (c p n : ℕ) → length (blocks_at step h c p n) ≡ n
  unfolding blocks_at
  length-blocks_at c p zero = refl
  length-blocks_at c p (suc n) = ap suc (length-blocks_at c (p + cells step c) n)

  -- ---- zones

  record Found (n c e k : ℕ) (zs : List Zone) : Type 0 where
    classes : length zs ≡ k
    laid : Laid step n c e zs
    reads : All (ReadsAt step h) (spots step c zs)
    clean : Clean step (ZeroAt h) n c e zs
    written : zone_entries zs ≡ part h (zone_entry_at c) (4 * k)
    many : length (blocks zs) ≡ many_in h c k

  module _ (n : ℕ) (long : length h ≡ cell_at n) where
    zone_found : (c e k f m : ℕ) (zs : List Zone) → zone_entry_at (suc c) ≤ length h → first_at h c ≡ f → many_at h c ≡ m → e ≤ n → zone_fine step h n c e ≡ true
        → Found n (suc c) (end_at step h c e) k zs → Found n c e (suc k) (zone f (blocks_at step h c f m) ∷ zs)
    unfolding zone_fine end_at zone blocks_at blocks zone_entries many_in spots row bytes16
    zone_found c e k f zero zs b qf qm en t r =
        let q0 : first_at h c ≡ 0 = eqb-true (first_at h c) 0 (rw qm at t) in
        let end : pick (eqb (many_at h c) 0) e (first_at h c + many_at h c * cells step c) ≡ e = rw qm in
        let r' : Found n (suc c) e k zs = subst (λ (x : ℕ). Found n (suc c) x k zs) end r in
        let four : 4 * suc k ≡ 2 + (2 + 4 * k) = omega arith in
        let p1 : part h (zone_entry_at c) 2 ≡ 0 ∷ 0 ∷ [] = sym (bytes16_read h (zone_entry_at c) bytes (omega arith)) ∙ ap bytes16 q0 in
        let p2 : part h (zone_entry_at c + 2) 2 ≡ 0 ∷ 0 ∷ [] = sym (bytes16_read h (zone_entry_at c + 2) bytes (omega arith)) ∙ ap bytes16 qm in
        record {
          classes = ap suc r'.classes;
          laid = r'.laid;
          reads = r'.reads;
          clean = r'.clean;
          written = ap₂ (λ (x y : List ℕ). x ++ y) (sym p1) (ap₂ (λ (x y : List ℕ). x ++ y) (sym p2) r'.written ∙ sym (split h (zone_entry_at c + 2) 2 (4 * k) (zone_entry_at (suc c)) (omega arith)))
              ∙ sym (split h (zone_entry_at c) 2 (2 + 4 * k) (zone_entry_at c + 2) refl) ∙ ap (part h (zone_entry_at c)) (sym four);
          many = rw qm (omega (arith, r'.many));
        }
    zone_found c e k f (suc m) zs b qf qm en t r =
        let nz : eqb (suc m) 0 ≡ false = ne_eqb (suc m) 0 (λ x. absurd (omega arith)) in
        let t' : leb e f && (ltb f (e + cells step c) && (leb (f + suc m * cells step c) n && (blank (part h (cell_at e) (8 * (f - e))) && blocks_fine step h c f (suc m)))) ≡ true = rw (qm, qf, nz) at t in
        let end : pick (eqb (many_at h c) 0) e (first_at h c + many_at h c * cells step c) ≡ f + suc m * cells step c = rw (qm, qf, nz) in
        let r' : Found n (suc c) (f + suc m * cells step c) k zs = subst (λ (x : ℕ). Found n (suc c) x k zs) end r in
        let t1 = both (leb e f) _ t' in
        let t2 = both (ltb f (e + cells step c)) _ t1.1 in
        let t3 = both (leb (f + suc m * cells step c) n) _ t2.1 in
        let t4 = both (blank (part h (cell_at e) (8 * (f - e)))) _ t3.1 in
        let ef : e ≤ f = leb-true e f t1.0 in
        let fe : f < e + cells step c = ltb-true f (e + cells step c) t2.0 in
        let gn : f + suc m * cells step c ≤ n = leb-true (f + suc m * cells step c) n t3.0 in
        let bs = found_blocks c f (suc m) (omega arith) t4.1 in
        let l : length (blocks_at step h c (f + cells step c) m) ≡ m = length-blocks_at c (f + cells step c) m in
        let four : 4 * suc k ≡ 2 + (2 + 4 * k) = omega arith in
        let p1 : part h (zone_entry_at c) 2 ≡ bytes16 f = sym (bytes16_read h (zone_entry_at c) bytes (omega arith)) ∙ ap bytes16 qf in
        let p2 : part h (zone_entry_at c + 2) 2 ≡ bytes16 (suc (length (blocks_at step h c (f + cells step c) m))) = sym (bytes16_read h (zone_entry_at c + 2) bytes (omega arith)) ∙ ap bytes16 (qm ∙ ap suc (sym l)) in
        record {
          classes = ap suc r'.classes;
          laid = (record { after = ef; tight = fe; sit = bs.0 }, rw l r'.laid);
          reads = all_append bs.1 r'.reads;
          clean = (blank_part h (cell_at e) (8 * (f - e)) (omega arith) t4.0, rw l r'.clean);
          written = ap₂ (λ (x y : List ℕ). x ++ y) (sym p1) (ap₂ (λ (x y : List ℕ). x ++ y) (sym p2) r'.written ∙ sym (split h (zone_entry_at c + 2) 2 (4 * k) (zone_entry_at (suc c)) (omega arith)))
              ∙ sym (split h (zone_entry_at c) 2 (2 + 4 * k) (zone_entry_at c + 2) refl) ∙ ap (part h (zone_entry_at c)) (sym four);
          many = rw qm (simp length-append (omega (arith, r'.many, l)));
        }

    zones_found : (c e k : ℕ) → zone_entry_at (c + k) ≤ length h → e ≤ n → zones_fine step h n c e k ≡ true → Found n c e k (zones_from step h c k)
    unfolding zones_fine zones_from zone_at zone_entries spots blocks many_in
    zones_found c e zero b en t =
        let u = both (leb e n) (blank (part h (cell_at e) (8 * (n - e)))) t in
        record { classes = refl; laid = en; reads = none; clean = blank_part h (cell_at e) (8 * (n - e)) (omega arith) u.1; written = sym (part_none h (zone_entry_at c)); many = refl }
    zones_found c e (suc k) b en t =
        let u = both (zone_fine step h n c e) (zones_fine step h n (suc c) (end_at step h c e) k) t in
        zone_found c e k (first_at h c) (many_at h c) (zones_from step h (suc c) k) (omega arith) refl refl en u.0
        (zones_found (suc c) (end_at step h c e) k (omega arith) (end_inside step h n c e en u.0) u.1)

-- ---- the dictionary

length-entries_at : (h : List ℕ) (i n : ℕ) → length (entries_at h i n) ≡ n
unfolding entries_at
length-entries_at h i zero = refl
length-entries_at h i (suc n) = ap suc (length-entries_at h (suc i) n)

entries_again : (h : List ℕ) (i n : ℕ) → Bytes h → 128 + 6 * (i + n) ≤ length h → entries_bytes (entries_at h i n) ≡ part h (128 + 6 * i) (6 * n)
unfolding entries_at entries_bytes
entries_again h i zero b g = sym (part_none h (128 + 6 * i))
entries_again h i (suc n) b g =
    let at : ℕ = 128 + 6 * i in
    let e : 6 * suc n ≡ 4 + (2 + 6 * n) = omega arith in
    ap₂ (λ (x y : List ℕ). x ++ y) (bytes32_read h at b (omega arith))
    (ap₂ (λ (x y : List ℕ). x ++ y) (bytes16_read h (at + 4) b (omega arith)) (entries_again h (suc i) n b (omega arith))
    ∙ sym (split h (at + 4) 2 (6 * n) (128 + 6 * suc i) (omega arith)))
    ∙ sym (split h at 4 (2 + 6 * n) (at + 4) refl) ∙ ap (part h at) (sym e)

in_left : {A : Type 0} (x : A) (xs ys : List A) → In x xs → In x (xs ++ ys)
in_left x [] ys i = absurd i
in_left x (y ∷ xs) ys (inl e) = inl e
in_left x (y ∷ xs) ys (inr i) = inr (in_left x xs ys i)

in_right : {A : Type 0} (x : A) (xs ys : List A) → In x ys → In x (xs ++ ys)
in_right x [] ys i = i
in_right x (y ∷ xs) ys i = inr (in_right x xs ys i)

module _ (step : ℕ) (h : List ℕ) where
  -- the block of class c at cell p
  abbrev spot_at : ℕ → ℕ → Spot
  spot_at c p = record { cell = p; class = c; block = block_at h p }

  row_in : (c f n p : ℕ) → f ≤ p → p < f + n * cells step c → (p - f) % cells step c ≡ 0 → In (spot_at c p) (row step c f (blocks_at step h c f n))
  unfolding row blocks_at
  row_in c f zero p lo hi m = absurd (omega arith)
  row_in c f (suc n) p lo hi m =
      by_eq p f
      (λ e. inl (ap (spot_at c) e))
      (λ d. by_lt (p - f) (cells step c)
      (λ g. let z : (p - f) % cells step c ≡ p - f = mod-eq_of_lt g in absurd (d (omega arith)))
      (λ g. let e : 1 * cells step c + (p - (f + cells step c)) ≡ p - f = omega arith in
      inr (row_in c (f + cells step c) n p (omega arith) (omega arith) (sym (mul-add-mod_self_right 1 (cells step c) (p - (f + cells step c))) ∙ ap (λ (x : ℕ). x % cells step c) e ∙ m))))

  leads_in : (c k p : ℕ) → leads step h c k p ≡ true → (d : ℕ) × In (spot_at d p) (spots step c (zones_from step h c k))
  unfolding leads starts zones_from zone_at
  leads_in c zero p t = never t
  leads_in c (suc k) p t =
      let f : ℕ = first_at h c in
      let bs : List Block = blocks_at step h c f (many_at h c) in
      let zs : List Zone = zones_from step h (suc c) k in
      by_or (starts step h c p) (leads step h (suc c) k p) t
      (λ u. let u1 = both (leb f p) _ u in
      let u2 = both (ltb p (f + many_at h c * cells step c)) _ u1.1 in (
        c,
        subst (In (spot_at c p)) (sym (zone-spots step c f bs zs))
            (in_left (spot_at c p) (row step c f bs) (spots step (suc c) zs) (row_in c f (many_at h c) p (leb-true f p u1.0) (ltb-true p (f + many_at h c * cells step c) u2.0) (eqb-true ((p - f) % cells step c) 0 u2.1))),
      ))
      (λ u. let r = leads_in (suc c) k p u in
      (r.0, subst (In (spot_at r.0 p)) (sym (zone-spots step c f bs zs)) (in_right (spot_at r.0 p) (row step c f bs) (spots step (suc c) zs) r.1)))

  -- what passes for n entries from the i-th on
  record FoundTags (low i n : ℕ) : Type 0 where
    high : All (λ (d : Entry). low ≤ d.tag) (entries_at h i n)
    rising : Pairs Below (entries_at h i n)
    led : All (λ (d : Entry). In d (map entry_of (spots step 0 (zones_from step h 0 30)))) (entries_at h i n)

  tags_found : (low i n : ℕ) → tags_fine step h low i n ≡ true → FoundTags low i n
  unfolding tags_fine entries_at block_at
  tags_found low i zero t = record { high = none; rising = single; led = none }
  tags_found low i (suc n) t =
      let p : ℕ = entry_cell h i in
      let d : Entry = record { tag = tag_at h i; cell = p } in
      let t1 = both (leb low (tag_at h i)) _ t in
      let t2 = both (leads step h 0 30 p) _ t1.1 in
      let t3 = both (eqb (get32 h (cell_at p)) (tag_at h i)) _ t2.1 in
      let lo : low ≤ tag_at h i = leb-true low (tag_at h i) t1.0 in
      let q : get32 h (cell_at p) ≡ tag_at h i = eqb-true (get32 h (cell_at p)) (tag_at h i) t3.0 in
      let r : FoundTags (tag_at h i + 1) (suc i) n = tags_found (tag_at h i + 1) (suc i) n t3.1 in
      let s = leads_in 0 30 p t2.0 in
      let e : entry_of (spot_at s.0 p) ≡ d = λ j. record { tag = q j; cell = p } in
      record {
        high = more lo (higher lo r.high);
        rising = after (above r.high) r.rising;
        led = more (subst (λ (x : Entry). In x (map entry_of (spots step 0 (zones_from step h 0 30)))) e (map_in entry_of (spot_at s.0 p) (spots step 0 (zones_from step h 0 30)) s.1)) r.led;
      }
    where
      higher : {ds : List Entry} → low ≤ tag_at h i → All (λ (d : Entry). tag_at h i + 1 ≤ d.tag) ds → All (λ (d : Entry). low ≤ d.tag) ds
      higher lo a = all_map (λ d b. omega arith) a

      above : {ds : List Entry} → All (λ (d : Entry). tag_at h i + 1 ≤ d.tag) ds → All (Below (record { tag = tag_at h i; cell = entry_cell h i })) ds
      above a = all_map (λ d b. omega arith) a

-- ---- bytes that hold the blocks where they lie, and zeros between, are those of the layout

module _ (step : ℕ) (a b : List ℕ) where
  glue : (i m j : ℕ) → i + m ≡ j → part a (cell_at i) (8 * m) ≡ part b (cell_at i) (8 * m) → drop (cell_at j) a ≡ drop (cell_at j) b → drop (cell_at i) a ≡ drop (cell_at i) b
  glue i m j q h k =
      let e : cell_at i + 8 * m ≡ cell_at j = omega arith in
      chop (cell_at i) (8 * m) a
      ∙ ap₂ (λ (x y : List ℕ). x ++ y) h (ap (λ (z : ℕ). drop z a) e ∙ k ∙ sym (ap (λ (z : ℕ). drop z b) e))
      ∙ sym (chop (cell_at i) (8 * m) b)

  row_same : (c p j : ℕ) (xs : List Block) → p + length xs * cells step c ≡ j → All (ReadsAt step a) (row step c p xs) → All (ReadsAt step b) (row step c p xs)
      → drop (cell_at j) a ≡ drop (cell_at j) b → drop (cell_at p) a ≡ drop (cell_at p) b
  unfolding row
  row_same c p j [] q h k d = let e : j ≡ p = omega arith in rw e at d
  row_same c p j (x ∷ xs) q (more u h) (more w k) d = glue p (cells step c) (p + cells step c) refl (u ∙ sym w) (row_same c (p + cells step c) j xs (omega arith) h k d)

  module _ (n : ℕ) (la : length a ≡ cell_at n) (lb : length b ≡ cell_at n) where
    past_end : (l : List ℕ) → length l ≡ cell_at n → drop (cell_at n) l ≡ []
    past_end l e = drop_of_length-le l {i = cell_at n} (omega arith)

    zones_same : (c e : ℕ) (zs : List Zone) → Fit step n c e zs → All (ReadsAt step a) (spots step c zs) → All (ReadsAt step b) (spots step c zs) → Clean step (ZeroAt a) n c e zs → Clean step (ZeroAt b) n c e zs
        → drop (cell_at e) a ≡ drop (cell_at e) b
    unfolding spots
    zones_same c e [] l h k p q = glue e (n - e) n (omega arith) (p ∙ sym q) (past_end a la ∙ sym (past_end b lb))
    zones_same c e (empty ∷ zs) l h k p q = zones_same (suc c) e zs l h k p q
    zones_same c e (from f x xs ∷ zs) l h k p q =
        let g : ℕ = f + suc (length xs) * cells step c in
        let r : List Spot = row step c f (x ∷ xs) in
        let t : List Spot = spots step (suc c) zs in
        glue e (f - e) f (omega (arith, l.0.after)) (p.0 ∙ sym q.0)
        (row_same c f g (x ∷ xs) refl (all_left (ReadsAt step a) r t h) (all_left (ReadsAt step b) r t k)
        (zones_same (suc c) g zs l.1 (all_right (ReadsAt step a) r t h) (all_right (ReadsAt step b) r t k) p.1 q.1))

home_of : (step R : ℕ) (zs : List Zone) (h : List ℕ) → part h 0 2 ≡ bytes16 (length (blocks zs)) → part h 2 120 ≡ zone_entries zs → part h 122 6 ≡ step_bytes step
    → part h 128 1536 ≡ padded (dictionary step zs) → drop 1664 h ≡ area step (8 * R) zs → h ≡ encode step R zs
unfolding encode
home_of step R zs h a b c d e =
    chop 0 2 h ∙ ap₂ (λ (x y : List ℕ). x ++ y) a
    (chop 2 120 h ∙ ap₂ (λ (x y : List ℕ). x ++ y) b
    (chop 122 6 h ∙ ap₂ (λ (x y : List ℕ). x ++ y) c
    (chop 128 1536 h ∙ ap₂ (λ (x y : List ℕ). x ++ y) d e)))

-- ---- all of it

-- fine zones, whose blocks bear different tags and are at most 256, make a sound home once tag count and dictionary are rebuilt
module _ (h : List ℕ) (b : Bytes h) (sizes : sized h ≡ true) (code : coded h ≡ true) (zones : zones_fine (step_of h) h (8 * pages_of h) 0 0 30 ≡ true) where
  long : length h ≡ cell_at (8 * pages_of h)
  long = omega (arith, ((t_sized h).says sizes).long)

  found : Found (step_of h) h b (8 * pages_of h) 0 0 30 (decode h)
  unfolding decode
  found = zones_found (step_of h) h b (8 * pages_of h) long 0 0 30 (omega (arith, long)) (omega arith) zones

  pub found_many : length (blocks (decode h)) ≡ many_in h 0 30
  found_many = found.many

  found_step : (step_of h ≤ 1) × (part h 122 6 ≡ step_bytes (step_of h))
  unfolding coded
  found_step =
      let t = both (leb (step_of h) 1) (blank (part h 123 5)) code in
      (leb-true (step_of h) 1 t.0, part-cons h 122 5 (omega (arith, long)) ∙ ap (λ (l : List ℕ). step_of h ∷ l) (blank_part h 123 5 (omega (arith, long)) t.1))

  module _ (distinct : Pairs Other (blocks (decode h))) (few : many_in h 0 30 ≤ 256) where
    found_valid : Valid (step_of h) (8 * pages_of h) (decode h)
    found_valid = record { classes = found.classes; laid = found.laid; distinct = distinct; few = omega (arith, found.many) }

    pub found_sound : Sound (rebuilt h)
    unfolding rebuilt
    found_sound =
        let R : ℕ = pages_of h in
        let step : ℕ = step_of h in
        let zs : List Zone = decode h in
        let ds : List Entry = block_entries h in
        let z = (t_sized h).says sizes in
        let v : Loose step R zs = valid_loose step R zs found_valid in
        let n : length ds ≡ length (blocks zs) = length-dictionary step zs in
        let few : length ds ≤ 256 = omega (arith, found.many) in
        let e : Elsewhere (rebuilt h) h = with_elsewhere ds few h in
        let end : length (encode step R zs) ≡ cell_at (8 * R) = omega (arith, length_loose step R zs v) in
        record {
          pages = R;
          low = z.low;
          high = z.high;
          step = step;
          code = found_step.0;
          zones = zs;
          valid = found_valid;
          bytes = home_of step R zs (rebuilt h) (with_count ds few h (omega (arith, long)) ∙ ap bytes16 n) (front_elsewhere (rebuilt h) h e 2 120 (omega arith) (omega arith) ∙ sym found.written)
              (front_elsewhere (rebuilt h) h e 122 6 (omega arith) (omega arith) ∙ found_step.1) (with_dictionary ds few h (omega (arith, long)))
              (area_elsewhere (rebuilt h) h e ∙ zones_same step h (encode step R zs) (8 * R) long end 0 0 zs v.fit found.reads (reads_loose step R zs v) found.clean (clean_loose step R zs v) ∙ area_loose step R zs v);
        }

-- where tag count and dictionary are fine too, they are what is rebuilt
pub checked-sound : (h : List ℕ) → Bytes h → checked h ≡ true → Sound h
unfolding checked padded decode rebuilt
checked-sound h b t =
    let n : ℕ = get16 h 0 in
    let zs : List Zone = decode h in
    let ds : List Entry = entries_at h 0 n in
    let t1 = both (sized h) _ t in
    let t2 = both (leb n 256) _ t1.1 in
    let t3 = both (coded h) _ t2.1 in
    let t4 = both (zones_fine (step_of h) h (8 * pages_of h) 0 0 30) _ t3.1 in
    let t5 = both (eqb (many_in h 0 30) n) _ t4.1 in
    let t6 = both (tags_fine (step_of h) h 0 0 n) _ t5.1 in
    let few : n ≤ 256 = leb-true n 256 t2.0 in
    let size : length h ≡ cell_at (8 * pages_of h) = long h b t1.0 t3.0 t4.0 in
    let many : many_in h 0 30 ≡ n = eqb-true (many_in h 0 30) n t5.0 in
    let g : FoundTags (step_of h) h 0 0 n = tags_found (step_of h) h 0 0 n t6.0 in
    let ld : length ds ≡ n = length-entries_at h 0 n in
    let i : (dictionary (step_of h) zs ≡ ds) × Pairs Else (map entry_of (spots (step_of h) 0 zs)) =
    dictionary-of (step_of h) ds zs g.rising g.led (ld ∙ sym many ∙ sym (found_many h b t1.0 t3.0 t4.0) ∙ sym (length-spots (step_of h) 0 zs)) in
    let count : part h 0 2 ≡ bytes16 (length ds) = sym (bytes16_read h 0 b (omega arith)) ∙ ap bytes16 (sym ld) in
    let dict : part h 128 1536 ≡ padded ds =
    let e : 1536 ≡ 6 * n + (1536 - 6 * n) = omega arith in
    ap (part h 128) e ∙ split h 128 (6 * n) (1536 - 6 * n) (128 + 6 * n) refl
    ∙ ap₂ (λ (x y : List ℕ). x ++ y) (sym (entries_again h 0 n b (omega arith))) (blank_part h (128 + 6 * n) (1536 - 6 * n) (omega arith) t6.1 ∙ ap (λ (m : ℕ). replicate (1536 - 6 * m) 0) (sym ld)) in
    let same : rebuilt h ≡ h = ap (λ (x : List Entry). with_entries x h) i.0 ∙ with_same ds (omega arith) h (omega arith) count dict in
    subst Sound same (found_sound h b t1.0 t3.0 t4.0 (distinct-tags (step_of h) zs i.1) (omega arith))
