-- The other half: a sound home passes every test.
use Rattle.std.specs.Prelude.{◌≡◌, Bool, true, false, ◌&&◌, ◌⊎◌, ltb, eqb, take, drop}
use Rattle.std.proofs.Math.Path.{refl, sym, ap}
use Rattle.std.proofs.Common.{◌∙◌, subst, inl, inr, arith, mod-eq_of_lt, length-append, drop-drop}
use mathlib.Core.List.{List, [], ◌∷◌, ◌++◌, append_assoc}
use Prim.Native.Nat.{ℕ, suc, ◌+◌, ◌*◌, ◌-◌, ◌%◌, ◌≤◌, ◌<◌}
use Rattle.std.proofs.Math.Nat.{mul-add-mod_self_right}
use Rattle.std.proofs.Math.Dec.{leb}
use Rattle.std.proofs.Math.ListN.{length, replicate}
use Rattle.std.proofs.lemmas.List.{length-replicate}
use Rattle.std.proofs.Math.Seq.{drop_at, take_at}
use borrow.Author.Tests.{le-leb, lt-ltb, eq-eqb, ne_eqb}
use Rattle.wire.specs.Bytes.{part, get16, get32, bytes16, bytes32, blank}
use Rattle.wire.specs.BytesLaws.{part-cons, blank-zeros}
use Rattle.wire.specs.All.{All, more, all_map}
use Rattle.wire.specs.Cases.{or_left, or_right}
use Rattle.records.specs.Records.{rising, records, encode as record_bytes}
use Rattle.records.specs.Edits.{length-encode}
use Rattle.layout.specs.Capacities.{cells, capacity, class_of}
use Rattle.layout.specs.CapacitiesLaws.{cells_pos, cells_most}
use Rattle.layout.specs.Zones.{Block, Zone, empty, from, blocks}
use Rattle.layout.specs.Perm.{In, Pairs, after}
use Rattle.home.specs.Layout.{Sits, Laid, Fit, Valid}
use Rattle.home.specs.Bytes.{step_bytes, step_of, block_bytes, Spot, row, spots, area, zone_entries, Entry, entry_of, dictionary, entries_bytes, padded, encode, cell_at, tag_at, entry_cell, end_at}
use Rattle.home.specs.Sound.{pages_of, sized, Sound}
use Rattle.sound.specs.Checks.{coded, block_fine, blocks_fine, zone_fine, zones_fine, many_in, leads, tags_fine, checked, starts}
use Rattle.layout.specs.PermLaws.{all_left, all_right, in_map, in_all, all_in, pin}
use Rattle.home.specs.BytesLaws.{part_join}
use Rattle.home.specs.AreaLaws.{laid_fit, fit_le, spots_sit, Clean}
use Rattle.home.specs.HomeLaws.{ReadsAt, ZeroAt, Entries, get16-at, block_count, block_tag, block_records, block_starts, length-entries, length-dictionary, length-entries_bytes}
use Rattle.home.specs.SoundLaws.{sound-length, t_sized, sound-pages}
use Rattle.home.specs.DictionaryLaws.{Below, dictionary-rising, dictionary_perm}
use Rattle.home.specs.EntriesLaws.{Small, entry_tag, entry_cell_lem, entry-rest}
use Rattle.home.specs.EncodeLaws.{length_loose, step_loose, clean_loose, dictionary_loose, entries_loose, fine, reads_loose, tags_loose, valid_loose}

yes : (a b : Bool) → a ≡ true → b ≡ true → a && b ≡ true
yes a b p q = rw p q

-- ---- blocks

tail_zero : (step : ℕ) (h : List ℕ) (p c : ℕ) (b : Block) (rest : List ℕ) → drop (cell_at p) h ≡ block_bytes step c b ++ rest
    → part h (cell_at p + 8 + 8 * length b.list) (8 * (capacity step c - length b.list)) ≡ replicate (8 * (capacity step c - length b.list)) 0
unfolding part block_bytes bytes32 bytes16
tail_zero step h p c b rest e =
    let n : ℕ = length b.list in
    let z : ℕ = 8 * (capacity step c - n) in
    let pad : List ℕ = replicate z 0 in
    ap (take z) (sym (drop-drop (8 * n) (cell_at p + 8) h) ∙ ap (drop (8 * n)) (sym (drop-drop 8 (cell_at p) h) ∙ ap (drop 8) e ∙ append_assoc (record_bytes b.list) pad rest)
    ∙ drop_at (record_bytes b.list) (pad ++ rest) (8 * n) (length-encode b.list))
    ∙ take_at pad rest z (length-replicate z 0)

header-zero : (step : ℕ) (h : List ℕ) (p c : ℕ) (b : Block) (rest : List ℕ) → drop (cell_at p) h ≡ block_bytes step c b ++ rest → get16 h (cell_at p + 6) ≡ 0
unfolding block_bytes bytes32 bytes16 get16
header-zero step h p c b rest e = get16-at h (block_bytes step c b ++ rest) (cell_at p) 6 e

block_passes : (step : ℕ) (h : List ℕ) (p c : ℕ) (b : Block) (rest : List ℕ) → drop (cell_at p) h ≡ block_bytes step c b ++ rest → Sits step c b → block_fine step h c p ≡ true
unfolding block_fine
block_passes step h p c b rest e s =
    let n : ℕ = length b.list in
    rw (block_count step h p c b rest e s)
    (yes (ltb 0 n) _ (lt-ltb 0 n s.some)
    (yes (ltb n 990) _ (lt-ltb n 990 (omega (arith, s.room, cells_most step c)))
    (yes (eqb (class_of step n) c) _ (eq-eqb (class_of step n) c s.class)
    (yes (eqb (get16 h (cell_at p + 6)) 0) _ (eq-eqb (get16 h (cell_at p + 6)) 0 (header-zero step h p c b rest e))
    (yes (rising (records h (cell_at p + 8) n)) _ (ap rising (block_records step h p c b rest e s) ∙ s.rising)
    (ap blank (tail_zero step h p c b rest e) ∙ blank-zeros (8 * (capacity step c - n))))))))

blocks_pass : (step : ℕ) (h : List ℕ) (c p : ℕ) (xs : List Block) → All (Sits step c) xs → All (ReadsAt step h) (row step c p xs) → blocks_fine step h c p (length xs) ≡ true
unfolding blocks_fine row
blocks_pass step h c p [] s r = refl
blocks_pass step h c p (x ∷ xs) (more a s) (more b r) =
    yes (block_fine step h c p) (blocks_fine step h c (p + cells step c) (length xs))
    (block_passes step h p c x (drop (cell_at p + 8 * cells step c) h) (block_starts step h (record { cell = p; class = c; block = x }) b) a)
    (blocks_pass step h c (p + cells step c) xs s r)

-- ---- zones

not-zero : (m : ℕ) → eqb (suc m) 0 ≡ false
not-zero m = ne_eqb (suc m) 0 (λ x. absurd (omega arith))

zones_pass : (step : ℕ) (h : List ℕ) (n c e : ℕ) (zs : List Zone) → Laid step n c e zs → Entries h c zs → All (ReadsAt step h) (spots step c zs) → Clean step (ZeroAt h) n c e zs
    → zones_fine step h n c e (length zs) ≡ true
unfolding zones_fine zone_fine end_at spots
zones_pass step h n c e [] l d r k = yes (leb e n) _ (le-leb e n l) (ap blank k ∙ blank-zeros (8 * (n - e)))
zones_pass step h n c e (empty ∷ zs) l d r k = rw (d.1, d.0) (zones_pass step h n (suc c) e zs l d.2 r k)
zones_pass step h n c e (from f x xs ∷ zs) l d r k =
    let m : ℕ = suc (length xs) in
    let g : ℕ = f + m * cells step c in
    rw (d.1, d.0, not-zero (length xs))
    (yes _ (zones_fine step h n (suc c) g (length zs))
    (yes (leb e f) _ (le-leb e f l.0.after)
    (yes (ltb f (e + cells step c)) _ (lt-ltb f (e + cells step c) l.0.tight)
    (yes (leb g n) _ (le-leb g n (fit_le step n (suc c) g zs (laid_fit step n (suc c) g zs l.1)))
    (yes (blank (part h (cell_at e) (8 * (f - e)))) _ (ap blank k.0 ∙ blank-zeros (8 * (f - e)))
    (blocks_pass step h c f (x ∷ xs) l.0.sit (all_left (ReadsAt step h) (row step c f (x ∷ xs)) (spots step (suc c) zs) r))))))
    (zones_pass step h n (suc c) g zs l.1 d.2 (all_right (ReadsAt step h) (row step c f (x ∷ xs)) (spots step (suc c) zs) r) k.1))

many_pass : (h : List ℕ) (c : ℕ) (zs : List Zone) → Entries h c zs → many_in h c (length zs) ≡ length (blocks zs)
unfolding many_in blocks
many_pass h c [] d = refl
many_pass h c (empty ∷ zs) d = let e = many_pass h (suc c) zs d.2 in rw d.1 (omega arith)
many_pass h c (from f x xs ∷ zs) d = let e = many_pass h (suc c) zs d.2 in rw d.1 (simp length-append (omega arith))

-- ---- the dictionary

in_either : {A : Type 0} (x : A) (xs ys : List A) → In x (xs ++ ys) → In x xs ⊎ In x ys
in_either x [] ys i = inr i
in_either x (y ∷ xs) ys (inl e) = inl (inl e)
in_either x (y ∷ xs) ys (inr i) = elim (in_either x xs ys i) [ inl a ↦ inl (inr a) | inr b ↦ inr b ]

-- where a row's blocks start
record Starts (step c f n p : ℕ) : Type 0 where
  low : f ≤ p
  high : p < f + n * cells step c
  whole : (p - f) % cells step c ≡ 0

row-starts : (step c f : ℕ) (xs : List Block) (s : Spot) → In s (row step c f xs) → Starts step c f (length xs) s.cell
unfolding row
row-starts step c f [] s i = absurd i
row-starts step c f (x ∷ xs) s (inl e) =
    let q : s.cell ≡ f = ap (λ (t : Spot). t.cell) e in
    let z : s.cell - f ≡ 0 = omega arith in
    record { low = omega arith; high = omega (arith, cells_pos step c); whole = rw z (mod-eq_of_lt (cells_pos step c)) }
row-starts step c f (x ∷ xs) s (inr i) =
    let t : Starts step c (f + cells step c) (length xs) s.cell = row-starts step c (f + cells step c) xs s i in
    let e : s.cell - f ≡ 1 * cells step c + (s.cell - (f + cells step c)) = omega (arith, t.low) in
    record { low = omega (arith, t.low); high = omega (arith, t.high); whole = rw e (mul-add-mod_self_right 1 (cells step c) (s.cell - (f + cells step c)) ∙ t.whole) }

leads_pass : (step : ℕ) (h : List ℕ) (c : ℕ) (zs : List Zone) (s : Spot) → Entries h c zs → In s (spots step c zs) → leads step h c (length zs) s.cell ≡ true
unfolding leads starts spots
leads_pass step h c [] s d i = absurd i
leads_pass step h c (empty ∷ zs) s d i = or_right (starts step h c s.cell) (leads step h (suc c) (length zs) s.cell) (leads_pass step h (suc c) zs s d.2 i)
leads_pass step h c (from f x xs ∷ zs) s d i =
    elim (in_either s (row step c f (x ∷ xs)) (spots step (suc c) zs) i) [
      | inl a ↦ let t : Starts step c f (suc (length xs)) s.cell = row-starts step c f (x ∷ xs) s a in
          rw (d.1, d.0) (or_left _ (leads step h (suc c) (length zs) s.cell)
          (yes (leb f s.cell) _ (le-leb f s.cell t.low) (yes (ltb s.cell (f + suc (length xs) * cells step c)) _ (lt-ltb s.cell (f + suc (length xs) * cells step c) t.high) (eq-eqb ((s.cell - f) % cells step c) 0 t.whole))))
      | inr b ↦ or_right (starts step h c s.cell) (leads step h (suc c) (length zs) s.cell) (leads_pass step h (suc c) zs s d.2 b)
    ]

-- an entry that leads to a block
record Passes (step : ℕ) (h : List ℕ) (d : Entry) : Type 0 where
  small : Small d
  leads : leads step h 0 30 d.cell ≡ true
  bears : get32 h (cell_at d.cell) ≡ d.tag

tags_pass : (step : ℕ) (h : List ℕ) (low i : ℕ) (ds : List Entry) (rest : List ℕ) → drop (128 + 6 * i) h ≡ entries_bytes ds ++ rest → All (Passes step h) ds → Pairs Below ds
    → All (λ (d : Entry). low ≤ d.tag) ds → tags_fine step h low i (length ds) ≡ true
unfolding tags_fine entries_bytes
tags_pass step h low i [] rest e p b l = refl
tags_pass step h low i (d ∷ ds) rest e (more p ps) (after b bs) (more l ls) =
    let at : ℕ = 128 + 6 * i in
    let qt : tag_at h i ≡ d.tag = entry_tag h at d ds rest e p.small.tag in
    let qc : entry_cell h i ≡ d.cell = entry_cell_lem h at d ds rest e p.small.cell in
    let next : 128 + 6 * suc i ≡ at + 6 = omega arith in
    rw (qt, qc)
    (yes (leb low d.tag) _ (le-leb low d.tag l)
    (yes (leads step h 0 30 d.cell) _ p.leads
    (yes (eqb (get32 h (cell_at d.cell)) d.tag) _ (eq-eqb (get32 h (cell_at d.cell)) d.tag p.bears)
    (tags_pass step h (d.tag + 1) (suc i) ds rest (ap (λ (k : ℕ). drop k h) next ∙ sym (drop-drop 6 at h) ∙ entry-rest h at d ds rest e) ps bs
    (all_map {P = Below d} {Q = λ (y : Entry). d.tag + 1 ≤ y.tag} (λ y k. omega arith) b)))))

-- ---- all of it

module _ (step R : ℕ) (zs : List Zone) (v : Valid step (8 * R) zs) (small : R ≤ 1024) where
  abbrev home : List ℕ
  home = encode step R zs

  entry_passes : (d : Entry) → In d (dictionary step zs) → Passes step home d
  entry_passes d i =
      let m = in_map entry_of d (spots step 0 zs) (pin d (dictionary_perm step zs) i) in
      let s : Spot = m.0 in
      let f : Fit step (8 * R) 0 0 zs = (valid_loose step R zs v).fit in
      let sit : Sits step s.class s.block = all_in (λ (x : Spot). Sits step x.class x.block) s (spots step 0 zs) (spots_sit step (8 * R) 0 0 zs f) m.1 in
      let reads : ReadsAt step home s = all_in (ReadsAt step home) s (spots step 0 zs) (reads_loose step R zs (valid_loose step R zs v)) m.1 in
      subst (Passes step home) (sym m.2) (record {
        small = subst Small m.2 (all_in Small d (dictionary step zs) (fine step R small zs (valid_loose step R zs v)).small i);
        leads = ap (λ (k : ℕ). leads step home 0 k s.cell) (sym v.classes) ∙ leads_pass step home 0 zs s (entries_loose step R small zs (valid_loose step R zs v)) m.1;
        bears = block_tag step home s.cell s.class s.block (drop (cell_at s.cell + 8 * cells step s.class) home) (block_starts step home s reads) sit;
      })

  home-step : part home 122 6 ≡ step_bytes step
  unfolding encode bytes16
  home-step =
      let p : List ℕ = bytes16 (length (blocks zs)) ++ zone_entries zs in
      part_join 122 6 p (step_bytes step) (padded (dictionary step zs) ++ area step (8 * R) zs) (simp length-entries (omega (arith, v.classes))) refl

  home-coded : step ≤ 1 → coded home ≡ true
  unfolding coded
  home-coded k =
      let z : part home 123 5 ≡ replicate 5 0 = ap (drop 1) (sym (part-cons home 122 5 (omega (arith, length_loose step R zs (valid_loose step R zs v)))) ∙ home-step) in
      yes (leb (step_of home) 1) _ (ap (λ (x : ℕ). leb x 1) (step_loose step R zs (valid_loose step R zs v)) ∙ le-leb step 1 k) (ap blank z ∙ blank-zeros 5)

  home-rest : part home (128 + 6 * length (dictionary step zs)) (1536 - 6 * length (dictionary step zs)) ≡ replicate (1536 - 6 * length (dictionary step zs)) 0
  unfolding part
  home-rest =
      let n : ℕ = length (dictionary step zs) in
      let z : ℕ = 1536 - 6 * n in
      ap (take z) (sym (drop-drop (6 * n) 128 home) ∙ ap (drop (6 * n)) (dictionary_loose step R small zs (valid_loose step R zs v))
      ∙ drop_at (entries_bytes (dictionary step zs)) (replicate z 0 ++ area step (8 * R) zs) (6 * n) (length-entries_bytes (dictionary step zs)))
      ∙ take_at (replicate z 0) (area step (8 * R) zs) z (length-replicate z 0)

  home_passes : step ≤ 1 → pages_of home ≡ R → sized home ≡ true → checked home ≡ true
  unfolding checked
  home_passes k q t =
      let n : ℕ = length (dictionary step zs) in
      let c : get16 home 0 ≡ n = tags_loose step R small zs (valid_loose step R zs v) ∙ sym (length-dictionary step zs) in
      let d : Entries home 0 zs = entries_loose step R small zs (valid_loose step R zs v) in
      let few : n ≤ 256 = omega (arith, length-dictionary step zs, v.few) in
      yes (sized home) _ t
      (rw (q, c, step_loose step R zs (valid_loose step R zs v))
      (yes (leb n 256) _ (le-leb n 256 few)
      (yes (coded home) _ (home-coded k)
      (yes (zones_fine step home (8 * R) 0 0 30) _ (ap (zones_fine step home (8 * R) 0 0) (sym v.classes) ∙ zones_pass step home (8 * R) 0 0 zs v.laid d (reads_loose step R zs (valid_loose step R zs v)) (clean_loose step R zs (valid_loose step R zs v)))
      (yes (eqb (many_in home 0 30) n) _ (eq-eqb (many_in home 0 30) n (ap (many_in home 0) (sym v.classes) ∙ many_pass home 0 zs d ∙ sym (length-dictionary step zs)))
      (yes (tags_fine step home 0 0 n) _
      (tags_pass step home 0 0 (dictionary step zs) (replicate (1536 - 6 * n) 0 ++ area step (8 * R) zs) (dictionary_loose step R small zs (valid_loose step R zs v)) (in_all (Passes step home) (dictionary step zs) entry_passes) (dictionary-rising step zs v.distinct)
      (in_all (λ (x : Entry). 0 ≤ x.tag) (dictionary step zs) (λ x i. omega arith)))
      (ap blank home-rest ∙ blank-zeros (1536 - 6 * n))))))))

pub sound-checked : (h : List ℕ) → Sound h → checked h ≡ true
sound-checked h s =
    let p : pages_of h ≡ s.pages = sound-pages h s in
    let l : length h ≡ 1664 + 64 * s.pages = sound-length h s in
    let t : sized h ≡ true = (t_sized h).when (record { low = omega (arith, s.low); high = omega (arith, s.high); long = omega arith }) in
    rw s.bytes (home_passes s.step s.pages s.zones s.valid s.high s.code (ap pages_of (sym s.bytes) ∙ p) (ap sized (sym s.bytes) ∙ t))
