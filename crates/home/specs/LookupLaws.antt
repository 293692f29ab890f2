-- From a tag by the dictionary to its list's bytes in a sound home.
use Rattle.std.specs.Prelude.{◌≡◌, refl, true, ◌≢◌}
use Rattle.std.proofs.Math.Path.{sym, ap}
use Rattle.std.proofs.Common.{◌∙◌, subst, inl, inr, arith}
use mathlib.Core.List.{List, [], ◌++◌}
use Prim.Native.Nat.{ℕ, zero, suc, ◌+◌, ◌*◌, ◌≤◌, ◌<◌}
use Rattle.std.proofs.Math.ListN.{length, drop}
use Rattle.wire.specs.Bytes.{get16}
use Rattle.wire.specs.Cases.{by_eq}
use Rattle.records.specs.Records.{records}
use Rattle.layout.specs.Capacities.{cells}
use Rattle.layout.specs.Zones.{Block, Zone, blocks, find}
use Rattle.layout.specs.Perm.{In, Pairs, after}
use Rattle.layout.specs.Valid.{Other}
use Rattle.home.specs.Layout.{Sits}
use Rattle.home.specs.Bytes.{step_of, Spot, spots, Entry, entry_of, decode, cell_at, count_at, tag_at, entry_cell, entries_at}
use Rattle.home.specs.Sound.{pages_of, sound, list_of}
use Rattle.layout.specs.PermLaws.{psym, pulled, all_in, in_all, in_map, map_in, pin}
use Rattle.layout.specs.FindLaws.{pfind, find_here, find_none}
use Rattle.home.specs.AreaLaws.{bytes_of, Good, spots_sit, spots_good}
use Rattle.home.specs.HomeLaws.{ReadsAt, block_count, block_records, block_starts}
use Rattle.home.specs.SoundLaws.{sound-small, sound-some, sound_long, sound-valid, sound_loose, sound-tags, sound_words, sound_reads}
use Rattle.home.specs.DictionaryLaws.{Below, spots-blocks, dictionary-rising, dictionary_perm}

-- ---- entries by their number

pub entry_in : (h : List ℕ) (i n j : ℕ) → i ≤ j → j < i + n → In (record { tag = tag_at h j; cell = entry_cell h j }) (entries_at h i n)
unfolding entries_at
entry_in h i zero j lo hi = absurd (omega arith)
entry_in h i (suc n) j lo hi = by_eq j i (λ e. inl (ap (λ (k : ℕ). record { tag = tag_at h k; cell = entry_cell h k }) e)) (λ d. inr (entry_in h (suc i) n j (omega arith) (omega arith)))

-- an entry has a number
in_entry : (h : List ℕ) (i n : ℕ) (d : Entry) → In d (entries_at h i n) → (j : ℕ) × (j < i + n) × (d.tag ≡ tag_at h j)
unfolding entries_at
in_entry h i zero d m = absurd m
in_entry h i (suc n) d (inl e) = (i, omega arith, ap (λ (x : Entry). x.tag) e)
in_entry h i (suc n) d (inr m) = let r = in_entry h (suc i) n d m in (r.0, omega (arith, r.1), r.2)

find_in : (b : Block) (bs : List Block) → Pairs Other bs → In b bs → find b.tag bs ≡ b.list
find_in b bs d i = let r = pulled b bs i in pfind b.tag r.1 d ∙ find_here b.tag b r.0 refl

-- ---- the i-th entry of a sound home

pub record Held (h : List ℕ) (i : ℕ) : Type 0 where
  pub some : 0 < count_at h (entry_cell h i)
  pub inside : cell_at (entry_cell h i) + 8 + 8 * count_at h (entry_cell h i) ≤ length h
  pub list : records h (cell_at (entry_cell h i) + 8) (count_at h (entry_cell h i)) ≡ list_of h (tag_at h i)

module _ (h : List ℕ) (e : sound h ≡ true) where
  abbrev zs : List Zone
  zs = decode h

  abbrev n : ℕ
  n = 8 * pages_of h

  pub entry-held : (i : ℕ) → i < get16 h 0 → Held h i
  unfolding list_of
  entry-held i b =
      let t : ℕ = tag_at h i in
      let p : ℕ = entry_cell h i in
      let d : Entry = record { tag = t; cell = p } in
      let m = in_map entry_of d (spots (step_of h) 0 zs) (pin d (dictionary_perm (step_of h) zs) (subst (In d) (sound_words h e) (entry_in h 0 (get16 h 0) i (omega arith) (omega arith)))) in
      let s : Spot = m.0 in
      let sit : Sits (step_of h) s.class s.block = all_in (λ (x : Spot). Sits (step_of h) x.class x.block) s (spots (step_of h) 0 zs) (spots_sit (step_of h) n 0 0 zs (sound_loose h e).fit) m.1 in
      let g : Good (step_of h) n s = all_in (Good (step_of h) n) s (spots (step_of h) 0 zs) (spots_good (step_of h) n 0 0 zs (sound_loose h e).fit) m.1 in
      let rest : List ℕ = drop (cell_at s.cell + 8 * cells (step_of h) s.class) h in
      let k : drop (cell_at s.cell) h ≡ bytes_of (step_of h) s ++ rest = block_starts (step_of h) h s (all_in (ReadsAt (step_of h) h) s (spots (step_of h) 0 zs) (sound_reads h e) m.1) in
      let qp : p ≡ s.cell = ap (λ (x : Entry). x.cell) m.2 in
      let qt : t ≡ s.block.tag = ap (λ (x : Entry). x.tag) m.2 in
      let c : count_at h s.cell ≡ length s.block.list = block_count (step_of h) h s.cell s.class s.block rest k sit in
      let f : find t (blocks zs) ≡ s.block.list = ap (λ (x : ℕ). find x (blocks zs)) qt
      ∙ find_in s.block (blocks zs) (sound-valid h e).distinct (subst (In s.block) (spots-blocks (step_of h) 0 zs) (map_in (λ (x : Spot). x.block) s (spots (step_of h) 0 zs) m.1)) in
      record {
        some = rw (qp, c) sit.some;
        inside = rw (qp, c) (omega (arith, sit.room, g.inside, sound_long h e));
        list = rw (qp, c) (block_records (step_of h) h s.cell s.class s.block rest k sit ∙ sym f);
      }

  -- a tag that no entry has is unknown
  pub unknown_tag : (t : ℕ) → ((i : ℕ) → i < get16 h 0 → t ≢ tag_at h i) → list_of h t ≡ []
  unfolding list_of
  unknown_tag t f = find_none t (blocks zs) (in_all (λ (x : Block). t ≢ x.tag) (blocks zs) (λ b j q.
      let m = in_map (λ (x : Spot). x.block) b (spots (step_of h) 0 zs) (subst (In b) (sym (spots-blocks (step_of h) 0 zs)) j) in
      let d : Entry = entry_of m.0 in
      let k = in_entry h 0 (get16 h 0) d (subst (In d) (sym (sound_words h e)) (pin d (psym (dictionary_perm (step_of h) zs)) (map_in entry_of m.0 (spots (step_of h) 0 zs) m.1))) in
      f k.0 (omega (arith, k.1)) (q ∙ ap (λ (x : Block). x.tag) m.2 ∙ k.2)))

-- ---- tags rise with their entries' numbers, and there are at most 256

pub rising-at : (h : List ℕ) (i n a b : ℕ) → Pairs Below (entries_at h i n) → i ≤ a → a < b → b < i + n → tag_at h a < tag_at h b
unfolding entries_at
rising-at h i zero a b p lo m hi = absurd (omega arith)
rising-at h i (suc n) a b (after x p) lo m hi =
    by_eq a i
    (λ e. subst (λ (k : ℕ). tag_at h k < tag_at h b) (sym e)
    (all_in (Below (record { tag = tag_at h i; cell = entry_cell h i })) (record { tag = tag_at h b; cell = entry_cell h b }) (entries_at h (suc i) n) x (entry_in h (suc i) n b (omega arith) (omega arith))))
    (λ d. rising-at h (suc i) n a b p (omega arith) m (omega arith))

pub entries_rise : (h : List ℕ) (i j : ℕ) → sound h ≡ true → i < j → j < get16 h 0 → tag_at h i < tag_at h j
entries_rise h i j t b c = rising-at h 0 (get16 h 0) i j (subst (Pairs Below) (sym (sound_words h t)) (dictionary-rising (step_of h) (decode h) (sound-valid h t).distinct)) (omega arith) b (omega arith)

pub entries_few : (h : List ℕ) → sound h ≡ true → (get16 h 0 ≤ 256) × (1728 ≤ length h)
entries_few h t = (omega (arith, sound-tags h t, (sound-valid h t).few), omega (arith, sound-some h t, sound_long h t))

-- a sound home has at most 1,050 pages
pub sound-short : (h : List ℕ) → sound h ≡ true → length h ≤ 67200
sound-short h t = omega (arith, sound-small h t, sound_long h t)
