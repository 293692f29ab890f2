-- The tags of a sound home, in the dictionary's order: they rise, are those of the blocks, and are exactly the tags with a list.
use Rattle.std.specs.Prelude.{◌≡◌, refl, true, false, ◌≢◌, List, [], ◌∷◌, map, ℕ, ◌*◌, ◌≤◌, ◌<◌, length}
use Rattle.std.proofs.Common.{sym, ap, ◌∙◌, subst, inl, inr, arith}
use Rattle.std.proofs.lemmas.List.{length-map}
use Rattle.wire.specs.All.{All, all_map}
use Rattle.wire.specs.Bytes.{get16}
use Rattle.wire.specs.Cases.{by_test, by_eq, never}
use Rattle.records.specs.declared.Record.{Record}
use Rattle.layout.specs.Capacities.{cells, class_of}
use Rattle.layout.specs.CapacitiesLaws.{rising as rises}
use Rattle.layout.specs.Zones.{Block, blocks, tags, has_tag}
use Rattle.layout.specs.Perm.{Perm, In, Pairs, single, after}
use Rattle.layout.specs.PermLaws.{pmap, pin, psym, plength, all_in, in_all, pmembers, all_mapped, pairs_mapped}
use Rattle.layout.specs.BuildingsLaws.{Tags}
use Rattle.layout.specs.FindLaws.{by_tag, has_here, has_skip, find_none, lacks_has}
use Rattle.layout.proofs.EditsLaws.{empty_unknown}
use Rattle.home.specs.Bytes.{step_of, Spot, spots, Entry, entry_of, dictionary, decode, tag_at, entry_cell, entries_at, tags_of}
use Rattle.home.specs.Sound.{sound, pages_of, list_of}
use Rattle.home.specs.SoundLaws.{sound-small, sound-valid, sound_loose, sound_words}
use Rattle.home.specs.EntriesLaws.{Small, dictionary-small}
use Rattle.home.specs.LookupLaws.{entry_in}
use Rattle.home.specs.DictionaryLaws.{spots-blocks, dictionary-rising, dictionary_perm}

-- ---- tags of blocks, of entries and of spots

spots-tags : (ss : List Spot) → map (λ (d : Entry). d.tag) (map entry_of ss) ≡ tags (map (λ (s : Spot). s.block) ss)
spots-tags [] = refl
spots-tags (s ∷ ss) = ap (λ (l : List ℕ). s.block.tag ∷ l) (spots-tags ss)

rising-distinct : (ts : List ℕ) → Pairs ◌<◌ ts → Pairs ◌≢◌ ts
rising-distinct [] h = single
rising-distinct (t ∷ ts) (after a h) = after (all_map {P = λ (u : ℕ). t < u} {Q = λ (u : ℕ). t ≢ u} (λ u b e. omega arith) a) (rising-distinct ts h)

has_in : (t : ℕ) (bs : List Block) → has_tag t bs ≡ true → In t (tags bs)
unfolding has_tag
has_in t [] h = never h
has_in t (b ∷ bs) h = by_tag t b (λ e. inl (sym e)) (λ n. inr (has_in t bs (sym (has_skip t b bs n) ∙ h)))

in_has : (t : ℕ) (bs : List Block) → In t (tags bs) → has_tag t bs ≡ true
in_has t [] i = absurd i
in_has t (b ∷ bs) (inl e) = has_here t b bs (sym e)
in_has t (b ∷ bs) (inr i) = by_tag t b (λ e. has_here t b bs e) (λ n. has_skip t b bs n ∙ in_has t bs i)

-- ---- of a sound home

module _ (h : List ℕ) (s : sound h ≡ true) where
  pub tags_perm : Perm (tags_of h) (tags (blocks (decode h)))
  tags_perm =
      let step : ℕ = step_of h in
      let tag : Entry → ℕ = λ (d : Entry). d.tag in
      subst (λ (ds : List Entry). Perm (map tag ds) (tags (blocks (decode h)))) (sym (sound_words h s))
      (subst (Perm (map tag (dictionary step (decode h)))) (spots-tags (spots step 0 (decode h)) ∙ ap tags (spots-blocks step 0 (decode h)))
      (pmap tag (dictionary_perm step (decode h))))

  pub tags_rise : Pairs ◌<◌ (tags_of h)
  tags_rise = subst (λ (ds : List Entry). Pairs ◌<◌ (map (λ (d : Entry). d.tag) ds)) (sym (sound_words h s)) (pairs_mapped (λ (d : Entry). d.tag) ◌<◌ (dictionary (step_of h) (decode h)) (dictionary-rising (step_of h) (decode h) (sound-valid h s).distinct))

  entries-small : All Small (entries_at h 0 (get16 h 0))
  entries-small = subst (All Small) (sym (sound_words h s)) (dictionary-small (step_of h) (pages_of h) (decode h) (sound-small h s) (sound_loose h s).fit)

  pub tags-small : Tags (tags_of h)
  tags-small = all_mapped (λ (d : Entry). d.tag) (λ (t : ℕ). t < 4294967296) (entries_at h 0 (get16 h 0)) (all_map {P = Small} {Q = λ (d : Entry). d.tag < 4294967296} (λ d a. a.tag) entries-small)

  pub tag_small : (i : ℕ) → i < get16 h 0 → tag_at h i < 4294967296
  tag_small i g = (all_in Small (record { tag = tag_at h i; cell = entry_cell h i }) (entries_at h 0 (get16 h 0)) entries-small (entry_in h 0 (get16 h 0) i (omega arith) (omega arith))).tag

  -- a new tag is one without a list
  pub new_lacks : (t : ℕ) → list_of h t ≡ [] → has_tag t (blocks (decode h)) ≡ false
  unfolding list_of
  new_lacks t e = empty_unknown (cells (step_of h)) (class_of (step_of h)) (rises (step_of h)) (8 * pages_of h) t (decode h) (sound-valid h s) e

  pub lacks_new : (t : ℕ) → has_tag t (blocks (decode h)) ≡ false → list_of h t ≡ []
  unfolding list_of
  lacks_new t e = find_none t (blocks (decode h)) (lacks_has t (blocks (decode h)) e)

  -- one with a list is in the dictionary, and no other
  pub listed_tag : (t : ℕ) → 0 < length (list_of h t) → In t (tags_of h)
  listed_tag t g = by_test (has_tag t (blocks (decode h)))
      (λ e. pin t (psym tags_perm) (has_in t (blocks (decode h)) e))
      (λ e. absurd (omega (arith, ap length (lacks_new t e))))

  pub tag_listed : (t : ℕ) → In t (tags_of h) → 0 < length (list_of h t)
  tag_listed t i = go (list_of h t) refl
    where
      go : (rs : List Record) → list_of h t ≡ rs → 0 < length rs
      go [] q = never (sym (new_lacks t q) ∙ in_has t (blocks (decode h)) (pin t tags_perm i))
      go (r ∷ rs) q = omega arith

  tags-distinct : Pairs ◌≢◌ (tags_of h)
  tags-distinct = rising-distinct (tags_of h) tags_rise

  pub tags-many : length (tags_of h) ≡ length (blocks (decode h))
  tags-many = plength tags_perm ∙ length-map (blocks (decode h)) (λ (b : Block). b.tag)

  pub tags_few : length (tags_of h) ≤ 256
  tags_few = omega (arith, tags-many, (sound-valid h s).few)

-- ---- of two sound homes

module _ (a b : List ℕ) (sa : sound a ≡ true) (sb : sound b ≡ true) where
  -- in which the same tags have a list
  pub same_tags : ((u : ℕ) → 0 < length (list_of a u) → 0 < length (list_of b u)) → ((u : ℕ) → 0 < length (list_of b u) → 0 < length (list_of a u)) → Perm (tags_of a) (tags_of b)
  same_tags f g = pmembers (tags_of a) (tags_of b) (tags-distinct a sa) (tags-distinct b sb)
      (λ u i. listed_tag b sb u (f u (tag_listed a sa u i)))
      (λ u i. listed_tag a sa u (g u (tag_listed b sb u i)))

  -- in the second of which tag t has one, and otherwise the same
  pub one_more : (t : ℕ) → length (list_of a t) ≡ 0 → 0 < length (list_of b t) → ((u : ℕ) → u ≢ t → list_of b u ≡ list_of a u) → Perm (tags_of b) (t ∷ tags_of a)
  one_more t nil some same = pmembers (tags_of b) (t ∷ tags_of a) (tags-distinct b sb) (after others (tags-distinct a sa)) to back
    where
      others : All (λ (u : ℕ). t ≢ u) (tags_of a)
      others = in_all (λ (u : ℕ). t ≢ u) (tags_of a) (λ u i e. omega (arith, nil, tag_listed a sa u i, ap (λ (x : ℕ). length (list_of a x)) e))

      to : (u : ℕ) → In u (tags_of b) → In u (t ∷ tags_of a)
      to u i = by_eq u t (λ e. inl e) (λ d. inr (listed_tag a sa u (omega (arith, tag_listed b sb u i, ap length (same u d)))))

      back : (u : ℕ) → In u (t ∷ tags_of a) → In u (tags_of b)
      back u (inl e) = subst (λ (x : ℕ). In x (tags_of b)) (sym e) (listed_tag b sb t some)
      back u (inr i) = by_eq u t
          (λ e. absurd (omega (arith, nil, tag_listed a sa u i, ap (λ (x : ℕ). length (list_of a x)) e)))
          (λ d. listed_tag b sb u (omega (arith, tag_listed a sa u i, ap length (same u d))))

-- a home without lists has no tags
pub no_tags : (h : List ℕ) → sound h ≡ true → ((t : ℕ) → list_of h t ≡ []) → tags_of h ≡ []
no_tags h s f = go (tags_of h) (λ t i. absurd (omega (arith, tag_listed h s t i, ap length (f t))))
  where
    go : (ts : List ℕ) → ((t : ℕ) → In t ts → ⊥) → ts ≡ []
    go [] g = refl
    go (t ∷ ts) g = absurd (g t (inl refl))
