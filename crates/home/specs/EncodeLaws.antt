-- Home's bytes of a layout that is valid but for its gaps: their parts, and that they give back the layout.
use Rattle.std.specs.Prelude.{◌≡◌, ℕ, suc, ◌+◌, ◌*◌, ◌-◌, ◌≤◌, drop, replicate}
use Rattle.std.proofs.Common.{sym, ◌∙◌, arith}
use Rattle.std.proofs.Math.Path.{ap}
use mathlib.Core.List.{List, [], ◌∷◌, ◌++◌, append_assoc}
use Rattle.std.proofs.Math.ListN.{length}
use Rattle.wire.specs.Bytes.{part, get16}
use Rattle.wire.specs.All.{All, all_map}
use Rattle.layout.specs.Capacities.{cells}
use Rattle.layout.specs.Zones.{Zone, empty, from, blocks}
use Rattle.home.specs.Layout.{Valid, Loose}
use Rattle.home.specs.Bytes.{step_bytes, step_of, spots, area, zone_entries, Entry, dictionary, entries_bytes, padded, encode, cell_at, entries_at, zones_from, decode}
use Rattle.home.specs.Sound.{pages_of}
use Rattle.home.specs.AreaLaws.{laid_fit, Reads, area_reads, length-area, Zero, Clean, area_clean}
use Rattle.home.specs.HomeLaws.{ReadsAt, ZeroAt, Entries, zones-back, entries_read, length-entries, length-dictionary, length-padded}
use Rattle.home.specs.EntriesLaws.{Small, dictionary-small, entries-back}
use Rattle.home.specs.JoinLaws.{join, join-length, join_step, join-area-at, join-part, join-tags, join-zones, join-dictionary}

pub valid_loose : (step R : ℕ) (zs : List Zone) → Valid step (8 * R) zs → Loose step R zs
valid_loose step R zs v = record { classes = v.classes; fit = laid_fit step (8 * R) 0 0 zs v.laid; distinct = v.distinct; few = v.few }

-- ---- zone entries es, dictionary ds, area a

abbrev pub state : ℕ → List ℕ → List Entry → List ℕ → List ℕ
state step es ds a = join step (length ds) es (padded ds) a

-- at most 256 entries, each of which fits its bytes
pub record Fine (ds : List Entry) : Type 0 where
  pub few : length ds ≤ 256
  pub small : All Small ds

module _ (step : ℕ) (es a : List ℕ) (le : length es ≡ 120) (ds : List Entry) (ok : Fine ds) where
  pub state-tags : get16 (state step es ds a) 0 ≡ length ds
  state-tags = join-tags step (length ds) es (padded ds) a le (length-padded ds ok.few) (omega (arith, ok.few))

  pub state-dictionary : drop 128 (state step es ds a) ≡ entries_bytes ds ++ (replicate (1536 - 6 * length ds) 0 ++ a)
  unfolding padded
  state-dictionary = join-dictionary step (length ds) es (padded ds) a le (length-padded ds ok.few) ∙ append_assoc (entries_bytes ds) (replicate (1536 - 6 * length ds) 0) a

  pub state-entries : entries_at (state step es ds a) 0 (get16 (state step es ds a) 0) ≡ ds
  state-entries = ap (entries_at (state step es ds a) 0) state-tags ∙ entries-back (state step es ds a) 0 ds (replicate (1536 - 6 * length ds) 0 ++ a) state-dictionary ok.small

-- ---- those of a layout

module _ (step R : ℕ) (zs : List Zone) (v : Loose step R zs) where
  pub length-zones : length (zone_entries zs) ≡ 120
  length-zones = length-entries zs ∙ omega (arith, v.classes)

  length_words : length (padded (dictionary step zs)) ≡ 1536
  length_words = length-padded (dictionary step zs) (omega (arith, v.few, length-dictionary step zs))

  pub encode-state : encode step R zs ≡ state step (zone_entries zs) (dictionary step zs) (area step (8 * R) zs)
  unfolding encode join
  encode-state = ap (λ (n : ℕ). join step n (zone_entries zs) (padded (dictionary step zs)) (area step (8 * R) zs)) (sym (length-dictionary step zs))

  pub length_loose : length (encode step R zs) ≡ 1664 + 64 * R
  length_loose = ap length encode-state ∙ join-length step (length (dictionary step zs)) (zone_entries zs) (padded (dictionary step zs)) (area step (8 * R) zs) length-zones length_words ∙ omega (arith, length-area step (8 * R) zs)

  pub pages_loose : pages_of (encode step R zs) ≡ R
  pages_loose = omega (arith, length_loose)

  pub step_loose : step_of (encode step R zs) ≡ step
  step_loose = ap step_of encode-state ∙ join_step step (length (dictionary step zs)) (zone_entries zs) (padded (dictionary step zs)) (area step (8 * R) zs) length-zones length_words

  pub area_loose : drop 1664 (encode step R zs) ≡ area step (8 * R) zs
  area_loose = ap (drop 1664) encode-state ∙ join-area-at step (length (dictionary step zs)) (zone_entries zs) (padded (dictionary step zs)) (area step (8 * R) zs) length-zones length_words

  part-area : (i n : ℕ) → part (encode step R zs) (cell_at i) n ≡ part (area step (8 * R) zs) (8 * i) n
  part-area i n = ap (λ (h : List ℕ). part h (cell_at i) n) encode-state ∙ join-part step (length (dictionary step zs)) (zone_entries zs) (padded (dictionary step zs)) (area step (8 * R) zs) length-zones length_words (8 * i) n

  pub reads_loose : All (ReadsAt step (encode step R zs)) (spots step 0 zs)
  reads_loose = all_map {P = Reads step (area step (8 * R) zs)} {Q = ReadsAt step (encode step R zs)} (λ s r. part-area s.cell (8 * cells step s.class) ∙ r) (area_reads step (8 * R) zs v.fit)

  pub clean_loose : Clean step (ZeroAt (encode step R zs)) (8 * R) 0 0 zs
  clean_loose = go 0 0 zs (area_clean step (8 * R) zs v.fit)
    where
      go : (c e : ℕ) (ys : List Zone) → Clean step (Zero (area step (8 * R) zs)) (8 * R) c e ys → Clean step (ZeroAt (encode step R zs)) (8 * R) c e ys
      go c e [] k = part-area e (8 * (8 * R - e)) ∙ k
      go c e (empty ∷ ys) k = go (suc c) e ys k
      go c e (from f x xs ∷ ys) k = (part-area e (8 * (f - e)) ∙ k.0, go (suc c) (f + suc (length xs) * cells step c) ys k.1)

module _ (step R : ℕ) (small : R ≤ 1024) (zs : List Zone) (v : Loose step R zs) where
  pub fine : Fine (dictionary step zs)
  fine = record { few = omega (arith, v.few, length-dictionary step zs); small = dictionary-small step R zs small v.fit }

  pub entries_loose : Entries (encode step R zs) 0 zs
  entries_loose = entries_read step (8 * R) 0 0 zs (encode step R zs) (step_bytes step ++ (padded (dictionary step zs) ++ area step (8 * R) zs)) (omega arith) v.fit
      (ap (drop 2) (encode-state step R zs v) ∙ join-zones step (length (dictionary step zs)) (zone_entries zs) (padded (dictionary step zs)) (area step (8 * R) zs))

  -- decode of encode is the layout
  pub decode_loose : decode (encode step R zs) ≡ zs
  unfolding decode
  decode_loose = ap (λ (k : ℕ). zones_from k (encode step R zs) 0 30) (step_loose step R zs v) ∙ ap (zones_from step (encode step R zs) 0) (sym v.classes) ∙ zones-back step (8 * R) 0 0 zs (encode step R zs) v.fit entries_loose (reads_loose step R zs v)

  pub tags_loose : get16 (encode step R zs) 0 ≡ length (blocks zs)
  tags_loose = ap (λ (h : List ℕ). get16 h 0) (encode-state step R zs v) ∙ state-tags step (zone_entries zs) (area step (8 * R) zs) (length-zones step R zs v) (dictionary step zs) fine ∙ length-dictionary step zs

  pub dictionary_loose : drop 128 (encode step R zs) ≡ entries_bytes (dictionary step zs) ++ (replicate (1536 - 6 * length (dictionary step zs)) 0 ++ area step (8 * R) zs)
  dictionary_loose = ap (drop 128) (encode-state step R zs v) ∙ state-dictionary step (zone_entries zs) (area step (8 * R) zs) (length-zones step R zs v) (dictionary step zs) fine

  pub words_loose : entries_at (encode step R zs) 0 (get16 (encode step R zs) 0) ≡ dictionary step zs
  words_loose = ap (λ (h : List ℕ). entries_at h 0 (get16 h 0)) (encode-state step R zs v) ∙ state-entries step (zone_entries zs) (area step (8 * R) zs) (length-zones step R zs v) (dictionary step zs) fine
