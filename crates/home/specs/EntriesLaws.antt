-- The dictionary's entries, read back off home's bytes.
use Rattle.std.specs.Prelude.{◌≡◌, refl, ℕ, suc, ◌+◌, ◌*◌, ◌≤◌, ◌<◌, length, drop}
use Rattle.std.proofs.Common.{sym, ap₂, ◌∙◌, arith, drop-drop}
use Rattle.std.proofs.Math.Path.{ap}
use mathlib.Core.List.{List, [], ◌∷◌, ◌++◌, map}
use Rattle.wire.specs.Bytes.{get16, get32, bytes16, bytes32}
use Rattle.wire.specs.All.{All, none, more}
use Rattle.layout.specs.Zones.{Zone}
use Rattle.home.specs.Layout.{Sits, Fit}
use Rattle.home.specs.Bytes.{Spot, spots, Entry, entry_of, dictionary, entries_bytes, tag_at, entry_cell, entries_at}
use Rattle.layout.specs.PermLaws.{psym, pall}
use Rattle.home.specs.BytesLaws.{get16-front, get32-front}
use Rattle.home.specs.AreaLaws.{Good, spots_sit, spots_good}
use Rattle.home.specs.HomeLaws.{get16-at, get32-at}
use Rattle.home.specs.DictionaryLaws.{dictionary_perm}
use Rattle.layout.specs.CapacitiesLaws.{cells_pos}

-- an entry that 6 bytes hold
pub record Small (d : Entry) : Type 0 where
  pub tag : d.tag < 4294967296
  pub cell : d.cell < 65536

pub small-entries : (step R : ℕ) (ss : List Spot) → R ≤ 1024 → All (λ (s : Spot). Sits step s.class s.block) ss → All (Good step (8 * R)) ss → All Small (map entry_of ss)
small-entries step R [] g h k = none
small-entries step R (s ∷ ss) g (more a h) (more b k) = more {x = entry_of s} (record { tag = a.tag; cell = omega (arith, b.inside, cells_pos step s.class) }) (small-entries step R ss g h k)

pub dictionary-small : (step R : ℕ) (zs : List Zone) → R ≤ 1024 → Fit step (8 * R) 0 0 zs → All Small (dictionary step zs)
dictionary-small step R zs g f = pall Small (psym (dictionary_perm step zs)) (small-entries step R (spots step 0 zs) g (spots_sit step (8 * R) 0 0 zs f) (spots_good step (8 * R) 0 0 zs f))

-- ---- one entry, and the next

module _ (h : List ℕ) (at : ℕ) (d : Entry) (ds : List Entry) (rest : List ℕ) (e : drop at h ≡ entries_bytes (d ∷ ds) ++ rest) where
  pub entry_tag : d.tag < 4294967296 → get32 h at ≡ d.tag
  unfolding entries_bytes bytes32 get32
  entry_tag b = get32-at h (entries_bytes (d ∷ ds) ++ rest) at e ∙ get32-front d.tag [] b

  pub entry_cell_lem : d.cell < 65536 → get16 h (at + 4) ≡ d.cell
  unfolding entries_bytes bytes32 get16
  entry_cell_lem b = get16-at h (entries_bytes (d ∷ ds) ++ rest) at 4 e ∙ get16-front d.cell [] b

  pub entry-rest : drop 6 (drop at h) ≡ entries_bytes ds ++ rest
  unfolding entries_bytes bytes32 bytes16
  entry-rest = ap (drop 6) e

-- ---- all of them

pub entries-back : (h : List ℕ) (i : ℕ) (ds : List Entry) (rest : List ℕ) → drop (128 + 6 * i) h ≡ entries_bytes ds ++ rest → All Small ds → entries_at h i (length ds) ≡ ds
unfolding entries_at
entries-back h i [] rest e p = refl
entries-back h i (d ∷ ds) rest e (more p ps) =
    let at : ℕ = 128 + 6 * i in
    let next : 128 + 6 * suc i ≡ at + 6 = omega arith in
    let qt : tag_at h i ≡ d.tag = entry_tag h at d ds rest e p.tag in
    let qc : entry_cell h i ≡ d.cell = entry_cell_lem h at d ds rest e p.cell in
    ap₂ {A = Entry} {B = List Entry} ◌∷◌ (λ j. record { tag = qt j; cell = qc j })
    (entries-back h (suc i) ds rest (ap (λ (k : ℕ). drop k h) next ∙ sym (drop-drop 6 at h) ∙ entry-rest h at d ds rest e) ps)
