-- What home's bytes hold, and that blocks and zones are read back off them.
use Rattle.std.specs.Prelude.{◌≡◌, refl, ltb, drop, get_or}
use Rattle.std.proofs.Common.{sym, ap₂, ◌∙◌, arith, mul-le-mul_left, add-zero, length-append, drop-drop, get_or-drop}
use Rattle.std.proofs.Math.Path.{ap}
use mathlib.Core.List.{List, [], ◌∷◌, ◌++◌, map, append_assoc, Memᴰ}
use Prim.Native.Nat.{ℕ, suc, ◌+◌, ◌*◌, ◌-◌, ◌/◌, ◌≤◌, ◌<◌}
use Rattle.std.proofs.Math.ListN.{length, replicate, get_or-append}
use Rattle.std.proofs.lemmas.List.{length-replicate, length-map}
use Rattle.wire.specs.Bytes.{part, get16, get32, bytes16, bytes32}
use Rattle.wire.specs.All.{All, more}
use Rattle.records.specs.declared.Record.{Record}
use Rattle.records.specs.Records.{Fits, records, encode as record_bytes}
use Rattle.records.specs.Cells.{records_same}
use Rattle.records.specs.Edits.{length-encode, decode-encode as records-back}
use Rattle.layout.specs.Capacities.{cells, capacity}
use Rattle.layout.specs.CapacitiesLaws.{cells_pos, cells_most}
use Rattle.layout.specs.Zones.{Block, Zone, empty, from, zone, blocks}
use Rattle.home.specs.Layout.{Sits, Fit}
use Rattle.home.specs.Bytes.{block_bytes, Spot, row, spots, zone_entries, Entry, entry_of, enter, sorted, dictionary, entries_bytes, padded, cell_at, zone_entry_at, count_at, block_at, blocks_at, first_at, many_at, zone_at, zones_from}
use Rattle.layout.specs.Cases.{by_pick}
use Rattle.layout.specs.PermLaws.{all_left, all_right}
use Rattle.home.specs.BytesLaws.{chop, get16-drop, get32-drop, get16-front, get32-front}
use Rattle.home.specs.AreaLaws.{fit_le, bytes_of}

-- ---- what home's bytes hold

-- a block where it lies, and cells that are zero
abbrev pub ReadsAt : ℕ → List ℕ → Spot → Type 0
ReadsAt step h s = part h (cell_at s.cell) (8 * cells step s.class) ≡ bytes_of step s

abbrev pub ZeroAt : List ℕ → ℕ → ℕ → Type 0
ZeroAt h i m = part h (cell_at i) (8 * m) ≡ replicate (8 * m) 0

-- the entries of zones c and up
abbrev pub Entries : List ℕ → ℕ → List Zone → Type 0
Entries h c [] = Unit {0}
Entries h c (empty ∷ zs) = (first_at h c ≡ 0) × (many_at h c ≡ 0) × Entries h (suc c) zs
Entries h c (from f x xs ∷ zs) = (first_at h c ≡ f) × (many_at h c ≡ suc (length xs)) × Entries h (suc c) zs

-- ---- numbers at the start of what lies from an offset on

pub get16-at : (l x : List ℕ) (at k : ℕ) → drop at l ≡ x → get16 l (at + k) ≡ get16 x k
get16-at l x at k e = sym (get16-drop l at k) ∙ ap (λ (y : List ℕ). get16 y k) e

pub get32-at : (l x : List ℕ) (at : ℕ) → drop at l ≡ x → get32 l at ≡ get32 x 0
get32-at l x at e = ap (get32 l) (sym (add-zero at)) ∙ sym (get32-drop l at 0) ∙ ap (λ (y : List ℕ). get32 y 0) e

-- ---- a block

pub all_mem : (rs : List Record) → All Fits rs → (r : Record) → Memᴰ r rs → Fits r
all_mem [] f r m = elim m [ ]
all_mem (x ∷ xs) (more f h) r (Memᴰ.head q) = rw q f
all_mem (x ∷ xs) (more f h) r (Memᴰ.tail m) = all_mem xs h r m

list_back : (h : List ℕ) (at : ℕ) (rs : List Record) (rest : List ℕ) → drop at h ≡ record_bytes rs ++ rest → All Fits rs → records h at (length rs) ≡ rs
list_back h at rs rest e f =
    let l : List ℕ = record_bytes rs in
    let n : length l / 8 ≡ length rs = omega (arith, length-encode rs) in
    records_same l h 0 at (length rs)
    (λ i g. sym (get_or-drop at h i 0) ∙ ap (λ (x : List ℕ). get_or x i 0) e ∙ get_or-append l rest 0 i (omega (arith, length-encode rs)) ∙ ap (λ (k : ℕ). get_or l k 0) (omega arith))
    ∙ ap (records l 0) (sym n) ∙ records-back rs (all_mem rs f)

module _ (step : ℕ) (h : List ℕ) (p c : ℕ) (b : Block) (rest : List ℕ) (e : drop (cell_at p) h ≡ block_bytes step c b ++ rest) (s : Sits step c b) where
  pub block_count : count_at h p ≡ length b.list
  unfolding block_bytes bytes32 get16
  block_count = get16-at h (block_bytes step c b ++ rest) (cell_at p) 4 e ∙ get16-front (length b.list) [] (omega (arith, s.room, cells_most step c))

  pub block_tag : get32 h (cell_at p) ≡ b.tag
  unfolding block_bytes bytes32 get32
  block_tag = get32-at h (block_bytes step c b ++ rest) (cell_at p) e ∙ get32-front b.tag [] s.tag

  pub block_records : records h (cell_at p + 8) (length b.list) ≡ b.list
  unfolding block_bytes bytes32 bytes16
  block_records =
      let pad : List ℕ = replicate (8 * (capacity step c - length b.list)) 0 in
      list_back h (cell_at p + 8) b.list (pad ++ rest)
      (sym (drop-drop 8 (cell_at p) h) ∙ ap (drop 8) e ∙ append_assoc (record_bytes b.list) pad rest) s.fits

  pub block_back : block_at h p ≡ b
  unfolding block_at
  block_back =
      let l : records h (cell_at p + 8) (count_at h p) ≡ b.list = ap (records h (cell_at p + 8)) block_count ∙ block_records in
      λ i. record { tag = block_tag i; list = l i }

pub block_starts : (step : ℕ) (h : List ℕ) (s : Spot) → ReadsAt step h s → drop (cell_at s.cell) h ≡ bytes_of step s ++ drop (cell_at s.cell + 8 * cells step s.class) h
block_starts step h s r = chop (cell_at s.cell) (8 * cells step s.class) h ∙ ap (λ (l : List ℕ). l ++ drop (cell_at s.cell + 8 * cells step s.class) h) r

-- ---- zones

blocks-back : (step : ℕ) (h : List ℕ) (c p : ℕ) (xs : List Block) → All (Sits step c) xs → All (ReadsAt step h) (row step c p xs) → blocks_at step h c p (length xs) ≡ xs
unfolding blocks_at row
blocks-back step h c p [] s r = refl
blocks-back step h c p (x ∷ xs) (more a s) (more b r) = ap₂ {A = Block} {B = List Block} ◌∷◌
    (block_back step h p c x (drop (cell_at p + 8 * cells step c) h) (block_starts step h (record { cell = p; class = c; block = x }) b) a)
    (blocks-back step h c (p + cells step c) xs s r)

pub zones-back : (step n c e : ℕ) (zs : List Zone) (h : List ℕ) → Fit step n c e zs → Entries h c zs → All (ReadsAt step h) (spots step c zs) → zones_from step h c (length zs) ≡ zs
unfolding zones_from zone_at spots zone blocks_at
zones-back step n c e [] h l d r = refl
zones-back step n c e (empty ∷ zs) h l d r = ap₂ {A = Zone} {B = List Zone} ◌∷◌
    (ap (λ (m : ℕ). zone (first_at h c) (blocks_at step h c (first_at h c) m)) d.1) (zones-back step n (suc c) e zs h l d.2 r)
zones-back step n c e (from f x xs ∷ zs) h l d r = ap₂ {A = Zone} {B = List Zone} ◌∷◌
    (ap₂ (λ (g m : ℕ). zone g (blocks_at step h c g m)) d.0 d.1 ∙ ap (zone f) (blocks-back step h c f (x ∷ xs) l.0.sit (all_left (ReadsAt step h) (row step c f (x ∷ xs)) (spots step (suc c) zs) r)))
    (zones-back step n (suc c) (f + suc (length xs) * cells step c) zs h l.1 d.2 (all_right (ReadsAt step h) (row step c f (x ∷ xs)) (spots step (suc c) zs) r))

entry_next : (h : List ℕ) (c : ℕ) → drop (zone_entry_at (suc c)) h ≡ drop 4 (drop (zone_entry_at c) h)
entry_next h c = let e : zone_entry_at (suc c) ≡ zone_entry_at c + 4 = omega arith in ap (λ (k : ℕ). drop k h) e ∙ sym (drop-drop 4 (zone_entry_at c) h)

pub entries_read : (step n c e : ℕ) (zs : List Zone) (h rest : List ℕ) → n < 65536 → Fit step n c e zs → drop (zone_entry_at c) h ≡ zone_entries zs ++ rest → Entries h c zs
unfolding zone_entries bytes16 get16
entries_read step n c e [] h rest small l q = tt
entries_read step n c e (empty ∷ zs) h rest small l q = (
  ap (get16 h) (sym (add-zero (zone_entry_at c))) ∙ get16-at h (zone_entries (empty ∷ zs) ++ rest) (zone_entry_at c) 0 q,
  get16-at h (zone_entries (empty ∷ zs) ++ rest) (zone_entry_at c) 2 q,
  entries_read step n (suc c) e zs h rest small l (entry_next h c ∙ ap (drop 4) q),
)
entries_read step n c e (from f x xs ∷ zs) h rest small l q =
    let g : ℕ = f + suc (length xs) * cells step c in
    let gn : g ≤ n = fit_le step n (suc c) g zs l.1 in
    let k : suc (length xs) * 1 ≤ suc (length xs) * cells step c = mul-le-mul_left (suc (length xs)) (cells_pos step c) in (
      ap (get16 h) (sym (add-zero (zone_entry_at c))) ∙ get16-at h (zone_entries (from f x xs ∷ zs) ++ rest) (zone_entry_at c) 0 q ∙ get16-front f [] (omega arith),
      get16-at h (zone_entries (from f x xs ∷ zs) ++ rest) (zone_entry_at c) 2 q ∙ get16-front (suc (length xs)) [] (omega arith),
      entries_read step n (suc c) g zs h rest small l.1 (entry_next h c ∙ ap (drop 4) q),
    )

-- ---- lengths

pub length-entries : (zs : List Zone) → length (zone_entries zs) ≡ 4 * length zs
unfolding zone_entries bytes16
length-entries [] = refl
length-entries (empty ∷ zs) = omega (arith, length-entries zs)
length-entries (from f x xs ∷ zs) = omega (arith, length-entries zs)

length-row : (step c p : ℕ) (xs : List Block) → length (row step c p xs) ≡ length xs
unfolding row
length-row step c p [] = refl
length-row step c p (x ∷ xs) = ap suc (length-row step c (p + cells step c) xs)

pub length-spots : (step c : ℕ) (zs : List Zone) → length (spots step c zs) ≡ length (blocks zs)
unfolding spots blocks
length-spots step c [] = refl
length-spots step c (empty ∷ zs) = length-spots step (suc c) zs
length-spots step c (from f x xs ∷ zs) = simp (length-append, length-row step, length-spots step (suc c) zs) (omega arith)

length-enter : (x : Entry) (ys : List Entry) → length (enter x ys) ≡ suc (length ys)
unfolding enter
length-enter x [] = refl
length-enter x (y ∷ ys) = by_pick (λ (l : List Entry). length l ≡ suc (suc (length ys))) (ltb x.tag y.tag) (λ p. refl) (λ p. ap suc (length-enter x ys))

length-sorted : (xs : List Entry) → length (sorted xs) ≡ length xs
unfolding sorted
length-sorted [] = refl
length-sorted (x ∷ xs) = length-enter x (sorted xs) ∙ ap suc (length-sorted xs)

pub length-dictionary : (step : ℕ) (zs : List Zone) → length (dictionary step zs) ≡ length (blocks zs)
unfolding dictionary
length-dictionary step zs = length-sorted (map entry_of (spots step 0 zs)) ∙ length-map (spots step 0 zs) entry_of ∙ length-spots step 0 zs

pub length-entries_bytes : (xs : List Entry) → length (entries_bytes xs) ≡ 6 * length xs
unfolding entries_bytes bytes32 bytes16
length-entries_bytes [] = refl
length-entries_bytes (x ∷ xs) = omega (arith, length-entries_bytes xs)

pub length-padded : (ds : List Entry) → length ds ≤ 256 → length (padded ds) ≡ 1536
unfolding padded
length-padded ds h = simp (length-append, length-entries_bytes, length-replicate) (omega arith)
