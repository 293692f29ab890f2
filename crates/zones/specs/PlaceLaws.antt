-- A block in bytes, and a block put in behind those of its zone.
use Rattle.std.specs.Prelude.{◌≡◌, refl, List, ◌∷◌, ◌++◌, ℕ, suc, ◌+◌, ◌*◌, ◌-◌, ◌/◌, ◌≤◌, ◌<◌, length, replicate}
use Rattle.std.proofs.Math.Path.{sym}
use Rattle.std.proofs.Common.{ap, ◌∙◌, subst, arith, add-one, ne_eqb}
use Rattle.wire.specs.Bytes.{over, get16, bytes16, bytes32, Bytes}
use Rattle.wire.specs.BytesLaws.{over-next}
use Rattle.records.specs.declared.Record.{Record}
use Rattle.records.specs.Records.{encode as record_bytes, decode as records_in}
use Rattle.records.specs.Cells.{length-records}
use Rattle.records.specs.Edits.{length-encode, encode-decode as bytes_back}
use Rattle.layout.specs.Capacities.{capacity, cells, class_of}
use Rattle.layout.specs.CapacitiesLaws.{class_below as class-most, class_holds}
use Rattle.layout.specs.Zones.{Block, Zone, empty, from, blocks, added, end_of}
use Rattle.home.specs.Layout.{Sits, Fit, Loose}
use Rattle.layout.specs.PlaceLaws.{length_snoc}
use Rattle.home.specs.Lookup.{Ordered}
use Rattle.home.specs.AreaLaws.{fit_le}
use Rattle.home.specs.HomeLaws.{length-dictionary}
use Rattle.home.specs.DictionaryLaws.{dictionary-rising}
use Rattle.home.specs.Bytes.{step_of, Entry, zone_entries, dictionary, area, encode, cell_at, first_at, many_at, block_bytes}
use Rattle.home.specs.BytesLaws.{records_fit}
use Rattle.home.specs.EncodeLaws.{state, state-tags, length-zones, fine, encode-state, length_loose}
use Rattle.moves.specs.Moves.{zoned, entered}
use Rattle.moves.specs.StateLaws.{state_ordered, state-written}
use Rattle.moves.specs.LayoutMoves.{first_of, many_of, class_below, home_placed}
use Rattle.moves.specs.Stored.{end_after}
use Rattle.moves.specs.LooseLaws.{zone-at, fit_above}
use Rattle.moves.specs.AtLaws.{zone_here}
use Rattle.seats.specs.Seat.{first_with}
use Rattle.zones.specs.Place.{whole_block, RoomAt, with_block, block_in, Placeable}

-- ---- a whole block

pub block_written : (step : ℕ) (h : List ℕ) (at c t k : ℕ) (bs : List ℕ) → k ≡ cells step c
    → over (over (over (over (over h at (bytes32 t)) (at + 4) (bytes16 (length bs / 8))) (at + 6) (bytes16 0)) (at + 8) bs) (at + 8 + length bs) (replicate (8 * k - 8 - length bs) 0) ≡ over h at (whole_block step c t bs)
unfolding whole_block bytes16 bytes32
block_written step h at c t k bs e =
    let n : ℕ = length bs / 8 in
    let z : List ℕ = replicate (8 * k - 8 - length bs) 0 in
    ap (λ (l : List ℕ). over (over (over l (at + 6) (bytes16 0)) (at + 8) bs) (at + 8 + length bs) z) (over-next h at (at + 4) (bytes32 t) (bytes16 n) (omega arith))
    ∙ ap (λ (l : List ℕ). over (over l (at + 8) bs) (at + 8 + length bs) z) (over-next h at (at + 6) (bytes32 t ++ bytes16 n) (bytes16 0) (omega arith))
    ∙ ap (λ (l : List ℕ). over l (at + 8 + length bs) z) (over-next h at (at + 8) ((bytes32 t ++ bytes16 n) ++ bytes16 0) bs (omega arith))
    ∙ over-next h at (at + 8 + length bs) (((bytes32 t ++ bytes16 n) ++ bytes16 0) ++ bs) z (omega arith)
    ∙ ap (λ (j : ℕ). over h at (bytes32 t ++ (bytes16 n ++ (0 ∷ 0 ∷ (bs ++ replicate (8 * j - 8 - length bs) 0))))) e

pub block_is : (step c t : ℕ) (rs : List Record) → length rs ≤ capacity step c → whole_block step c t (record_bytes rs) ≡ block_bytes step c (record { tag = t; list = rs })
unfolding whole_block block_bytes cells
block_is step c t rs g =
    let a : length (record_bytes rs) / 8 ≡ length rs = omega (arith, length-encode rs) in
    let b : 8 * cells step c - 8 - length (record_bytes rs) ≡ 8 * (capacity step c - length rs) = omega (arith, length-encode rs) in
    rw (a, b)

-- ---- a block put in

pub end_added : (step c e : ℕ) (b : Block) (z : Zone) → end_of (cells step) c e (added e b z) ≡ end_of (cells step) c e z + cells step c
unfolding end_of added
end_added step c e b empty = omega arith
end_added step c e b (from f x xs) = ap (λ (k : ℕ). f + suc k * cells step c) (length_snoc xs b) ∙ omega arith

fit_end : (step n c e : ℕ) (z : Zone) (hs : List Zone) → Fit step n c e (z ∷ hs) → end_of (cells step) c e z ≤ n
unfolding end_of
fit_end step n c e empty hs h = fit_le step n (suc c) e hs h
fit_end step n c e (from f x xs) hs h = fit_le step n (suc c) (f + suc (length xs) * cells step c) hs h.1

first-added : (step c e : ℕ) (b : Block) (z : Zone) → first_with (many_of z) (first_of z) (end_of (cells step) c e z) ≡ first_of (added e b z)
unfolding first_with many_of first_of end_of added
first-added step c e b empty = refl
first-added step c e b (from f x xs) = rw (ne_eqb (suc (length xs)) 0 (λ q. omega arith))

-- home's bytes h have room at cell p for a block of class c with tag t and bytes bs; h' are those with the block
pub record Puts (step : ℕ) (h h' : List ℕ) (c p t : ℕ) (bs : List ℕ) : Type 0 where
  pub room : RoomAt step h c p t bs
  pub bytes : with_block step h c p t bs ≡ h'

-- the block's bytes, its tag's entry, and its zone's, one after the other
pub put_done : (step : ℕ) (h h₁ h₂ h₃ : List ℕ) (c p t n f first : ℕ) (bs : List ℕ) → n ≡ many_at h c → f ≡ first_at h c → h₁ ≡ over h (cell_at p) (whole_block step c t bs) → h₂ ≡ entered h₁ t p → first ≡ first_with n f p
    → h₃ ≡ zoned h₂ c first (n + 1) → h₃ ≡ with_block step h c p t bs
unfolding with_block
put_done step h h₁ h₂ h₃ c p t n f first bs en ef e₁ e₂ e e₃ = rw (e₃, e₂, e₁, e, en, ef)

-- the block's bytes are written, not yet its entries
module _ (step R : ℕ) (small : R ≤ 1024) (zs : List Zone) (v : Loose step R zs) (p : ℕ) (bs : List ℕ) where
  abbrev es : List ℕ
  es = zone_entries zs

  abbrev ds : List Entry
  ds = dictionary step zs

  abbrev a : List ℕ
  a = over (area step (8 * R) zs) (8 * p) bs

  written : over (encode step R zs) (cell_at p) bs ≡ state step es ds a
  written = ap (λ (h : List ℕ). over h (cell_at p) bs) (encode-state step R zs v) ∙ state-written step es (area step (8 * R) zs) (length-zones step R zs v) ds (fine step R small zs v) p bs

  written_ordered : Ordered (over (encode step R zs) (cell_at p) bs)
  written_ordered = subst Ordered (sym written) (state_ordered step es a (length-zones step R zs v) ds (fine step R small zs v) (dictionary-rising step zs v.distinct))

  written-tags : get16 (over (encode step R zs) (cell_at p) bs) 0 ≡ length (blocks zs)
  written-tags = ap (λ (h : List ℕ). get16 h 0) written ∙ state-tags step es a (length-zones step R zs v) ds (fine step R small zs v) ∙ length-dictionary step zs

-- a block behind those of its zone, between layouts that are valid but for their gaps
pub puts_at : (step R : ℕ) → R ≤ 1024 → (t : ℕ) (bs : List ℕ) (ls : List Zone) (z : Zone) (hs : List Zone)
    → Loose step R (ls ++ z ∷ hs) → Loose step R (ls ++ added (end_after step 0 0 ls) (block_in t bs) z ∷ hs) → length (blocks (ls ++ z ∷ hs)) < 256
    → length bs + 8 ≤ 8 * cells step (length ls) → block_bytes step (length ls) (block_in t bs) ≡ whole_block step (length ls) t bs
    → Puts step (encode step R (ls ++ z ∷ hs)) (encode step R (ls ++ added (end_after step 0 0 ls) (block_in t bs) z ∷ hs)) (length ls) (end_of (cells step) (length ls) (end_after step 0 0 ls) z) t bs
unfolding with_block
puts_at step R small t bs ls z hs v v' few fits block =
    let c : ℕ = length ls in
    let e : ℕ = end_after step 0 0 ls in
    let b : Block = block_in t bs in
    let p : ℕ = end_of (cells step) c e z in
    let h : List ℕ = encode step R (ls ++ z ∷ hs) in
    let g : c < 30 = class_below ls z hs v.classes in
    let long : length h ≡ 1664 + 64 * R = length_loose step R (ls ++ z ∷ hs) v in
    let high : p + cells step c ≤ 8 * R = omega (arith, end_added step c e b z, fit_end step (8 * R) c e (added e b z) hs (fit_above step (8 * R) 0 0 c ls (added e b z ∷ hs) (omega arith) v'.fit)) in
    let read : (first_at h c ≡ first_of z) × (many_at h c ≡ many_of z) =
    subst (λ (y : Zone). (first_at h c ≡ first_of y) × (many_at h c ≡ many_of y)) (zone_here ls z hs) (zone-at step R small (ls ++ z ∷ hs) v c g) in
    record {
      room = record {
        class = g;
        long = omega (arith, long);
        inside = omega (arith, long, high);
        fits = fits;
        ordered = written_ordered step R small (ls ++ z ∷ hs) v p (whole_block step c t bs);
        few = omega (arith, written-tags step R small (ls ++ z ∷ hs) v p (whole_block step c t bs), few);
      };
      bytes = rw (read.0, read.1, ← block, add-one)
          (ap (λ (x : ℕ). zoned (entered (over h (cell_at p) (block_bytes step c b)) t p) c x (suc (many_of z))) (first-added step c e b z) ∙ sym (home_placed step R small ls e b z hs v v'));
    }

-- ---- what the code knows at its places

able_class : (step : ℕ) (h : List ℕ) (t c : ℕ) (bs : List ℕ) → Placeable h t bs → c ≡ class_of step (length bs / 8) → c < 30
able_class step h t c bs a q = omega (arith, class-most step (length bs / 8) a.most)

list-sits : (step : ℕ) (h : List ℕ) (t : ℕ) (bs : List ℕ) → Placeable h t bs → t < 4294967296 → Bytes bs → Sits step (class_of step (length bs / 8)) (block_in t bs)
list-sits step h t bs a g b =
    let n : ℕ = length bs / 8 in
    let l : length (records_in bs) ≡ n = length-records bs 0 n in
    record {
      tag = g;
      some = omega (arith, l, a.some);
      room = omega (arith, l, class_holds step n a.most);
      class = ap (class_of step) l;
      rising = a.rising;
      fits = records_fit bs 0 n b;
    }

-- a list of class c by home's step code
pub record Fitting (step : ℕ) (h : List ℕ) (t : ℕ) (bs : List ℕ) (c : ℕ) : Type 0 where
  pub code : step ≡ step_of h
  pub able : Placeable h t bs
  pub tag : t < 4294967296
  pub bytes : Bytes bs
  pub class : c ≡ class_of step (length bs / 8)

module _ (step : ℕ) (h : List ℕ) (t : ℕ) (bs : List ℕ) (c : ℕ) (l : Fitting step h t bs c) where
  pub fitting_under : c < 30
  fitting_under = able_class step h t c bs l.able l.class

  pub fitting_sits : Sits step c (block_in t bs)
  fitting_sits = subst (λ (x : ℕ). Sits step x (block_in t bs)) (sym l.class) (list-sits step h t bs l.able l.tag l.bytes)

  pub fitting_fits : length bs + 8 ≤ 8 * cells step c
  fitting_fits = omega (arith, l.able.whole, class_holds step (length bs / 8) l.able.most, ap (cells step) l.class)

  pub fitting_bytes : block_bytes step c (block_in t bs) ≡ whole_block step c t bs
  unfolding cells
  fitting_bytes =
      sym (ap (whole_block step c t) (sym (bytes_back bs l.bytes (omega (arith, l.able.whole))))
      ∙ block_is step c t (records_in bs) (omega (arith, fitting_fits, l.able.whole, length-records bs 0 (length bs / 8))))
