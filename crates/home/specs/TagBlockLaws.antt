-- A tag's block in a sound home: its dictionary entry, its list and where that lies.
use Rattle.std.specs.Prelude.{◌≡◌, refl, true, ◌≢◌, List, [], ℕ, ◌+◌, ◌*◌, ◌-◌, ◌≤◌, ◌<◌, length, take, drop, Ok, Err, None}
use Rattle.std.proofs.Common.{sym, ap, ◌∙◌, arith}
use Rattle.wire.specs.Bytes.{get16, Bytes}
use Rattle.wire.specs.BytesLaws.{part_of}
use Rattle.records.specs.Records.{records, encode}
use Rattle.records.specs.Cells.{length-records}
use Rattle.records.specs.Edits.{encode-records}
use Rattle.std.specs.declared.result.Result.{Result}
use Rattle.home.specs.Bytes.{cell_at, list_at, count_at, tag_at, entry_cell}
use Rattle.home.specs.Sound.{sound, list_of}
use Rattle.home.specs.LookupLaws.{Held, entry-held, unknown_tag, sound-short}
use Rattle.home.specs.declared.lookup.Block.{Block}
use Rattle.home.specs.Lookup.{slot_of, known, slot_block, block_of, behind_header, offset_of}
use Rattle.home.specs.LookupLoopLaws.{sound_ordered, slot_at, slot_absent}

-- the dictionary entry that leads to it
pub record Entered (h : List ℕ) (t p n : ℕ) : Type 0 where
  pub entry : ℕ
  pub slot : slot_of h t ≡ Ok entry
  pub cell : p ≡ entry_cell h entry
  pub count : n ≡ count_at h p

pub block_entered : (h : List ℕ) (t p n : ℕ) → block_of h t ≡ known p n → Entered h t p n
unfolding block_of slot_block
block_entered h t p n e = go (slot_of h t) refl e
  where
    go : (x : Result ℕ ℕ) → slot_of h t ≡ x → slot_block h x ≡ known p n → Entered h t p n
    go (Ok i) q f =
        let b : ◌≡◌ {A = Block} (record { cell = p; count = n }) (record { cell = entry_cell h i; count = count_at h (entry_cell h i) }) = cc in
        let a : p ≡ entry_cell h i = ap (λ (x : Block). x.cell) b in
        record { entry = i; slot = q; cell = a; count = ap (λ (x : Block). x.count) b ∙ ap (count_at h) (sym a) }
    go (Err i) q f = cc

-- no entry has an unknown tag
unknown_absent : (h : List ℕ) (t : ℕ) → block_of h t ≡ None → (j : ℕ) → j < get16 h 0 → t ≢ tag_at h j
unfolding block_of slot_block
unknown_absent h t e = go (slot_of h t) refl e
  where
    go : (x : Result ℕ ℕ) → slot_of h t ≡ x → slot_block h x ≡ None → (j : ℕ) → j < get16 h 0 → t ≢ tag_at h j
    go (Ok i) q f = cc
    go (Err i) q f = slot_absent h t i q

-- its list: its number of records, and its bytes
pub record ListAt (h : List ℕ) (t p n : ℕ) : Type 0 where
  pub inside : list_at p + 8 * n ≤ length h
  pub short : length h ≤ 67200
  pub count : n ≡ length (list_of h t)
  pub list : records h (list_at p) n ≡ list_of h t

pub list_at_lem : (h : List ℕ) (t p n : ℕ) → sound h ≡ true → block_of h t ≡ known p n → ListAt h t p n
list_at_lem h t p n s e = let d : Entered h t p n = block_entered h t p n e in go d.entry d.slot d.cell (d.count ∙ ap (count_at h) d.cell)
  where
    go : (i : ℕ) → slot_of h t ≡ Ok i → p ≡ entry_cell h i → n ≡ count_at h (entry_cell h i) → ListAt h t p n
    go i q ep en =
        let a = slot_at h t i (sound_ordered h s) q in
        let k : Held h i = entry-held h s i a.0 in
        let l : records h (list_at p) n ≡ list_of h t = rw (ep, en) (k.list ∙ ap (list_of h) a.1) in
        record {
          inside = rw (ep, en) k.inside;
          short = sound-short h s;
          count = sym (length-records h (list_at p) n) ∙ ap length l;
          list = l;
        }

pub list-at_bytes : (h : List ℕ) (t p n : ℕ) → Bytes h → ListAt h t p n → take (list_at p + 8 * n - (list_at p)) (drop (list_at p) h) ≡ encode (list_of h t)
list-at_bytes h t p n b l =
    part_of h (list_at p) (8 * n) ∙ sym (encode-records h (list_at p) n b l.inside) ∙ ap encode l.list

pub offset_known : (h : List ℕ) (t p n : ℕ) → block_of h t ≡ known p n → offset_of h t ≡ list_at p
unfolding offset_of behind_header
offset_known h t p n e = rw e

pub offset_unknown : (h : List ℕ) (t : ℕ) → block_of h t ≡ None → offset_of h t ≡ 0
unfolding offset_of behind_header
offset_unknown h t e = rw e

pub list-none : (h : List ℕ) (t : ℕ) → sound h ≡ true → block_of h t ≡ None → list_of h t ≡ []
list-none h t s e = unknown_tag h s t (unknown_absent h t e)

-- ---- what the code finds

-- an entry's block lies in home
pub entry_inside : (h : List ℕ) (i : ℕ) → sound h ≡ true → i < get16 h 0 → (i < 256) × (1664 ≤ length h) × (cell_at (entry_cell h i) + 8 ≤ length h)
entry_inside h i s g = let o = sound_ordered h s in (omega (arith, o.few), o.long, omega (arith, (entry-held h s i g).inside))

pub slot_under : (h : List ℕ) (t i : ℕ) → sound h ≡ true → slot_of h t ≡ Ok i → i < get16 h 0
slot_under h t i s e = (slot_at h t i (sound_ordered h s) e).0

pub slot_block_lem : (h : List ℕ) (t : ℕ) (x : Result ℕ ℕ) → slot_of h t ≡ x → slot_block h x ≡ block_of h t
unfolding block_of
slot_block_lem h t x e = rw e
