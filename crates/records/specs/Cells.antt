-- Laws of records in bytes.
use Rattle.std.specs.Prelude.{◌≡◌, refl, List, [], ◌∷◌, ◌++◌, ℕ, zero, suc, ◌+◌, ◌-◌, ◌*◌, ◌/◌, ◌≤◌, ◌<◌, length, take, drop, set, get_or}
use Rattle.std.proofs.Common.{sym, ap, ◌∙◌, arith, add-one, length-drop}
use Rattle.std.specs.Int.{w64, from_be_bytes}
use Rattle.std.specs.Simd.{first_chunks}
use Rattle.std.proofs.lemmas.List.{get_or-take, get_or-drop}
use Rattle.wire.specs.Bytes.{over, get16, get32, bytes16, bytes32}
use Rattle.wire.specs.BytesLaws.{over-cons, over_snoc, over-append}
use Rattle.records.specs.declared.Record.{Record}
use Rattle.records.specs.Records.{key, record_at, records, decode, rest, bytes_of}

-- ---- one record

pub halves : (a b : ℕ) → (a * 4294967296 + b) / 256 ≡ a * 16777216 + b / 256
halves a b = omega arith

-- a record's key from two numbers of 4 bytes
pub key_read : (l : List ℕ) (at : ℕ) → get_or l (at + 4 + 3) 0 < 256 → get32 l at * 16777216 + get32 l (at + 4) / 256 ≡ key (record_at l at)
unfolding key record_at get32 get16
key_read l at g =
    let e1 : at + 1 + 1 ≡ at + 2 = omega arith in
    let e2 : at + 1 + 2 ≡ at + 3 = omega arith in
    let e3 : at + 1 + 3 ≡ at + 4 = omega arith in
    let e4 : at + 4 + 1 ≡ at + 5 = omega arith in
    let e5 : at + 4 + 2 ≡ at + 6 = omega arith in
    let e6 : at + 5 + 1 ≡ at + 6 = omega arith in
    rw (e1, e2, e3, e4, e5, e6) (sums (get_or l at 0) (get_or l (at + 1) 0) (get_or l (at + 2) 0) (get_or l (at + 3) 0) (get_or l (at + 4) 0) (get_or l (at + 5) 0) (get_or l (at + 6) 0) (get_or l (at + 4 + 3) 0) g)
  where
    sums : (a b c d e f g h : ℕ) → h < 256
        → (a * 16777216 + b * 65536 + c * 256 + d) * 16777216 + (e * 16777216 + f * 65536 + g * 256 + h) / 256
        ≡ a * 281474976710656 + (b * 16777216 + c * 65536 + d * 256 + e) * 65536 + (f * 256 + g)
    sums a b c d e f g h q = omega arith

-- and from the number of its 8 bytes
pub key_whole : (l : List ℕ) → get_or l 7 0 < 256 → from_be_bytes w64 l / 256 ≡ key (record_at l 0)
unfolding key record_at get32 get16
key_whole l g = sums (get_or l 0 0) (get_or l 1 0) (get_or l 2 0) (get_or l 3 0) (get_or l 4 0) (get_or l 5 0) (get_or l 6 0) (get_or l 7 0) g
  where
    sums : (a b c d e f g h : ℕ) → h < 256
        → (a * 72057594037927936 + b * 281474976710656 + c * 1099511627776 + d * 4294967296 + e * 16777216 + f * 65536 + g * 256 + h) / 256
        ≡ a * 281474976710656 + (b * 16777216 + c * 65536 + d * 256 + e) * 65536 + (f * 256 + g)
    sums a b c d e f g h q = omega arith

-- a record depends on its 8 bytes alone
pub record_same : (l l' : List ℕ) (at at' : ℕ) → ((i : ℕ) → i < 8 → get_or l' (at' + i) 0 ≡ get_or l (at + i) 0) → record_at l' at' ≡ record_at l at
unfolding record_at get32 get16
record_same l l' at at' f =
    let b : (k k' i : ℕ) → i < 8 → k ≡ at + i → k' ≡ at' + i → get_or l' k' 0 ≡ get_or l k 0 = λ k k' i g e e'. rw (e, e') (f i g) in
    let b0 : get_or l' at' 0 ≡ get_or l at 0 = b at at' 0 (omega arith) (omega arith) (omega arith) in
    let b1 : get_or l' (at' + 1) 0 ≡ get_or l (at + 1) 0 = f 1 (omega arith) in
    let b2 : get_or l' (at' + 1 + 1) 0 ≡ get_or l (at + 1 + 1) 0 = b (at + 1 + 1) (at' + 1 + 1) 2 (omega arith) (omega arith) (omega arith) in
    let b3 : get_or l' (at' + 1 + 2) 0 ≡ get_or l (at + 1 + 2) 0 = b (at + 1 + 2) (at' + 1 + 2) 3 (omega arith) (omega arith) (omega arith) in
    let b4 : get_or l' (at' + 1 + 3) 0 ≡ get_or l (at + 1 + 3) 0 = b (at + 1 + 3) (at' + 1 + 3) 4 (omega arith) (omega arith) (omega arith) in
    let b5 : get_or l' (at' + 5) 0 ≡ get_or l (at + 5) 0 = f 5 (omega arith) in
    let b6 : get_or l' (at' + 5 + 1) 0 ≡ get_or l (at + 5 + 1) 0 = b (at + 5 + 1) (at' + 5 + 1) 6 (omega arith) (omega arith) (omega arith) in
    let b7 : get_or l' (at' + 7) 0 ≡ get_or l (at + 7) 0 = f 7 (omega arith) in
    rw (b0, b1, b2, b3, b4, b5, b6, b7)

chunk-at : (l : List ℕ) (n i j : ℕ) (d : List ℕ) → i < n → j < 8 → get_or (get_or (first_chunks 8 n l) i d) j 0 ≡ get_or l (8 * i + j) 0
chunk-at l zero i j d g h = absurd (omega arith)
chunk-at l (suc n) zero j d g h = let e : 8 * 0 + j ≡ j = omega arith in rw e (get_or-take 8 l j 0 h)
chunk-at l (suc n) (suc i) j d g h =
    let e : 8 * suc i + j ≡ 8 + (8 * i + j) = omega arith in
    rw e (chunk-at (drop 8 l) n i j d (omega arith) h ∙ get_or-drop 8 l (8 * i + j) 0)

-- the 8 bytes of each record of a run
pub record CellsOf (l : List ℕ) (cells : List (List ℕ)) : Type 0 where
  pub len : length cells ≡ length l / 8
  pub each : (i : ℕ) (d : List ℕ) → i < length l / 8 → record_at (get_or cells i d) 0 ≡ record_at l (8 * i)

pub cells_of : (l : List ℕ) (cells : List (List ℕ)) → cells ≡ first_chunks 8 (length l / 8) l → length cells ≡ length l / 8 → CellsOf l cells
cells_of l cells e g = record {
  len = g;
  each = λ i d h. rw e (record_same l (get_or (first_chunks 8 (length l / 8) l) i d) (8 * i) 0
      (λ j k. let o : 0 + j ≡ j = omega arith in rw o (chunk-at l (length l / 8) i j d h k)));
}

-- those behind the first
pub cell_behind : (l : List ℕ) (cells : List (List ℕ)) (x : List ℕ) (xs : List (List ℕ)) (i : ℕ) (d : List ℕ) → CellsOf l cells → cells ≡ x ∷ xs → i + 1 < length l / 8
    → record_at (get_or xs i d) 0 ≡ record_at l (8 * (i + 1))
cell_behind l cells x xs i d c e g =
    let s : suc i ≡ i + 1 = omega arith in
    ap (λ (ys : List (List ℕ)). record_at (get_or ys (suc i) d) 0) (sym e) ∙ c.each (suc i) d (omega arith) ∙ ap (λ (n : ℕ). record_at l (8 * n)) s

-- a record stored field by field
pub record_stored : (l : List ℕ) (at : ℕ) (r : Record)
    → set (over (over (set l at r.level) (at + 1) (bytes32 r.second)) (at + 5) (bytes16 r.phone)) (at + 7) r.minutes ≡ over l at (bytes_of r)
unfolding bytes_of bytes32 bytes16
record_stored l at r =
    let p : List ℕ = r.level ∷ bytes32 r.second in
    let q : List ℕ = p ++ bytes16 r.phone in
    let e : over (set l at r.level) (at + 1) (bytes32 r.second) ≡ over l at p = rw add-one (over-cons l at r.level (bytes32 r.second)) in
    let f : over (over l at p) (at + 5) (bytes16 r.phone) ≡ over l at q = over-append l at p (bytes16 r.phone) in
    rw (e, f) (over_snoc l at q r.minutes)

pub length-bytes_of : (r : Record) → length (bytes_of r) ≡ 8
unfolding bytes_of bytes32 bytes16
length-bytes_of r = refl

-- ---- runs of records

pub records-none : (l : List ℕ) (at : ℕ) → records l at 0 ≡ []
unfolding records
records-none l at = refl

pub records_more : (l : List ℕ) (at n : ℕ) → records l at (suc n) ≡ record_at l at ∷ records l (at + 8) n
unfolding records
records_more l at n = refl

pub length-records : (l : List ℕ) (at n : ℕ) → length (records l at n) ≡ n
unfolding records
length-records l at zero = refl
length-records l at (suc n) = ap suc (length-records l (at + 8) n)

pub records_same : (l l' : List ℕ) (at at' n : ℕ) → ((i : ℕ) → i < 8 * n → get_or l' (at' + i) 0 ≡ get_or l (at + i) 0) → records l' at' n ≡ records l at n
records_same l l' at at' zero f = rw (records-none l' at', records-none l at)
records_same l l' at at' (suc n) f =
    let r : record_at l' at' ≡ record_at l at = record_same l l' at at' (λ i g. f i (omega arith)) in
    let s : records l' (at' + 8) n ≡ records l (at + 8) n = records_same l l' (at + 8) (at' + 8) n
    (λ i g. let e : at' + 8 + i ≡ at' + (8 + i) = omega arith in let e' : at + 8 + i ≡ at + (8 + i) = omega arith in rw (e, e') (f (8 + i) (omega arith))) in
    rw (records_more l' at' n, records_more l at n, r, s)

pub records-at : (l : List ℕ) (at n i : ℕ) (z : Record) → i < n → get_or (records l at n) i z ≡ record_at l (at + 8 * i)
records-at l at zero i z g = absurd (omega arith)
records-at l at (suc n) zero z g = let e : at + 8 * 0 ≡ at = omega arith in rw (records_more, e)
records-at l at (suc n) (suc i) z g = let e : at + 8 * suc i ≡ at + 8 + 8 * i = omega arith in rw (records_more, e) (records-at l (at + 8) n i z (omega arith))

pub take-records : (l : List ℕ) (at n i : ℕ) → i ≤ n → take i (records l at n) ≡ records l at i
take-records l at n zero g = sym (records-none l at)
take-records l at zero (suc i) g = absurd (omega arith)
take-records l at (suc n) (suc i) g = rw (records_more, records_more l at i) (ap (◌∷◌ (record_at l at)) (take-records l (at + 8) n i (omega arith)))

pub drop-records : (l : List ℕ) (at n i : ℕ) → i ≤ n → drop i (records l at n) ≡ records l (at + 8 * i) (n - i)
drop-records l at n zero g = let e : at + 8 * 0 ≡ at = omega arith in let f : n - 0 ≡ n = omega arith in rw (e, f)
drop-records l at zero (suc i) g = absurd (omega arith)
drop-records l at (suc n) (suc i) g =
    let e : at + 8 * suc i ≡ at + 8 + 8 * i = omega arith in
    let f : suc n - suc i ≡ n - i = omega arith in
    rw (records_more, e, f) (drop-records l (at + 8) n i (omega arith))

-- those from the i-th on
pub rest_more : (l : List ℕ) (i : ℕ) → i < length l / 8 → rest l i ≡ record_at l (8 * i) ∷ rest l (i + 1)
rest_more l i g =
    let e : length l / 8 - i ≡ suc (length l / 8 - (i + 1)) = omega arith in
    let f : 8 * (i + 1) ≡ 8 * i + 8 = omega arith in
    rw (e, f) (records_more l (8 * i) (length l / 8 - (i + 1)))

pub rest_end : (l : List ℕ) (i : ℕ) → length l / 8 ≤ i → rest l i ≡ []
rest_end l i g = let e : length l / 8 - i ≡ 0 = omega arith in rw e (records-none l (8 * i))

pub rest_all : (l : List ℕ) → rest l 0 ≡ records l 0 (length l / 8)
rest_all l = let e : length l / 8 - 0 ≡ length l / 8 = omega arith in rw e

-- the first, and those behind it
pub decode_more : (l : List ℕ) → 8 ≤ length l → decode l ≡ record_at l 0 ∷ decode (drop 8 l)
decode_more l g =
    let e : length l / 8 ≡ suc (length (drop 8 l) / 8) = omega (arith, length-drop 8 l) in
    let f : records l (0 + 8) (length (drop 8 l) / 8) ≡ records (drop 8 l) 0 (length (drop 8 l) / 8) = records_same (drop 8 l) l 0 (0 + 8) _ (λ i h. let o : 0 + i ≡ i = omega arith in rw o (sym (get_or-drop 8 l i 0))) in
    rw e (records_more l 0 (length (drop 8 l) / 8)) ∙ ap (◌∷◌ (record_at l 0)) f

pub decode_end : (l : List ℕ) → length l < 8 → decode l ≡ []
decode_end l g = let e : length l / 8 ≡ 0 = omega arith in rw e (records-none l 0)
