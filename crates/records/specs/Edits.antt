-- Lists to bytes and back, and what the edits of bytes do to the list in them.
use Rattle.std.specs.Prelude.{◌≡◌, refl, true, ℕ, zero, suc, ◌+◌, ◌-◌, ◌*◌, ◌/◌, ◌%◌, ◌≤◌, ◌<◌, length, take, drop, set, get_or, replicate}
use Rattle.std.proofs.Common.{sym, ap, ap₂, ◌∙◌, arith, length-append, length-set, take-append-drop, get_or-append-add, get_or-set_same, get_or-set_other, take_all, ext_get_or}
use mathlib.Core.List.{List, [], ◌∷◌, ◌++◌, Memᴰ}
use Rattle.std.proofs.Math.ListN.{get_or-append}
use Rattle.std.proofs.lemmas.List.{set_split}
use Rattle.wire.specs.Bytes.{part, over, get16, get32, bytes16, bytes32, Bytes}
use Rattle.wire.specs.BytesLaws.{length_over, over-low, over_in, over_high, length_part, part_at, get16-over, get32-over, part-over, part-add, digits16, digits32}
use Rattle.records.specs.declared.Record.{Record}
use Rattle.records.specs.Records.{Fits, key, rising, look, held, rank, insert, remove, lasting, amend, bytes_of, encode, record_at, records, decode, up, down, inserted, removed, amended}
use Rattle.records.specs.Order.{insert-at, remove-at, amend-at, rank-length}
use Rattle.records.specs.Cells.{record_same, length-bytes_of, length-records, records-none, records_more, records_same, records-at, take-records, drop-records}
use Rattle.records.specs.Moves.{length_up, up-low, up_high, length-down, down-low, down_in}

-- ---- one record

record_one : (r : Record) → Fits r → record_at (bytes_of r) 0 ≡ r
unfolding record_at bytes_of get32 get16 bytes32 bytes16 over
record_one r f =
    let p : get32 (bytes_of r) 1 ≡ r.second = get32-over (0 ∷ 0 ∷ 0 ∷ 0 ∷ []) 0 r.second (omega arith) f.second in
    let q : get16 (bytes_of r) 5 ≡ r.phone = get16-over (0 ∷ 0 ∷ []) 0 r.phone (omega arith) f.phone in
    λ i. record { level = r.level; second = p i; phone = q i; minutes = r.minutes }

-- a record written and read back
pub record_back : (l : List ℕ) (at : ℕ) (r : Record) → Fits r → at + 8 ≤ length l → record_at (over l at (bytes_of r)) at ≡ r
record_back l at r f g =
    let e = length-bytes_of r in
    record_same (bytes_of r) (over l at (bytes_of r)) 0 at
    (λ i h. over_in l at (bytes_of r) i (omega arith) (omega arith) ∙ ap (λ (k : ℕ). get_or (bytes_of r) k 0) (omega arith))
    ∙ record_one r f

-- what is read of bytes fits
pub record_fits : (l : List ℕ) (at : ℕ) → Bytes l → Fits (record_at l at)
unfolding record_at get32 get16
record_fits l at b = record {
  level = b at;
  second = omega (arith, b (at + 1), b (at + 1 + 1), b (at + 1 + 2), b (at + 1 + 3));
  phone = omega (arith, b (at + 5), b (at + 5 + 1));
  minutes = b (at + 7);
}

-- a record's bytes are those it was read from
bytes_at : (l : List ℕ) (at : ℕ) → Bytes l
    → bytes_of (record_at l at) ≡ get_or l at 0 ∷ get_or l (at + 1) 0 ∷ get_or l (at + 1 + 1) 0 ∷ get_or l (at + 1 + 2) 0 ∷ get_or l (at + 1 + 3) 0 ∷ get_or l (at + 5) 0 ∷ get_or l (at + 5 + 1) 0 ∷ get_or l (at + 7) 0 ∷ []
unfolding bytes_of record_at get32 get16
bytes_at l at b =
    rw (
      digits32 (get_or l (at + 1) 0) (get_or l (at + 1 + 1) 0) (get_or l (at + 1 + 2) 0) (get_or l (at + 1 + 3) 0) (b (at + 1)) (b (at + 1 + 1)) (b (at + 1 + 2)) (b (at + 1 + 3)),
      digits16 (get_or l (at + 5) 0) (get_or l (at + 5 + 1) 0) (b (at + 5)) (b (at + 5 + 1)),
    )

byte_at : (l : List ℕ) (at i : ℕ) → Bytes l → i < 8 → get_or (bytes_of (record_at l at)) i 0 ≡ get_or l (at + i) 0
byte_at l at i b g = rw (bytes_at l at b) (place i g)
  where
    same : (k k' : ℕ) → k ≡ k' → get_or l k 0 ≡ get_or l k' 0
    same k k' e = ap (λ (n : ℕ). get_or l n 0) e

    place : (i : ℕ) → i < 8
        → get_or (get_or l at 0 ∷ get_or l (at + 1) 0 ∷ get_or l (at + 1 + 1) 0 ∷ get_or l (at + 1 + 2) 0 ∷ get_or l (at + 1 + 3) 0 ∷ get_or l (at + 5) 0 ∷ get_or l (at + 5 + 1) 0 ∷ get_or l (at + 7) 0 ∷ []) i 0
        ≡ get_or l (at + i) 0
    place zero g = same at (at + 0) (omega arith)
    place (suc zero) g = same (at + 1) (at + 1) (omega arith)
    place (suc (suc zero)) g = same (at + 1 + 1) (at + 2) (omega arith)
    place (suc (suc (suc zero))) g = same (at + 1 + 2) (at + 3) (omega arith)
    place (suc (suc (suc (suc zero)))) g = same (at + 1 + 3) (at + 4) (omega arith)
    place (suc (suc (suc (suc (suc zero))))) g = same (at + 5) (at + 5) (omega arith)
    place (suc (suc (suc (suc (suc (suc zero)))))) g = same (at + 5 + 1) (at + 6) (omega arith)
    place (suc (suc (suc (suc (suc (suc (suc zero))))))) g = same (at + 7) (at + 7) (omega arith)
    place (suc (suc (suc (suc (suc (suc (suc (suc i)))))))) g = absurd (omega arith)

-- ---- lists to bytes and back

pub length-encode : (xs : List Record) → length (encode xs) ≡ 8 * length xs
unfolding encode
length-encode [] = refl
length-encode (x ∷ xs) = length-append (bytes_of x) (encode xs) ∙ (let e = length-encode xs in omega (arith, length-bytes_of x))

encode_more : (x : Record) (xs : List Record) → encode (x ∷ xs) ≡ bytes_of x ++ encode xs
unfolding encode
encode_more x xs = refl

records-encode : (xs : List Record) → ((r : Record) → Memᴰ r xs → Fits r) → records (encode xs) 0 (length xs) ≡ xs
records-encode [] f = records-none (encode []) 0
records-encode (x ∷ xs) f =
    let e = length-bytes_of x in
    let l : List ℕ = bytes_of x ++ encode xs in
    let p : record_at l 0 ≡ x = record_same (bytes_of x) l 0 0 (λ i g. get_or-append (bytes_of x) (encode xs) 0 (0 + i) (omega arith)) ∙ record_one x (f x (Memᴰ.head refl)) in
    let q : records l (0 + 8) (length xs) ≡ records (encode xs) 0 (length xs) = records_same (encode xs) l 0 (0 + 8) (length xs)
    (λ i g. ap (λ (k : ℕ). get_or l k 0) (omega arith) ∙ get_or-append-add (bytes_of x) (encode xs) i 0 ∙ ap (λ (k : ℕ). get_or (encode xs) k 0) (omega arith)) in
    rw (encode_more, records_more l 0 (length xs), p, q) (ap (◌∷◌ x) (records-encode xs (λ r m. f r (Memᴰ.tail m))))

pub decode-encode : (xs : List Record) → ((r : Record) → Memᴰ r xs → Fits r) → decode (encode xs) ≡ xs
decode-encode xs f = let e : length (encode xs) / 8 ≡ length xs = omega (arith, length-encode xs) in rw e (records-encode xs f)

-- the bytes of the records read from a run are that run
pub encode-records : (l : List ℕ) (at n : ℕ) → Bytes l → at + 8 * n ≤ length l → encode (records l at n) ≡ part l at (8 * n)
unfolding encode part
encode-records l at zero b g = rw records-none
encode-records l at (suc n) b g =
    let p : bytes_of (record_at l at) ≡ part l at 8 = ext_get_or 0 (bytes_of (record_at l at)) (part l at 8) (length-bytes_of (record_at l at) ∙ sym (length_part l at 8 (omega arith)))
    (λ i h. let k : i < 8 = omega (arith, length-bytes_of (record_at l at)) in byte_at l at i b k ∙ sym (part_at l at 8 i k)) in
    let e : 8 * suc n ≡ 8 + 8 * n = omega arith in
    ap encode (records_more l at n) ∙ ap₂ (λ (x y : List ℕ). x ++ y) p (encode-records l (at + 8) n b (omega arith)) ∙ sym (part-add l at 8 (8 * n)) ∙ ap (part l at) (sym e)

pub encode-decode : (l : List ℕ) → Bytes l → length l % 8 ≡ 0 → encode (decode l) ≡ l
unfolding part
encode-decode l b g =
    let e : 8 * (length l / 8) ≡ length l = omega arith in
    encode-records l 0 (length l / 8) b (omega arith) ∙ take_all (8 * (length l / 8)) l (omega arith)

-- records in a part of a run
pub records-part : (l : List ℕ) (at n m : ℕ) → 8 * n ≤ m → records (part l at m) 0 n ≡ records l at n
records-part l at n m g = records_same l (part l at m) at 0 n (λ i h. ap (λ (k : ℕ). get_or (part l at m) k 0) (omega arith) ∙ part_at l at m i (omega arith))

pub decode-part : (l : List ℕ) (at n : ℕ) → at + 8 * n ≤ length l → decode (part l at (8 * n)) ≡ records l at n
decode-part l at n g =
    let e : length (part l at (8 * n)) / 8 ≡ n = omega (arith, length_part l at (8 * n) g) in
    rw e (records-part l at n (8 * n) (omega arith))

-- ---- a record put in

records_split : (l : List ℕ) (at i n : ℕ) → i ≤ n → records l at n ≡ records l at i ++ records l (at + 8 * i) (n - i)
records_split l at i n g = rw (← take-records l at n i g, ← drop-records l at n i g) (sym (take-append-drop i (records l at n)))

inserted-low : (l : List ℕ) (i : ℕ) (r : Record) (k : ℕ) → k < 8 * i → get_or (inserted l i r) k 0 ≡ get_or l k 0
unfolding inserted
inserted-low l i r k g = over-low (up l (8 * i)) (8 * i) (bytes_of r) k g ∙ up-low l (8 * i) k (omega arith)

inserted_high : (l : List ℕ) (i : ℕ) (r : Record) (k : ℕ) → 8 * i + 8 + k < length l → get_or (inserted l i r) (8 * i + 8 + k) 0 ≡ get_or l (8 * i + k) 0
unfolding inserted
inserted_high l i r k g = over_high (up l (8 * i)) (8 * i) (bytes_of r) (8 * i + 8 + k) (omega (arith, length-bytes_of r)) ∙ up_high l (8 * i) k g

inserted_here_lem : (l : List ℕ) (i : ℕ) (r : Record) → Fits r → 8 * i + 8 ≤ length l → record_at (inserted l i r) (8 * i) ≡ r
unfolding inserted
inserted_here_lem l i r f g = record_back (up l (8 * i)) (8 * i) r f (rw length_up g)

pub length_inserted : (l : List ℕ) (i : ℕ) (r : Record) → length (inserted l i r) ≡ length l
unfolding inserted
length_inserted l i r = length_over (up l (8 * i)) (8 * i) (bytes_of r) ∙ length_up l (8 * i)

inserted-records : (l : List ℕ) (n i : ℕ) (r : Record) → Fits r → 8 * (n + 1) ≤ length l → i ≤ n
    → records (inserted l i r) 0 (n + 1) ≡ take i (records l 0 n) ++ (r ∷ drop i (records l 0 n))
inserted-records l n i r f g h =
    let s : List ℕ = inserted l i r in
    let low : records s 0 i ≡ records l 0 i = records_same l s 0 0 i (λ k q. inserted-low l i r (0 + k) (omega arith)) in
    let high : records s (8 * i + 8) (n - i) ≡ records l (8 * i) (n - i) = records_same l s (8 * i) (8 * i + 8) (n - i) (λ k q. inserted_high l i r k (omega arith)) in
    let e : n + 1 - i ≡ suc (n - i) = omega arith in
    let z : 0 + 8 * i ≡ 8 * i = omega arith in
    records_split s 0 i (n + 1) (omega arith)
    ∙ rw (e, z, records_more s (8 * i) (n - i), low, high, inserted_here_lem l i r f (omega arith), take-records l 0 n i h, drop-records l 0 n i h, z)

-- put in at its rank, in a run with a free cell behind its n records
pub inserted_is : (l : List ℕ) (n i : ℕ) (r : Record) → Fits r → 8 * (n + 1) ≤ length l → rank (key r) (records l 0 n) ≡ i
    → records (inserted l i r) 0 (n + 1) ≡ insert r (records l 0 n)
inserted_is l n i r f g e =
    inserted-records l n i r f g (omega (arith, rank-length (key r) (records l 0 n), length-records l 0 n))
    ∙ rw (← e) (sym (insert-at r (records l 0 n)))

-- ---- a record taken out

pub length_removed : (l : List ℕ) (i : ℕ) → length (removed l i) ≡ length l
unfolding removed down
length_removed l i = length_over (down l (8 * i)) (length l - 8) (replicate 8 0) ∙ length-down l (8 * i)

removed-low : (l : List ℕ) (i k : ℕ) → 8 * i + 8 ≤ length l → k < 8 * i → get_or (removed l i) k 0 ≡ get_or l k 0
unfolding removed
removed-low l i k g h = over-low (down l (8 * i)) (length l - 8) (replicate 8 0) k (omega arith) ∙ down-low l (8 * i) k h

removed_high : (l : List ℕ) (i k : ℕ) → 8 * i + 8 + k < length l → get_or (removed l i) (8 * i + k) 0 ≡ get_or l (8 * i + 8 + k) 0
unfolding removed
removed_high l i k g = over-low (down l (8 * i)) (length l - 8) (replicate 8 0) (8 * i + k) (omega arith) ∙ down_in l (8 * i) k (omega arith)

-- the freed cell is zero
pub removed_last : (l : List ℕ) (i n : ℕ) → length l ≡ 8 * (n + 1) → part (removed l i) (8 * n) 8 ≡ replicate 8 0
unfolding removed down
removed_last l i n g =
    let e : length l - 8 ≡ 8 * n = omega arith in
    let d : List ℕ = down l (8 * i) in
    let f : length d ≡ length l = length-down l (8 * i) in
    rw e (part-over d (8 * n) (replicate 8 0) (omega arith))

removed-records : (l : List ℕ) (n i : ℕ) → length l ≡ 8 * (n + 1) → i ≤ n → records (removed l i) 0 n ≡ take i (records l 0 (n + 1)) ++ drop (suc i) (records l 0 (n + 1))
removed-records l n i g h =
    let s : List ℕ = removed l i in
    let low : records s 0 i ≡ records l 0 i = records_same l s 0 0 i (λ k q. removed-low l i (0 + k) (omega arith) (omega arith)) in
    let high : records s (8 * i) (n - i) ≡ records l (8 * i + 8) (n - i) = records_same l s (8 * i + 8) (8 * i) (n - i) (λ k q. removed_high l i k (omega arith)) in
    let e : n + 1 - suc i ≡ n - i = omega arith in
    let z : 0 + 8 * i ≡ 8 * i = omega arith in
    let y : 0 + 8 * suc i ≡ 8 * i + 8 = omega arith in
    records_split s 0 i n h ∙ rw (z, low, high, take-records l 0 (n + 1) i (omega arith), drop-records l 0 (n + 1) (suc i) (omega arith), e, y)

pub removed_is : (l : List ℕ) (n i k : ℕ) → length l ≡ 8 * (n + 1) → rising (records l 0 (n + 1)) ≡ true → held (look k (records l 0 (n + 1))) ≡ true
    → rank k (records l 0 (n + 1)) ≡ i → i ≤ n → records (removed l i) 0 n ≡ remove k (records l 0 (n + 1))
removed_is l n i k g e h q o = removed-records l n i g o ∙ rw (← q) (sym (remove-at 0 k (records l 0 (n + 1)) e h))

-- ---- minutes set

pub length-amended : (l : List ℕ) (i m : ℕ) → length (amended l i m) ≡ length l
unfolding amended
length-amended l i m = length-set l (8 * i + 7) m

amended-other : (l : List ℕ) (i m k : ℕ) → (k ≡ 8 * i + 7 → ⊥) → get_or (amended l i m) k 0 ≡ get_or l k 0
unfolding amended
amended-other l i m k e = get_or-set_other l (8 * i + 7) k m 0 e

amended_minutes : (l : List ℕ) (i m : ℕ) → 8 * i + 8 ≤ length l → get_or (amended l i m) (8 * i + 7) 0 ≡ m
unfolding amended
amended_minutes l i m g = get_or-set_same l (8 * i + 7) m 0 (omega arith)

amended_here : (l : List ℕ) (i m : ℕ) → 8 * i + 8 ≤ length l → record_at (amended l i m) (8 * i) ≡ lasting (record_at l (8 * i)) m
unfolding record_at get32 get16
amended_here l i m g =
    let o : (k : ℕ) → k < 8 * i + 7 → get_or (amended l i m) k 0 ≡ get_or l k 0 = λ k h. amended-other l i m k (λ e. absurd (omega arith)) in
    rw (o (8 * i) (omega arith), o (8 * i + 1) (omega arith), o (8 * i + 1 + 1) (omega arith), o (8 * i + 1 + 2) (omega arith), o (8 * i + 1 + 3) (omega arith), o (8 * i + 5) (omega arith), o (8 * i + 5 + 1) (omega arith), amended_minutes l i m g)

amended-records : (l : List ℕ) (n i m : ℕ) → 8 * n ≤ length l → i < n → records (amended l i m) 0 n ≡ set (records l 0 n) i (lasting (get_or (records l 0 n) i (record_at l 0)) m)
amended-records l n i m g h =
    let s : List ℕ = amended l i m in
    let r : Record = get_or (records l 0 n) i (record_at l 0) in
    let low : records s 0 i ≡ records l 0 i = records_same l s 0 0 i (λ k q. amended-other l i m (0 + k) (λ e. absurd (omega arith))) in
    let high : records s (8 * i + 8) (n - suc i) ≡ records l (8 * i + 8) (n - suc i) = records_same l s (8 * i + 8) (8 * i + 8) (n - suc i) (λ k q. amended-other l i m (8 * i + 8 + k) (λ e. absurd (omega arith))) in
    let here : record_at s (8 * i) ≡ lasting r m = amended_here l i m (omega arith) ∙ ap (λ (x : Record). lasting x m) (sym (records-at l 0 n i (record_at l 0) h ∙ ap (record_at l) (omega arith))) in
    let e : n - i ≡ suc (n - suc i) = omega arith in
    let z : 0 + 8 * i ≡ 8 * i = omega arith in
    let y : 0 + 8 * suc i ≡ 8 * i + 8 = omega arith in
    records_split s 0 i n (omega arith)
    ∙ rw (z, e, records_more s (8 * i) (n - suc i), low, high, here, ← take-records l 0 n i (omega arith), ← y, ← drop-records l 0 n (suc i) h) (sym (set_split (records l 0 n) i (lasting r m) (rw length-records h)))

pub amended_is : (l : List ℕ) (n i k m : ℕ) → 8 * n ≤ length l → rising (records l 0 n) ≡ true → held (look k (records l 0 n)) ≡ true
    → rank k (records l 0 n) ≡ i → i < n → records (amended l i m) 0 n ≡ amend k m (records l 0 n)
amended_is l n i k m g e h q o = amended-records l n i m g o ∙ rw (← q) (sym (amend-at 0 k m (records l 0 n) (record_at l 0) e h))
