-- Parts of bytes joined, and numbers read and written back.
use Rattle.std.specs.Prelude.{◌≡◌, List, [], ◌∷◌, ◌++◌, ℕ, zero, suc, ◌+◌, ◌≤◌, ◌<◌, length, take, drop, get_or, replicate}
use Rattle.std.proofs.Common.{sym, ap, ◌∙◌, arith, take-append-drop, get_or-drop, drop-drop, drop_at, take_at, drop-cons, ext_get_or}
use Rattle.std.proofs.lemmas.List.{length-replicate, get_or-replicate}
use Rattle.wire.specs.Bytes.{part, over, get16, get32, bytes16, bytes32, Bytes}
use Rattle.wire.specs.BytesLaws.{length_part, part_at, get16-over, get32-over, digits16, digits32}
use Rattle.wire.specs.All.{All, none, more}
use Rattle.records.specs.Records.{Fits, records}
use Rattle.records.specs.Cells.{records-none, records_more}
use Rattle.records.specs.Edits.{record_fits}

pub part-zeros : (n i m : ℕ) → i + m ≤ n → part (replicate n 0) i m ≡ replicate m 0
part-zeros n i m h =
    let e : length (part (replicate n 0) i m) ≡ m = length_part (replicate n 0) i m (omega (arith, length-replicate {A = ℕ} n 0)) in
    ext_get_or 0 (part (replicate n 0) i m) (replicate m 0) (e ∙ sym (length-replicate m 0))
    (λ k b. part_at (replicate n 0) i m k (omega arith) ∙ get_or-replicate n (i + k) 0 0 (omega arith) ∙ sym (get_or-replicate m k 0 0 (omega arith)))

-- a part of joined bytes
pub part_join : (i n : ℕ) (p q r : List ℕ) → length p ≡ i → length q ≡ n → part (p ++ (q ++ r)) i n ≡ q
unfolding part
part_join i n p q r a b = ap (take n) (drop_at p (q ++ r) i a) ∙ take_at q r n b

-- a part, and what lies behind it
pub chop : (i n : ℕ) (l : List ℕ) → drop i l ≡ part l i n ++ drop (i + n) l
unfolding part
chop i n l = sym (take-append-drop n (drop i l)) ∙ ap (λ (r : List ℕ). take n (drop i l) ++ r) (drop-drop n i l)

-- ---- numbers

pub get16-drop : (l : List ℕ) (k at : ℕ) → get16 (drop k l) at ≡ get16 l (k + at)
unfolding get16
get16-drop l k at = let e : k + (at + 1) ≡ k + at + 1 = omega arith in rw (get_or-drop k l at 0, get_or-drop k l (at + 1) 0, e)

pub get32-drop : (l : List ℕ) (k at : ℕ) → get32 (drop k l) at ≡ get32 l (k + at)
unfolding get32
get32-drop l k at =
    let e1 : k + (at + 1) ≡ k + at + 1 = omega arith in
    let e2 : k + (at + 2) ≡ k + at + 2 = omega arith in
    let e3 : k + (at + 3) ≡ k + at + 3 = omega arith in
    rw (get_or-drop k l at 0, get_or-drop k l (at + 1) 0, get_or-drop k l (at + 2) 0, get_or-drop k l (at + 3) 0, e1, e2, e3)

-- written, then read
pub get16-front : (v : ℕ) (l : List ℕ) → v < 65536 → get16 (bytes16 v ++ l) 0 ≡ v
unfolding get16 bytes16 over
get16-front v l b = get16-over (0 ∷ 0 ∷ []) 0 v (omega arith) b

pub get32-front : (v : ℕ) (l : List ℕ) → v < 4294967296 → get32 (bytes32 v ++ l) 0 ≡ v
unfolding get32 bytes32 over
get32-front v l b = get32-over (0 ∷ 0 ∷ 0 ∷ 0 ∷ []) 0 v (omega arith) b

-- what is read of bytes is in range
pub get32-small : (l : List ℕ) (at : ℕ) → Bytes l → get32 l at < 4294967296
unfolding get32
get32-small l at b = omega (arith, b at, b (at + 1), b (at + 2), b (at + 3))

pub records_fit : (h : List ℕ) (at n : ℕ) → Bytes h → All Fits (records h at n)
records_fit h at zero b = rw records-none none
records_fit h at (suc n) b = rw (records_more h at n) (more (record_fits h at b) (records_fit h (at + 8) n b))

-- read, then written
pub cons-at : (l : List ℕ) (at k : ℕ) → at < length l → suc at ≡ k → drop at l ≡ get_or l at 0 ∷ drop k l
cons-at l at k h e = rw (← e) (drop-cons l at 0 h)

pub bytes16_read : (l : List ℕ) (at : ℕ) → Bytes l → at + 2 ≤ length l → bytes16 (get16 l at) ≡ part l at 2
unfolding get16 part
bytes16_read l at b h =
    digits16 (get_or l at 0) (get_or l (at + 1) 0) (b at) (b (at + 1))
    ∙ sym (ap (take 2) (cons-at l at (at + 1) (omega arith) (omega arith) ∙ ap (λ (r : List ℕ). get_or l at 0 ∷ r) (cons-at l (at + 1) (at + 2) (omega arith) (omega arith))))

pub bytes32_read : (l : List ℕ) (at : ℕ) → Bytes l → at + 4 ≤ length l → bytes32 (get32 l at) ≡ part l at 4
unfolding get32 part
bytes32_read l at b h =
    let a : ℕ = get_or l at 0 in
    let a1 : ℕ = get_or l (at + 1) 0 in
    let a2 : ℕ = get_or l (at + 2) 0 in
    digits32 a a1 a2 (get_or l (at + 3) 0) (b at) (b (at + 1)) (b (at + 2)) (b (at + 3))
    ∙ sym (ap (take 4) (cons-at l at (at + 1) (omega arith) (omega arith) ∙ ap (λ (r : List ℕ). a ∷ r)
    (cons-at l (at + 1) (at + 2) (omega arith) (omega arith) ∙ ap (λ (r : List ℕ). a1 ∷ r)
    (cons-at l (at + 2) (at + 3) (omega arith) (omega arith) ∙ ap (λ (r : List ℕ). a2 ∷ r)
    (cons-at l (at + 3) (at + 4) (omega arith) (omega arith))))))
