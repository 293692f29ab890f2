-- The edits of bytes leave the bytes of the edited list.
use Rattle.std.specs.Prelude.{◌≡◌, true, List, [], ◌∷◌, ◌++◌, ℕ, zero, suc, ◌+◌, ◌-◌, ◌*◌, ◌/◌, ◌%◌, ◌≤◌, ◌<◌, length, set, replicate}
use Rattle.std.proofs.Common.{sym, ap, ap₂, ◌∙◌, arith, length-take, take_all}
use Rattle.std.proofs.Math.ListN.{get_or-eq_default}
use Rattle.wire.specs.Bytes.{part, over, bytes16, bytes32, Bytes}
use Rattle.wire.specs.Cases.{by_lt}
use Rattle.wire.specs.BytesLaws.{part_at, part-add}
use Rattle.records.specs.declared.Record.{Record}
use Rattle.records.specs.Records.{Fits, key, rising, look, held, rank, insert, remove, amend, bytes_of, encode, records, up, down, inserted, removed, amended}
use Rattle.records.specs.Edits.{encode-records, length_inserted, inserted_is, length_removed, removed_is, removed_last, length-amended, amended_is}

-- ---- bytes stay bytes

bytes_nil : Bytes []
bytes_nil i = omega arith

bytes_cons : (x : ℕ) (l : List ℕ) → x < 256 → Bytes l → Bytes (x ∷ l)
bytes_cons x l g b zero = g
bytes_cons x l g b (suc i) = b i

bytes_zeros : (n : ℕ) → Bytes (replicate n 0)
bytes_zeros zero = bytes_nil
bytes_zeros (suc n) = bytes_cons 0 (replicate n 0) (omega arith) (bytes_zeros n)

bytes_over : (l : List ℕ) (at : ℕ) (bs : List ℕ) → Bytes l → Bytes bs → Bytes (over l at bs)
unfolding over
bytes_over [] at bs b d = bytes_nil
bytes_over (x ∷ l) zero [] b d = b
bytes_over (x ∷ l) zero (y ∷ bs) b d = bytes_cons y (over l zero bs) (d 0) (bytes_over l zero bs (λ i. b (suc i)) (λ i. d (suc i)))
bytes_over (x ∷ l) (suc at) bs b d = bytes_cons x (over l at bs) (b 0) (bytes_over l at bs (λ i. b (suc i)) d)

bytes_set : (l : List ℕ) (i v : ℕ) → Bytes l → v < 256 → Bytes (set l i v)
bytes_set [] i v b g = bytes_nil
bytes_set (x ∷ l) zero v b g = bytes_cons v l g (λ i. b (suc i))
bytes_set (x ∷ l) (suc i) v b g = bytes_cons x (set l i v) (b 0) (bytes_set l i v (λ i. b (suc i)) g)

bytes_part : (l : List ℕ) (at n : ℕ) → Bytes l → Bytes (part l at n)
unfolding part
bytes_part l at n b i =
    by_lt i n
    (λ g. rw (part_at l at n i g) (b (at + i)))
    (λ g. rw (get_or-eq_default (part l at n) 0 {n = i} (simp length-take (omega arith))) (omega arith))

digit : (v : ℕ) → v % 256 < 256
digit v = omega arith

bytes_bytes_of : (r : Record) → Fits r → Bytes (bytes_of r)
unfolding bytes_of bytes32 bytes16
bytes_bytes_of r f zero = f.level
bytes_bytes_of r f (suc zero) = digit (r.second / 16777216)
bytes_bytes_of r f (suc (suc zero)) = digit (r.second / 65536)
bytes_bytes_of r f (suc (suc (suc zero))) = digit (r.second / 256)
bytes_bytes_of r f (suc (suc (suc (suc zero)))) = digit r.second
bytes_bytes_of r f (suc (suc (suc (suc (suc zero))))) = digit (r.phone / 256)
bytes_bytes_of r f (suc (suc (suc (suc (suc (suc zero)))))) = digit r.phone
bytes_bytes_of r f (suc (suc (suc (suc (suc (suc (suc zero))))))) = f.minutes
bytes_bytes_of r f (suc (suc (suc (suc (suc (suc (suc (suc i)))))))) = omega arith

bytes_inserted : (l : List ℕ) (i : ℕ) (r : Record) → Bytes l → Fits r → Bytes (inserted l i r)
unfolding inserted up
bytes_inserted l i r b f = bytes_over (up l (8 * i)) (8 * i) (bytes_of r) (bytes_over l (8 * i + 8) (part l (8 * i) (length l - (8 * i + 8))) b (bytes_part l (8 * i) (length l - (8 * i + 8)) b)) (bytes_bytes_of r f)

bytes_removed : (l : List ℕ) (i : ℕ) → Bytes l → Bytes (removed l i)
unfolding removed down
bytes_removed l i b = bytes_over (down l (8 * i)) (length l - 8) (replicate 8 0) (bytes_over l (8 * i) (part l (8 * i + 8) (length l - (8 * i + 8))) b (bytes_part l (8 * i + 8) (length l - (8 * i + 8)) b)) (bytes_zeros 8)

bytes_amended : (l : List ℕ) (i m : ℕ) → Bytes l → m < 256 → Bytes (amended l i m)
unfolding amended
bytes_amended l i m b g = bytes_set l (8 * i + 7) m b g

-- ---- the whole bytes

whole : (l : List ℕ) (n : ℕ) → length l ≡ 8 * n → part l 0 (8 * n) ≡ l
unfolding part
whole l n g = take_all (8 * n) l (omega arith)

pub inserted-encode : (l : List ℕ) (n i : ℕ) (r : Record) → Bytes l → Fits r → length l ≡ 8 * (n + 1) → rank (key r) (records l 0 n) ≡ i
    → inserted l i r ≡ encode (insert r (records l 0 n))
inserted-encode l n i r b f g e =
    let h = length_inserted l i r in
    sym (whole (inserted l i r) (n + 1) (omega arith))
    ∙ sym (encode-records (inserted l i r) 0 (n + 1) (bytes_inserted l i r b f) (omega arith))
    ∙ ap encode (inserted_is l n i r f (omega arith) e)

pub removed-encode : (l : List ℕ) (n i k : ℕ) → Bytes l → length l ≡ 8 * (n + 1) → rising (records l 0 (n + 1)) ≡ true → held (look k (records l 0 (n + 1))) ≡ true
    → rank k (records l 0 (n + 1)) ≡ i → i ≤ n → removed l i ≡ encode (remove k (records l 0 (n + 1))) ++ replicate 8 0
removed-encode l n i k b g e h q o =
    let d = length_removed l i in
    let p : 8 * (n + 1) ≡ 8 * n + 8 = omega arith in
    sym (whole (removed l i) (n + 1) (omega arith))
    ∙ ap (part (removed l i) 0) p
    ∙ part-add (removed l i) 0 (8 * n) 8
    ∙ ap₂ (λ (x y : List ℕ). x ++ y)
    (sym (encode-records (removed l i) 0 n (bytes_removed l i b) (omega arith)) ∙ ap encode (removed_is l n i k g e h q o))
    (ap (λ (at : ℕ). part (removed l i) at 8) (omega arith) ∙ removed_last l i n g)

pub amended-encode : (l : List ℕ) (n i k m : ℕ) → Bytes l → m < 256 → length l ≡ 8 * n → rising (records l 0 n) ≡ true → held (look k (records l 0 n)) ≡ true
    → rank k (records l 0 n) ≡ i → i < n → amended l i m ≡ encode (amend k m (records l 0 n))
amended-encode l n i k m b s g e h q o =
    let d = length-amended l i m in
    sym (whole (amended l i m) n (omega arith))
    ∙ sym (encode-records (amended l i m) 0 n (bytes_amended l i m b s) (omega arith))
    ∙ ap encode (amended_is l n i k m (omega arith) e h q o)
