-- Laws of runs of bytes and their numbers, most of them byte by byte.
use Rattle.std.specs.Prelude.{◌≡◌, refl, ◌⊎◌, Bool, true, false, ◌&&◌, ℕ, zero, suc, ◌+◌, ◌-◌, ◌*◌, ◌/◌, ◌%◌, ◌≤◌, ◌<◌, min, List, [], ◌∷◌, ◌++◌, length, take, drop, set, get_or, replicate, eqb}
use Rattle.std.proofs.Common.{sym, ap, ap₂, ◌∙◌, inl, inr, arith, add-zero, le_of_suc-le-suc, div-add-mod', add-one, append_assoc, append-nil, length-append, length-take, length-drop, drop_of_length-le, take-append-drop, get_or-take, get_or-drop, ext_get_or, drop-cons, drop-drop, take-add, take-suc, drop_at, length-take-le, eq-eqb, ne_eqb, eqb-true}
use Rattle.std.proofs.Math.Bool.{and_assoc}
use Rattle.std.proofs.Math.Nat.{div-div-eq-div-mul}
use Rattle.std.proofs.lemmas.List.{length-replicate, replicate-append-replicate, take-replicate as take_of-replicate}
use Rattle.std.proofs.lemmas.List.Edits.{sets, sets-eq}
use Rattle.std.specs.Int.Bits.{bit_or, or_add_and}
use Rattle.std.proofs.lemmas.Nat.{and_le_l, and_le_r}
use Rattle.wire.specs.Bytes.{zeros_but, part, over, get16, get32, bytes16, bytes32, equal, blank}
use Rattle.wire.specs.Cases.{by_test, by_eq, by_within, both, never, and_true, and_false}

-- ---- part

pub length_part : (l : List ℕ) (at n : ℕ) → at + n ≤ length l → length (part l at n) ≡ n
unfolding part
length_part l at n g = simp (length-take, length-drop) (omega arith)

pub length-zeros_but : (p v n : ℕ) → p < n → length (zeros_but p v n) ≡ n
unfolding zeros_but
length-zeros_but p v n g = simp (length-append, length-replicate) (omega arith)

pub part_at : (l : List ℕ) (at n i : ℕ) → i < n → get_or (part l at n) i 0 ≡ get_or l (at + i) 0
unfolding part
part_at l at n i g = rw (get_or-take, get_or-drop)

long_part : (l : List ℕ) (at n : ℕ) → length (part l at n) ≡ min n (length l - at)
unfolding part
long_part l at n = rw (length-take, length-drop)

-- a part as a slice's ends give it, and a part of what lies from h on
pub part_of : (l : List ℕ) (at n : ℕ) → take (at + n - at) (drop at l) ≡ part l at n
unfolding part
part_of l at n = let e : at + n - at ≡ n = omega arith in rw e

pub part-drop : (l : List ℕ) (h at n : ℕ) → part (drop h l) at n ≡ part l (h + at) n
unfolding part
part-drop l h at n = rw drop-drop

-- a part and what follows it
pub part-add : (l : List ℕ) (at m n : ℕ) → part l at (m + n) ≡ part l at m ++ part l (at + m) n
unfolding part
part-add l at m n = take-add m n (drop at l) ∙ ap (λ (x : List ℕ). take m (drop at l) ++ take n x) (drop-drop m at l)

-- no byte, its first byte, and its last
pub part_none : (l : List ℕ) (at : ℕ) → part l at 0 ≡ []
unfolding part
part_none l at = refl

pub part-cons : (l : List ℕ) (at n : ℕ) → at < length l → part l at (suc n) ≡ get_or l at 0 ∷ part l (suc at) n
unfolding part
part-cons l at n g = rw (drop-cons l at 0 g)

pub part_snoc : (l : List ℕ) (at n : ℕ) → at + n < length l → part l at (n + 1) ≡ part l at n ++ (get_or l (at + n) 0 ∷ [])
unfolding part
part_snoc l at n g = rw add-one (take-suc (drop at l) n 0 (rw length-drop (omega arith)) ∙ ap (λ (x : ℕ). take n (drop at l) ++ (x ∷ [])) (get_or-drop at l n 0))

-- a part depends on its own bytes only
pub part_same : (l l' : List ℕ) (at n : ℕ) → length l' ≡ length l → ((i : ℕ) → at ≤ i → i < at + n → get_or l' i 0 ≡ get_or l i 0)
    → part l' at n ≡ part l at n
part_same l l' at n e f =
    ext_get_or 0 (part l' at n) (part l at n) (omega (arith, long_part l' at n, long_part l at n))
    (λ i g. let h : i < n = omega (arith, long_part l' at n) in part_at l' at n i h ∙ f (at + i) (omega arith) (omega arith) ∙ sym (part_at l at n i h))

-- ---- over

pub length_over : (l : List ℕ) (at : ℕ) (bs : List ℕ) → length (over l at bs) ≡ length l
unfolding over
length_over [] at bs = refl
length_over (x ∷ l) zero [] = refl
length_over (x ∷ l) zero (b ∷ bs) = ap suc (length_over l zero bs)
length_over (x ∷ l) (suc at) bs = ap suc (length_over l at bs)

pub over-low : (l : List ℕ) (at : ℕ) (bs : List ℕ) (i : ℕ) → i < at → get_or (over l at bs) i 0 ≡ get_or l i 0
unfolding over
over-low [] at bs i g = refl
over-low (x ∷ l) zero bs i g = absurd (omega arith)
over-low (x ∷ l) (suc at) bs zero g = refl
over-low (x ∷ l) (suc at) bs (suc i) g = over-low l at bs i (le_of_suc-le-suc g)

pub over_in : (l : List ℕ) (at : ℕ) (bs : List ℕ) (i : ℕ) → i < length bs → at + i < length l → get_or (over l at bs) (at + i) 0 ≡ get_or bs i 0
unfolding over
over_in [] at bs i g h = absurd (omega arith)
over_in (x ∷ l) zero [] i g h = absurd (omega arith)
over_in (x ∷ l) zero (b ∷ bs) zero g h = refl
over_in (x ∷ l) zero (b ∷ bs) (suc i) g h =
    let e : zero + suc i ≡ suc (zero + i) = omega arith in rw e (over_in l zero bs i (le_of_suc-le-suc g) (omega arith))
over_in (x ∷ l) (suc at) bs i g h = let e : suc at + i ≡ suc (at + i) = omega arith in rw e (over_in l at bs i g (omega arith))

pub over_high : (l : List ℕ) (at : ℕ) (bs : List ℕ) (i : ℕ) → at + length bs ≤ i → get_or (over l at bs) i 0 ≡ get_or l i 0
unfolding over
over_high [] at bs i g = refl
over_high (x ∷ l) zero [] i g = refl
over_high (x ∷ l) zero (b ∷ bs) zero g = absurd (omega arith)
over_high (x ∷ l) zero (b ∷ bs) (suc i) g = over_high l zero bs i (omega arith)
over_high (x ∷ l) (suc at) bs zero g = absurd (omega arith)
over_high (x ∷ l) (suc at) bs (suc i) g = over_high l at bs i (omega arith)

pub over-at : (l : List ℕ) (at : ℕ) (bs : List ℕ) (i : ℕ) → at ≤ i → i < at + length bs → i < length l → get_or (over l at bs) i 0 ≡ get_or bs (i - at) 0
over-at l at bs i a b c = let e : at + (i - at) ≡ i = omega arith in ap (λ (k : ℕ). get_or (over l at bs) k 0) (sym e) ∙ over_in l at bs (i - at) (omega arith) (omega arith)

pub over-nil : (l : List ℕ) (at : ℕ) → over l at [] ≡ l
unfolding over
over-nil [] at = refl
over-nil (x ∷ l) zero = refl
over-nil (x ∷ l) (suc at) = ap (◌∷◌ x) (over-nil l at)

-- one byte stored at the start
pub over-cons : (l : List ℕ) (at b : ℕ) (bs : List ℕ) → over (set l at b) (suc at) bs ≡ over l at (b ∷ bs)
unfolding over
over-cons [] at b bs = refl
over-cons (x ∷ l) zero b bs = refl
over-cons (x ∷ l) (suc at) b bs = ap (◌∷◌ x) (over-cons l at b bs)

-- one byte stored
pub set-over : (l : List ℕ) (i m : ℕ) → set l i m ≡ over l i (m ∷ [])
set-over l i m = sym (over-nil (set l i m) (suc i)) ∙ over-cons l i m []

-- one byte stored before
pub over-before : (l : List ℕ) (at b : ℕ) (bs : List ℕ) → set (over l (suc at) bs) at b ≡ over l at (b ∷ bs)
unfolding over
over-before [] at b bs = refl
over-before (x ∷ l) zero b bs = refl
over-before (x ∷ l) (suc at) b bs = ap (◌∷◌ x) (over-before l at b bs)

-- one byte stored at the end
pub over_snoc : (l : List ℕ) (at : ℕ) (bs : List ℕ) (b : ℕ) → set (over l at bs) (at + length bs) b ≡ over l at (bs ++ (b ∷ []))
unfolding over
over_snoc [] at bs b = refl
over_snoc (x ∷ l) zero [] b = ap (◌∷◌ b) (sym (over-nil l zero))
over_snoc (x ∷ l) zero (c ∷ bs) b = let e : zero + suc (length bs) ≡ suc (zero + length bs) = omega arith in rw e (ap (◌∷◌ c) (over_snoc l zero bs b))
over_snoc (x ∷ l) (suc at) bs b = let e : suc at + length bs ≡ suc (at + length bs) = omega arith in rw e (ap (◌∷◌ x) (over_snoc l at bs b))

-- bytes written behind bytes
pub over-append : (l : List ℕ) (at : ℕ) (bs cs : List ℕ) → over (over l at bs) (at + length bs) cs ≡ over l at (bs ++ cs)
unfolding over
over-append [] at bs cs = refl
over-append (x ∷ l) zero [] cs = refl
over-append (x ∷ l) zero (b ∷ bs) cs = let e : zero + suc (length bs) ≡ suc (zero + length bs) = omega arith in rw e (ap (◌∷◌ b) (over-append l zero bs cs))
over-append (x ∷ l) (suc at) bs cs = let e : suc at + length bs ≡ suc (at + length bs) = omega arith in rw e (ap (◌∷◌ x) (over-append l at bs cs))

pub over-next : (l : List ℕ) (at k : ℕ) (bs cs : List ℕ) → k ≡ at + length bs → over (over l at bs) k cs ≡ over l at (bs ++ cs)
over-next l at k bs cs e = ap (λ (j : ℕ). over (over l at bs) j cs) e ∙ over-append l at bs cs

-- stores one after the other
pub over_sets : (l : List ℕ) (at : ℕ) (bs : List ℕ) → sets l at bs ≡ over l at bs
over_sets l at [] = sym (over-nil l at)
over_sets l at (b ∷ bs) = over_sets (set l at b) (suc at) bs ∙ over-cons l at b bs

-- what stands before, the bytes, and what stands behind
pub over_is : (l : List ℕ) (at : ℕ) (bs : List ℕ) → at + length bs ≤ length l → over l at bs ≡ take at l ++ (bs ++ drop (at + length bs) l)
over_is l at bs g = sym (over_sets l at bs) ∙ sets-eq bs l at g ∙ append_assoc (take at l) bs (drop (at + length bs) l)

pub over_whole : (l bs : List ℕ) → length bs ≡ length l → over l 0 bs ≡ bs
over_whole l bs e =
    over_is l 0 bs (omega arith) ∙ ap (λ (z : List ℕ). bs ++ z) (drop_of_length-le l {i = 0 + length bs} (omega arith)) ∙ append-nil bs

-- bytes written in a part are written in the whole
over-front : (k : ℕ) (l bs : List ℕ) → length bs ≤ k → k ≤ length l → over (take k l) 0 bs ++ drop k l ≡ over l 0 bs
unfolding over
over-front zero l [] g h = sym (over-nil l 0)
over-front zero l (b ∷ bs) g h = absurd (omega arith)
over-front (suc k) [] bs g h = absurd (omega arith)
over-front (suc k) (x ∷ l) [] g h = ap (◌∷◌ x) (take-append-drop k l)
over-front (suc k) (x ∷ l) (b ∷ bs) g h = ap (◌∷◌ b) (over-front k l bs (omega arith) (omega arith))

pub over-part : (at k : ℕ) (l bs : List ℕ) → length bs ≤ k → at + k ≤ length l → take at l ++ (over (take k (drop at l)) 0 bs ++ drop k (drop at l)) ≡ over l at bs
unfolding over
over-part zero k l bs g h = over-front k l bs g (omega arith)
over-part (suc at) k [] bs g h = absurd (omega arith)
over-part (suc at) k (x ∷ l) bs g h = ap (◌∷◌ x) (over-part at k l bs g (omega arith))

-- the bytes read back
pub part-over : (l : List ℕ) (at : ℕ) (bs : List ℕ) → at + length bs ≤ length l → part (over l at bs) at (length bs) ≡ bs
part-over l at bs g =
    let e : length (part (over l at bs) at (length bs)) ≡ length bs = length_part (over l at bs) at (length bs) (rw length_over g) in
    ext_get_or 0 (part (over l at bs) at (length bs)) bs e
    (λ i h. let k : i < length bs = omega arith in part_at (over l at bs) at (length bs) i k ∙ over_in l at bs i k (omega arith))

-- ---- over: twice, or read elsewhere

-- the parts of n bytes from i on and of m from j on have no byte in common
abbrev pub Clear : ℕ → ℕ → ℕ → ℕ → Type 0
Clear i n j m = (i + n ≤ j) ⊎ (j + m ≤ i)

-- a part where nothing was written
pub part_else : (l : List ℕ) (i : ℕ) (v : List ℕ) (j m : ℕ) → Clear i (length v) j m → part (over l i v) j m ≡ part l j m
part_else l i v j m (inl d) = part_same l (over l i v) j m (length_over l i v) (λ k lo hi. over_high l i v k (omega arith))
part_else l i v j m (inr d) = part_same l (over l i v) j m (length_over l i v) (λ k lo hi. over-low l i v k (omega arith))

byte_else : (l : List ℕ) (i : ℕ) (v : List ℕ) (k : ℕ) → Clear i (length v) k 1 → get_or (over l i v) k 0 ≡ get_or l k 0
byte_else l i v k (inl g) = over_high l i v k g
byte_else l i v k (inr g) = over-low l i v k (omega arith)

-- the same place written again
pub over_again : (l : List ℕ) (i : ℕ) (v w : List ℕ) → length v ≡ length w → i + length v ≤ length l → over (over l i w) i v ≡ over l i v
over_again l i v w e b =
    ext_get_or 0 (over (over l i w) i v) (over l i v) (length_over (over l i w) i v ∙ length_over l i w ∙ sym (length_over l i v))
    (λ k g. let lk : k < length l = omega (arith, length_over (over l i w) i v, length_over l i w) in
    by_within i (length v) k
    (λ a. over-low (over l i w) i v k a ∙ over-low l i w k a ∙ sym (over-low l i v k a))
    (λ a c. over-at (over l i w) i v k a c (omega (arith, length_over l i w)) ∙ sym (over-at l i v k a c lk))
    (λ a. over_high (over l i w) i v k a ∙ over_high l i w k (omega arith) ∙ sym (over_high l i v k a)))

-- what stands there written again
pub over_same : (l : List ℕ) (i : ℕ) (v : List ℕ) → i + length v ≤ length l → part l i (length v) ≡ v → over l i v ≡ l
over_same l i v b e =
    ext_get_or 0 (over l i v) l (length_over l i v)
    (λ k g. by_within i (length v) k
    (λ a. over-low l i v k a)
    (λ a c. over-at l i v k a c (omega (arith, length_over l i v)) ∙ ap (λ (x : List ℕ). get_or x (k - i) 0) (sym e) ∙ part_at l i (length v) (k - i) (omega arith) ∙ ap (λ (j : ℕ). get_or l j 0) (omega arith))
    (λ a. over_high l i v k a))

over_apart : (l : List ℕ) (i : ℕ) (v : List ℕ) (j : ℕ) (w : List ℕ) → i + length v ≤ j → over (over l j w) i v ≡ over (over l i v) j w
over_apart l i v j w d =
    ext_get_or 0 (over (over l j w) i v) (over (over l i v) j w) (length_over (over l j w) i v ∙ length_over l j w ∙ sym (length_over (over l i v) j w ∙ length_over l i v))
    (λ k h. let g : k < length l = omega (arith, length_over (over l j w) i v, length_over l j w) in
    by_within i (length v) k
    (λ e. over-low (over l j w) i v k e ∙ over-low l j w k (omega arith) ∙ sym (over-low (over l i v) j w k (omega arith) ∙ over-low l i v k e))
    (λ e f. over-at (over l j w) i v k e f (omega (arith, length_over l j w)) ∙ sym (over-low (over l i v) j w k (omega arith) ∙ over-at l i v k e f g))
    (λ e. over_high (over l j w) i v k e ∙ by_within j (length w) k
    (λ x. over-low l j w k x ∙ sym (over-low (over l i v) j w k x ∙ over_high l i v k e))
    (λ x y. over-at l j w k x y g ∙ sym (over-at (over l i v) j w k x y (omega (arith, length_over l i v))))
    (λ x. over_high l j w k x ∙ sym (over_high (over l i v) j w k x ∙ over_high l i v k e))))

-- in either order
pub over_comm : (l : List ℕ) (i : ℕ) (v : List ℕ) (j : ℕ) (w : List ℕ) → Clear i (length v) j (length w) → over (over l j w) i v ≡ over (over l i v) j w
over_comm l i v j w (inl d) = over_apart l i v j w d
over_comm l i v j w (inr d) = sym (over_apart l j w i v d)

-- ---- over and part: of two runs joined

pub over-behind : (p q : List ℕ) (i k : ℕ) (bs : List ℕ) → length p ≡ i → over (p ++ q) (i + k) bs ≡ p ++ over q k bs
unfolding over
over-behind [] q i k bs e = let a : i + k ≡ k = omega arith in rw a
over-behind (x ∷ p) q zero k bs e = absurd (omega arith)
over-behind (x ∷ p) q (suc i) k bs e = let a : suc i + k ≡ suc (i + k) = omega arith in rw a (ap (◌∷◌ x) (over-behind p q i k bs (omega arith)))

pub over-ahead : (p q : List ℕ) (k : ℕ) (bs : List ℕ) → k + length bs ≤ length p → over (p ++ q) k bs ≡ over p k bs ++ q
unfolding over
over-ahead [] q k [] g = over-nil q k
over-ahead [] q k (b ∷ bs) g = absurd (omega arith)
over-ahead (x ∷ p) q zero [] g = refl
over-ahead (x ∷ p) q zero (b ∷ bs) g = ap (◌∷◌ b) (over-ahead p q zero bs (omega arith))
over-ahead (x ∷ p) q (suc k) bs g = ap (◌∷◌ x) (over-ahead p q k bs (omega arith))

pub part-behind : (p q : List ℕ) (i k n : ℕ) → length p ≡ i → part (p ++ q) (i + k) n ≡ part q k n
part-behind p q i k n e = sym (part-drop (p ++ q) i k n) ∙ ap (λ (x : List ℕ). part x k n) (drop_at p q i e)

pub part-ahead : (p q : List ℕ) (k n : ℕ) → k + n ≤ length p → part (p ++ q) k n ≡ part p k n
unfolding part
part-ahead p q k zero g = refl
part-ahead [] q k (suc n) g = absurd (omega arith)
part-ahead (x ∷ p) q zero (suc n) g = ap (◌∷◌ x) (part-ahead p q zero n (omega arith))
part-ahead (x ∷ p) q (suc k) (suc n) g = part-ahead p q k (suc n) (omega arith)

-- a run replaced by another of its length
pub over_seam : (p q r v : List ℕ) (i : ℕ) → length p ≡ i → length q ≡ length v → over (p ++ (q ++ r)) i v ≡ p ++ (v ++ r)
over_seam p q r v i a b =
    ap (λ (k : ℕ). over (p ++ (q ++ r)) k v) (sym (add-zero i)) ∙ over-behind p (q ++ r) i 0 v a
    ∙ ap (λ (x : List ℕ). p ++ x) (over-ahead q r 0 v (omega arith) ∙ ap (λ (x : List ℕ). x ++ r) (over_whole q v (sym b)))

-- ---- equal, blank

pub equal_refl : (xs : List ℕ) → equal xs xs ≡ true
unfolding equal
equal_refl [] = refl
equal_refl (x ∷ xs) = rw (eq-eqb x x refl, equal_refl xs)

pub equal_is : (xs ys : List ℕ) → equal xs ys ≡ true → xs ≡ ys
unfolding equal
equal_is [] [] e = refl
equal_is [] (y ∷ ys) e = never e
equal_is (x ∷ xs) [] e = never e
equal_is (x ∷ xs) (y ∷ ys) e =
    let a = both (eqb x y) (equal xs ys) e in
    ap₂ (λ (z : ℕ) (zs : List ℕ). z ∷ zs) (eqb-true x y a.0) (equal_is xs ys a.1)

pub blank-append : (xs ys : List ℕ) → blank (xs ++ ys) ≡ blank xs && blank ys
unfolding blank
blank-append [] ys = refl
blank-append (x ∷ xs) ys = ap (λ (b : Bool). eqb x 0 && b) (blank-append xs ys) ∙ sym (and_assoc (eqb x 0) (blank xs) (blank ys))

pub blank-zeros : (n : ℕ) → blank (replicate n 0) ≡ true
unfolding blank
blank-zeros zero = refl
blank-zeros (suc n) = blank-zeros n

pub blank_is : (xs : List ℕ) → blank xs ≡ true → xs ≡ replicate (length xs) 0
unfolding blank
blank_is [] e = refl
blank_is (x ∷ xs) e =
    let a = both (eqb x 0) (blank xs) e in
    ap₂ (λ (z : ℕ) (zs : List ℕ). z ∷ zs) (eqb-true x 0 a.0) (blank_is xs a.1)

-- ---- numbers

-- a number of 2 bytes depends on those alone
pub get16_same : (l l' : List ℕ) (at : ℕ) → get_or l' at 0 ≡ get_or l at 0 → get_or l' (at + 1) 0 ≡ get_or l (at + 1) 0 → get16 l' at ≡ get16 l at
unfolding get16
get16_same l l' at e f = rw (e, f)

pub length-bytes16 : (v : ℕ) → length (bytes16 v) ≡ 2
unfolding bytes16
length-bytes16 v = refl

pub length-bytes32 : (v : ℕ) → length (bytes32 v) ≡ 4
unfolding bytes32
length-bytes32 v = refl

-- a number where nothing is written
part_clear : (i n j m k l : ℕ) → Clear i n j m → j ≤ k → k + l ≤ j + m → Clear i n k l
part_clear i n j m k l (inl g) a b = inl (omega arith)
part_clear i n j m k l (inr g) a b = inr (omega arith)

pub get16_else : (l : List ℕ) (i : ℕ) (v : List ℕ) (j : ℕ) → Clear i (length v) j 2 → get16 (over l i v) j ≡ get16 l j
unfolding get16
get16_else l i v j g =
    let at : (k : ℕ) → j ≤ k → k < j + 2 → get_or (over l i v) k 0 ≡ get_or l k 0 = λ k a b. byte_else l i v k (part_clear i (length v) j 2 k 1 g a (omega arith)) in
    rw (at j (omega arith) (omega arith), at (j + 1) (omega arith) (omega arith))

pub get32_else : (l : List ℕ) (i : ℕ) (v : List ℕ) (j : ℕ) → Clear i (length v) j 4 → get32 (over l i v) j ≡ get32 l j
unfolding get32
get32_else l i v j g =
    let at : (k : ℕ) → j ≤ k → k < j + 4 → get_or (over l i v) k 0 ≡ get_or l k 0 = λ k a b. byte_else l i v k (part_clear i (length v) j 4 k 1 g a (omega arith)) in
    rw (at j (omega arith) (omega arith), at (j + 1) (omega arith) (omega arith), at (j + 2) (omega arith) (omega arith), at (j + 3) (omega arith) (omega arith))

-- the bytes that it was read from
pub digits16 : (a b : ℕ) → a < 256 → b < 256 → bytes16 (a * 256 + b) ≡ a ∷ b ∷ []
unfolding bytes16
digits16 a b ha hb =
    let e : (a * 256 + b) / 256 % 256 ≡ a = omega arith in
    let f : (a * 256 + b) % 256 ≡ b = omega arith in
    rw (e, f)

pub digits32 : (a b c d : ℕ) → a < 256 → b < 256 → c < 256 → d < 256 → bytes32 (a * 16777216 + b * 65536 + c * 256 + d) ≡ a ∷ b ∷ c ∷ d ∷ []
unfolding bytes32
digits32 a b c d ha hb hc hd =
    let v : ℕ = a * 16777216 + b * 65536 + c * 256 + d in
    let e : v / 16777216 % 256 ≡ a = omega arith in
    let f : v / 65536 % 256 ≡ b = omega arith in
    let g : v / 256 % 256 ≡ c = omega arith in
    let h : v % 256 ≡ d = omega arith in
    rw (e, f, g, h)

-- the bytes of a number read back as it
pub get16-over : (l : List ℕ) (at v : ℕ) → at + 1 < length l → v < 65536 → get16 (over l at (bytes16 v)) at ≡ v
unfolding get16 bytes16
get16-over l at v g h =
    let bs : List ℕ = v / 256 % 256 ∷ v % 256 ∷ [] in
    let a : get_or (over l at bs) at 0 ≡ v / 256 % 256 = rw (add-zero at) at (over_in l at bs 0 (omega arith) (omega arith)) in
    let b : get_or (over l at bs) (at + 1) 0 ≡ v % 256 = over_in l at bs 1 (omega arith) (omega arith) in
    rw (a, b) (omega arith)

-- digits in base 256 put together
whole : (v : ℕ) → v < 4294967296 → v / 16777216 % 256 * 16777216 + v / 65536 % 256 * 65536 + v / 256 % 256 * 256 + v % 256 ≡ v
whole v small =
    let a : ℕ = v / 256 in
    let b : ℕ = a / 256 in
    let c : ℕ = b / 256 in
    let eb : v / 65536 ≡ b = sym (div-div-eq-div-mul v 256 256) in
    let ec : v / 16777216 ≡ c = sym (ap (λ (x : ℕ). x / 256) (div-div-eq-div-mul v 256 256) ∙ div-div-eq-div-mul v 65536 256) in
    rw (ec, eb) (sum v a b c (v % 256) (a % 256) (b % 256) (div-add-mod' v 256) (div-add-mod' a 256) (div-add-mod' b 256) small)
  where
    sum : (v a b c x y z : ℕ) → a * 256 + x ≡ v → b * 256 + y ≡ a → c * 256 + z ≡ b → v < 4294967296 → c % 256 * 16777216 + z * 65536 + y * 256 + x ≡ v
    sum v a b c x y z p q r s = let e : c % 256 ≡ c = omega arith in omega arith

pub get32-over : (l : List ℕ) (at v : ℕ) → at + 3 < length l → v < 4294967296 → get32 (over l at (bytes32 v)) at ≡ v
unfolding get32 bytes32
get32-over l at v g h =
    let bs : List ℕ = v / 16777216 % 256 ∷ v / 65536 % 256 ∷ v / 256 % 256 ∷ v % 256 ∷ [] in
    let a : get_or (over l at bs) at 0 ≡ v / 16777216 % 256 = rw (add-zero at) at (over_in l at bs 0 (omega arith) (omega arith)) in
    let b : get_or (over l at bs) (at + 1) 0 ≡ v / 65536 % 256 = over_in l at bs 1 (omega arith) (omega arith) in
    let c : get_or (over l at bs) (at + 2) 0 ≡ v / 256 % 256 = over_in l at bs 2 (omega arith) (omega arith) in
    let d : get_or (over l at bs) (at + 3) 0 ≡ v % 256 = over_in l at bs 3 (omega arith) (omega arith) in
    rw (a, b, c, d) (whole v h)

-- ---- one turn of a loop over the bytes

pub fill_more : (l : List ℕ) (at i b : ℕ) → set (over l at (replicate i b)) (at + i) b ≡ over l at (replicate (i + 1) b)
fill_more l at i b =
    ap (λ (k : ℕ). set (over l at (replicate i b)) (at + k) b) (sym (length-replicate i b))
    ∙ over_snoc l at (replicate i b) b
    ∙ ap (over l at) (replicate-append-replicate i 1 b)

pub take-replicate : (i n b : ℕ) → i ≤ n → take i (replicate n b) ≡ replicate i b
take-replicate i n b g = take_of-replicate i n b g

pub drop-zeros_but : (k p v n : ℕ) → drop k (zeros_but (k + p) v n) ≡ zeros_but p v (n - k)
unfolding zeros_but
drop-zeros_but k p v n =
    let e : n - suc (k + p) ≡ n - k - suc p = omega arith in
    ap (λ (l : List ℕ). drop k (l ++ (v ∷ replicate (n - suc (k + p)) 0))) (sym (replicate-append-replicate k p 0))
    ∙ ap (drop k) (append_assoc (replicate k 0) (replicate p 0) (v ∷ replicate (n - suc (k + p)) 0))
    ∙ drop_at (replicate k 0) (replicate p 0 ++ (v ∷ replicate (n - suc (k + p)) 0)) k (length-replicate k 0)
    ∙ ap (λ (m : ℕ). replicate p 0 ++ (v ∷ replicate m 0)) e

pub over-take : (l : List ℕ) (at : ℕ) (bs : List ℕ) (i : ℕ) → i < length bs → set (over l at (take i bs)) (at + i) (get_or bs i 0) ≡ over l at (take (i + 1) bs)
over-take l at bs i g =
    ap (λ (k : ℕ). set (over l at (take i bs)) (at + k) (get_or bs i 0)) (sym (length-take-le i bs (omega arith)))
    ∙ over_snoc l at (take i bs) (get_or bs i 0)
    ∙ rw add-one (ap (over l at) (sym (take-suc bs i 0 g)))

-- a run copied from its last byte down to a place behind it
pub copy_up_lem : (l : List ℕ) (from to n i : ℕ) → from < to → 0 < i → i ≤ n → to + n ≤ length l
    → set (over l (to + i) (part l (from + i) (n - i))) (to + (i - 1)) (get_or (over l (to + i) (part l (from + i) (n - i))) (from + (i - 1)) 0)
    ≡ over l (to + (i - 1)) (part l (from + (i - 1)) (n - (i - 1)))
copy_up_lem l from to n i a b c d =
    let t : to + i ≡ suc (to + (i - 1)) = omega arith in
    let f : from + i ≡ suc (from + (i - 1)) = omega arith in
    let k : n - (i - 1) ≡ suc (n - i) = omega arith in
    ap (set (over l (to + i) (part l (from + i) (n - i))) (to + (i - 1))) (over-low l (to + i) (part l (from + i) (n - i)) (from + (i - 1)) (omega arith))
    ∙ ap₂ (λ (x y : ℕ). set (over l x (part l y (n - i))) (to + (i - 1)) (get_or l (from + (i - 1)) 0)) t f
    ∙ over-before l (to + (i - 1)) (get_or l (from + (i - 1)) 0) (part l (suc (from + (i - 1))) (n - i))
    ∙ ap (over l (to + (i - 1))) (sym (ap (part l (from + (i - 1))) k ∙ part-cons l (from + (i - 1)) (n - i) (omega arith)))

-- and from its first byte up to a place before it
pub copy_down_lem : (l : List ℕ) (from to n i : ℕ) → to ≤ from → i < n → from + n ≤ length l
    → set (over l to (part l from i)) (to + i) (get_or (over l to (part l from i)) (from + i) 0) ≡ over l to (part l from (i + 1))
copy_down_lem l from to n i a b c =
    let long : length (part l from i) ≡ i = length_part l from i (omega arith) in
    ap (set (over l to (part l from i)) (to + i)) (over_high l to (part l from i) (from + i) (omega arith))
    ∙ ap (λ (k : ℕ). set (over l to (part l from i)) (to + k) (get_or l (from + i) 0)) (sym long)
    ∙ over_snoc l to (part l from i) (get_or l (from + i) 0)
    ∙ ap (over l to) (sym (part_snoc l from i (omega arith)))

pub equal_more : (ok : Bool) (x y : ℕ) (xs ys : List ℕ) → (ok && eqb x y) && equal xs ys ≡ ok && equal (x ∷ xs) (y ∷ ys)
unfolding equal
equal_more ok x y xs ys = and_assoc ok (eqb x y) (equal xs ys)

pub equal-nil : (ok : Bool) (xs ys : List ℕ) → length xs ≡ 0 → length ys ≡ 0 → ok && equal xs ys ≡ ok
unfolding equal
equal-nil ok [] [] e f = and_true ok
equal-nil ok [] (y ∷ ys) e f = absurd (omega arith)
equal-nil ok (x ∷ xs) ys e f = absurd (omega arith)

-- the same, by offsets
pub equal-step : (ok : Bool) (xs ys : List ℕ) (i : ℕ) → i < length xs → i < length ys
    → (ok && eqb (get_or xs i 0) (get_or ys i 0)) && equal (drop (i + 1) xs) (drop (i + 1) ys) ≡ ok && equal (drop i xs) (drop i ys)
unfolding equal
equal-step false xs ys i g h = refl
equal-step true xs ys i g h = rw (add-one, drop-cons xs i 0 g, drop-cons ys i 0 h)

pub equal_end : (ok : Bool) (xs ys : List ℕ) (i : ℕ) → length xs ≤ i → length xs ≡ length ys → ok && equal (drop i xs) (drop i ys) ≡ ok
unfolding equal
equal_end ok xs ys i g e = rw (drop_of_length-le xs {i = i} g, drop_of_length-le ys {i = i} (omega arith)) (and_true ok)

pub equal-length : (xs ys : List ℕ) → (length xs ≡ length ys → ⊥) → equal xs ys ≡ false
equal-length xs ys f = by_test (equal xs ys) (λ e. absurd (f (ap length (equal_is xs ys e)))) (λ e. e)

-- of two numbers in one, none has a digit where that has none
or-zero : (a b : ℕ) → eqb (bit_or a b) 0 ≡ eqb a 0 && eqb b 0
or-zero a b = by_eq a 0
    (λ e. by_eq b 0
    (λ f. rw (e, f))
    (λ f. ne_eqb (bit_or a b) 0 (λ o. f (omega (arith, or_add_and a b, and_le_l a b))) ∙ sym (rw (ne_eqb b 0 f) (and_false (eqb a 0)))))
    (λ e. ne_eqb (bit_or a b) 0 (λ o. e (omega (arith, or_add_and a b, and_le_r a b))) ∙ sym (rw (ne_eqb a 0 e)))

pub blank_step : (seen : ℕ) (xs : List ℕ) (i : ℕ) → i < length xs → eqb (bit_or seen (get_or xs i 0)) 0 && blank (drop (i + 1) xs) ≡ eqb seen 0 && blank (drop i xs)
unfolding blank
blank_step seen xs i g = rw (or-zero seen (get_or xs i 0), add-one, drop-cons xs i 0 g) (and_assoc (eqb seen 0) (eqb (get_or xs i 0) 0) (blank (drop (suc i) xs)))

pub blank_end : (ok : Bool) (xs : List ℕ) (i : ℕ) → length xs ≤ i → ok && blank (drop i xs) ≡ ok
unfolding blank
blank_end ok xs i g = rw (drop_of_length-le xs {i = i} g) (and_true ok)
