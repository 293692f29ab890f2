-- Numbers and fields, as the code writes them.
use Rattle.std.specs.Prelude.{◌≡◌, refl, List, [], ◌∷◌, ◌++◌, ℕ, zero, suc, ◌+◌, ◌*◌, ◌/◌, ◌%◌, ◌≤◌, ◌<◌, length, set}
use Rattle.std.proofs.Common.{sym, ap, ◌∙◌, arith, length-append, lt-ltb, le-ltb}
use Rattle.wire.specs.Bytes.{over}
use Rattle.wire.specs.Cases.{by_lt}
use Rattle.wire.specs.BytesLaws.{over-nil, over-cons, over_snoc, over-append}
use Rattle.text.specs.Text.{digits_by, digits, field}

-- ---- digits

-- one digit, and a digit behind others
pub digits-one : (k n : ℕ) → n < 10 → digits_by (suc k) n ≡ (48 + n) ∷ []
unfolding digits_by
digits-one k n g = rw (lt-ltb n 10 g)

pub digits_more : (k n : ℕ) → 10 ≤ n → digits_by (suc k) n ≡ digits_by k (n / 10) ++ ((48 + n % 10) ∷ [])
unfolding digits_by
digits_more k n g = rw (le-ltb n 10 g)

-- the least number of k + 1 digits
unfoldable pub tens : ℕ → ℕ
tens zero = 1
tens (suc k) = 10 * tens k

tens-one : tens 1 ≡ 10
unfolding tens
tens-one = refl

tens_less : (k n : ℕ) → n < tens (suc k) → n / 10 < tens k
unfolding tens
tens_less k n g = omega arith

-- a number below it has at most k digits, and every number has one
pub digits-short : (j k n : ℕ) → n < tens (suc k) → length (digits_by j n) ≤ suc k
unfolding digits_by
digits-short zero k n g = omega arith
digits-short (suc j) zero n g = rw (digits-one j n (omega (arith, tens-one))) (omega arith)
digits-short (suc j) (suc k) n g =
    by_lt n 10
    (λ h. rw (digits-one j n h) (omega arith))
    (λ h. rw (digits_more j n h, length-append) (omega (arith, digits-short j k (n / 10) (tens_less (suc k) n g))))

pub digits-some : (n : ℕ) → 1 ≤ length (digits n)
digits-some n = by_lt n 10 (λ h. rw (digits-one 9 n h) (omega arith)) (λ h. rw (digits_more 9 n h, length-append) (omega arith))

-- how many more are allowed does not matter
pub digits_enough : (j k n : ℕ) → n < tens (suc j) → n < tens (suc k) → digits_by (suc j) n ≡ digits_by (suc k) n
digits_enough zero k n g h = let l : n < 10 = omega (arith, tens-one) in digits-one 0 n l ∙ sym (digits-one k n l)
digits_enough (suc j) zero n g h = let l : n < 10 = omega (arith, tens-one) in digits-one (suc j) n l ∙ sym (digits-one 0 n l)
digits_enough (suc j) (suc k) n g h =
    by_lt n 10
    (λ l. digits-one (suc j) n l ∙ sym (digits-one (suc k) n l))
    (λ l. digits_more (suc j) n l
    ∙ ap (λ (ds : List ℕ). ds ++ ((48 + n % 10) ∷ [])) (digits_enough j k (n / 10) (tens_less (suc j) n g) (tens_less (suc k) n h))
    ∙ sym (digits_more (suc k) n l))

-- a number's digits are those of its tenth and its last one
pub digits_last : (n : ℕ) → 10 ≤ n → n < 4294967296 → digits n ≡ digits (n / 10) ++ ((48 + n % 10) ∷ [])
unfolding tens
digits_last n g h = digits_more 9 n g ∙ ap (λ (ds : List ℕ). ds ++ ((48 + n % 10) ∷ [])) (digits_enough 8 9 (n / 10) (omega arith) (omega arith))

-- ---- bytes written

-- b is a with the bytes bs written from an offset on, and r is the offset behind them
abbrev pub Wrote : List ℕ → List ℕ → ℕ → List ℕ → ℕ → Type 0
Wrote a b at bs r = (b ≡ over a at bs) × (r ≡ at + length bs)

pub wrote_one : (l : List ℕ) (at v : ℕ) → v < 10 → Wrote l (set l at (48 + v)) at (digits v) (at + 1)
wrote_one l at v g = rw (digits-one 9 v g) (over_snoc_nil, refl)
  where
    over_snoc_nil : set l at (48 + v) ≡ over l at ((48 + v) ∷ [])
    over_snoc_nil = sym (over-nil (set l at (48 + v)) (suc at)) ∙ over-cons l at (48 + v) []

pub room_tenth : (v : ℕ) → 10 ≤ v → v < 4294967296 → length (digits v) ≡ length (digits (v / 10)) + 1
room_tenth v g h = rw (digits_last v g h, length-append)

pub wrote_last : (l m : List ℕ) (at v end : ℕ) → 10 ≤ v → v < 4294967296 → Wrote l m at (digits (v / 10)) end → Wrote l (set m end (48 + v % 10)) at (digits v) (end + 1)
wrote_last l m at v end g h w =
    (rw (w.0, w.1, digits_last v g h) (over_snoc l at (digits (v / 10)) (48 + v % 10)), omega (arith, room_tenth v g h))

-- bytes behind bytes
pub wrote_then : (a b c : List ℕ) (at : ℕ) (xs ys : List ℕ) (r e : ℕ) → Wrote a b at xs r → Wrote b c r ys e → Wrote a c at (xs ++ ys) e
wrote_then a b c at xs ys r e v w = (w.0 ∙ rw (v.0, v.1) (over-append a at xs ys), rw length-append (omega arith))

-- bytes written at the start
pub wrote_start : (l m bs : List ℕ) → m ≡ over l 0 bs → Wrote l m 0 bs (length bs)
wrote_start l m bs e = (e, omega arith)

-- ---- fields

pub field_long : (v e : ℕ) → length (field v e) ≡ length (digits v) + 1
unfolding field
field_long v e = rw length-append

-- its length: three digits at most, two bytes' digits, four bytes' digits
pub field_three : (v e : ℕ) → v < 1000 → length (field v e) ≤ 4
unfolding tens
field_three v e g = omega (arith, field_long v e, digits-short 10 2 v (omega arith))

pub field_five : (v e : ℕ) → v < 65536 → length (field v e) ≤ 6
unfolding tens
field_five v e g = omega (arith, field_long v e, digits-short 10 4 v (omega arith))

pub field_ten : (v e : ℕ) → v < 4294967296 → length (field v e) ≤ 11
unfolding tens
field_ten v e g = omega (arith, field_long v e, digits-short 10 9 v (omega arith))

pub wrote_field : (l m : List ℕ) (at v r e : ℕ) → Wrote l m at (digits v) r → Wrote l (set m r e) at (field v e) (r + 1)
unfolding field
wrote_field l m at v r e w = (rw (w.0, w.1) (over_snoc l at (digits v) e), rw length-append (omega arith))
