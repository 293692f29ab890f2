-- Sizes by usable capacities never fall, and the class of a number of records is the smallest that holds them.
use Rattle.std.specs.Prelude.{◌≡◌, true, ◌&&◌, List, [], ◌∷◌, ◌++◌, ℕ, zero, suc, ◌+◌, ◌-◌, ◌≤◌, ◌<◌, eqb, length, get_or}
use Rattle.std.proofs.Common.{suc-le-suc, arith}
use Rattle.std.proofs.Math.Nat.{sub-zero}
use Rattle.std.proofs.Math.Dec.{leb}
use borrow.Author.Tests.{leb-true, leb-false, eqb-true}
use Rattle.wire.specs.Cases.{both}
use Rattle.layout.specs.Cases.{by_pick}
use Rattle.layout.specs.Rising.{Rising}
use Rattle.layout.specs.Classes.{capacity_by, cells_by, class_from, never_falls, usable}

-- ---- sizes

get_or_mono : (a : ℕ) (bs : List ℕ) (d c : ℕ) → never_falls a (bs ++ (d ∷ [])) ≡ true → get_or bs c d ≤ get_or bs (suc c) d
unfolding never_falls
get_or_mono a [] d c h = omega arith
get_or_mono a (b ∷ []) d zero h = leb-true b d (both (leb b d) true (both (leb a b) (never_falls b (d ∷ [])) h).1).0
get_or_mono a (b ∷ (b' ∷ bs)) d zero h =
    leb-true b b' (both (leb b b') (never_falls b' (bs ++ (d ∷ []))) (both (leb a b) (never_falls b ((b' ∷ bs) ++ (d ∷ []))) h).1).0
get_or_mono a (b ∷ bs) d (suc c) h = get_or_mono b bs d c (both (leb a b) (never_falls b (bs ++ (d ∷ []))) h).1

last_most : (a : ℕ) (bs : List ℕ) (d : ℕ) → never_falls a (bs ++ (d ∷ [])) ≡ true → a ≤ d
unfolding never_falls
last_most a [] d h = leb-true a d (both (leb a d) true h).0
last_most a (b ∷ bs) d h = let k = both (leb a b) (never_falls b (bs ++ (d ∷ []))) h in omega (arith, leb-true a b k.0, last_most b bs d k.1)

get_or_most : (a : ℕ) (bs : List ℕ) (d c : ℕ) → never_falls a (bs ++ (d ∷ [])) ≡ true → get_or bs c d ≤ d
unfolding never_falls
get_or_most a [] d c h = omega arith
get_or_most a (b ∷ bs) d zero h = last_most b bs d (both (leb a b) (never_falls b (bs ++ (d ∷ []))) h).1
get_or_most a (b ∷ bs) d (suc c) h = get_or_most b bs d c (both (leb a b) (never_falls b (bs ++ (d ∷ []))) h).1

-- ---- the smallest class whose capacity is at least n

class_from_lem : (c : ℕ) (ks : List ℕ) (n : ℕ) → c ≤ class_from c ks n
unfolding class_from
class_from_lem c [] n = omega arith
class_from_lem c (k ∷ ks) n = by_pick (λ (d : ℕ). c ≤ d) (leb n k) (λ t. omega arith) (λ t. omega (arith, class_from_lem (suc c) ks n))

class_upto : (c : ℕ) (ks : List ℕ) (n : ℕ) → class_from c ks n ≤ c + length ks
unfolding class_from
class_upto c [] n = omega arith
class_upto c (k ∷ ks) n = by_pick (λ (d : ℕ). d ≤ c + suc (length ks)) (leb n k) (λ t. omega arith) (λ t. omega (arith, class_upto (suc c) ks n))

-- it holds them
holds_from : (c : ℕ) (ks : List ℕ) (n d : ℕ) → class_from c ks n < c + length ks → n ≤ get_or ks (class_from c ks n - c) d
unfolding class_from
holds_from c [] n d h = absurd (omega arith)
holds_from c (k ∷ ks) n d h =
    by_pick (λ (q : ℕ). q < c + suc (length ks) → n ≤ get_or (k ∷ ks) (q - c) d) (leb n k)
    (λ t b. let q : c - c ≡ 0 = omega arith in rw q (leb-true n k t))
    (λ t b. let m : ℕ = class_from (suc c) ks n in
    let q : m - c ≡ suc (m - suc c) = omega (arith, class_from_lem (suc c) ks n) in
    rw q (holds_from (suc c) ks n d (omega arith))) h

-- a lower class does not
least_from : (c : ℕ) (ks : List ℕ) (n d i : ℕ) → i < length ks → i + c < class_from c ks n → get_or ks i d < n
unfolding class_from
least_from c [] n d i q h = absurd (omega arith)
least_from c (k ∷ ks) n d zero q h = by_pick (λ (r : ℕ). 0 + c < r → k < n) (leb n k) (λ t b. absurd (omega arith)) (λ t b. leb-false n k t) h
least_from c (k ∷ ks) n d (suc i) q h =
    by_pick (λ (r : ℕ). suc i + c < r → get_or ks i d < n) (leb n k)
    (λ t b. absurd (omega arith))
    (λ t b. least_from (suc c) ks n d i (omega arith) (omega arith)) h

-- fewer records have no higher class
mono_from : (c : ℕ) (ks : List ℕ) (m n : ℕ) → m ≤ n → class_from c ks m ≤ class_from c ks n
unfolding class_from
mono_from c [] m n h = omega arith
mono_from c (k ∷ ks) m n h =
    by_pick (λ (q : ℕ). q ≤ class_from c (k ∷ ks) n) (leb m k)
    (λ t. class_from_lem c (k ∷ ks) n)
    (λ t. by_pick (λ (q : ℕ). class_from (suc c) ks m ≤ q) (leb n k)
    (λ u. absurd (omega (arith, leb-true n k u, leb-false m k t)))
    (λ u. mono_from (suc c) ks m n h))

-- ---- usable capacities

module _ (ks : List ℕ) (ok : usable ks ≡ true) where
  falls : never_falls 0 (ks ++ (989 ∷ [])) ≡ true
  unfolding usable
  falls = (both (never_falls 0 (ks ++ (989 ∷ []))) (eqb (suc (class_from 0 ks 989)) (length ks) && leb (length ks) 30) ok).0

  ends : (suc (class_from 0 ks 989) ≡ length ks) × (length ks ≤ 30)
  unfolding usable
  ends =
      let e = both (eqb (suc (class_from 0 ks 989)) (length ks)) (leb (length ks) 30) (both (never_falls 0 (ks ++ (989 ∷ []))) (eqb (suc (class_from 0 ks 989)) (length ks) && leb (length ks) 30) ok).1 in
      (eqb-true (suc (class_from 0 ks 989)) (length ks) e.0, leb-true (length ks) 30 e.1)

  pub usable_most : (c : ℕ) → capacity_by ks c ≤ 989
  usable_most c = get_or_most 0 ks 989 c falls

  -- the class of n is one of these
  pub usable_known : (n : ℕ) → n ≤ 989 → class_from 0 ks n < length ks
  usable_known n h = omega (arith, mono_from 0 ks n 989 h, ends.0)

  -- it has room for n records, and no lower one has
  pub usable_holds : (n : ℕ) → n ≤ 989 → n ≤ capacity_by ks (class_from 0 ks n)
  usable_holds n h = rw sub-zero at (holds_from 0 ks n 989 (omega (arith, usable_known n h)))

  pub usable_least : (n c : ℕ) → c < class_from 0 ks n → capacity_by ks c < n
  usable_least n c k = least_from 0 ks n 989 c (omega (arith, class_upto 0 ks n)) (omega arith)

  pub usable-rising : Rising (cells_by ks) (class_from 0 ks)
  usable-rising = record {
    mono = λ c. suc-le-suc (get_or_mono 0 ks 989 c falls);
    pos = λ c. omega arith;
    most = λ c. suc-le-suc (usable_most c);
    holds = λ n h. suc-le-suc (usable_holds n h);
    below = λ n h. omega (arith, usable_known n h, ends.1);
    ordered = mono_from 0 ks;
  }
