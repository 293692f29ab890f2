-- Laws of both, either and first-without-second.
use Rattle.std.specs.Prelude.{◌≡◌, refl, Bool, true, false, ◌↔◌, ◌⊎◌, ℕ, ◌+◌, ◌≤◌, ◌<◌}
use Rattle.std.proofs.Common.{sym, ◌∙◌, inl, inr, ⊎_elim, arith, lt-ltb, le-ltb}
use Rattle.std.proofs.Math.Option.{Option, none, some}
use mathlib.Core.List.{List, [], ◌∷◌, Memᴰ}
use Rattle.wire.specs.Bytes.{pick}
use Rattle.wire.specs.Cases.{by_lt, by_eq, never}
use Rattle.records.specs.declared.Record.{Record}
use Rattle.records.specs.Records.{key, rising_from, look, held}
use Rattle.records.specs.Order.{rising-cons, rising_parts, rising-lower, rising-nil, look_here, look_past, look-nil, look-low, look_in, in_look}
use Rattle.merges.specs.declared.Side.TheVariants.{First, Shared, Second}
use Rattle.merges.specs.declared.Merge.{Merge}
use Rattle.merges.specs.declared.Merge.TheVariants.{Both, Either, Without}
use Rattle.merges.specs.Merging.{side, keeps, keep, merge, merged}

-- ---- the lowest call of two lists, and the rest

pub merge-first_end : (m : Merge) (x : Record) (xs : List Record) → merge m (x ∷ xs) [] ≡ keep (keeps m First) x (merge m xs [])
unfolding merge
merge-first_end m x xs = refl

pub merge_second_end : (m : Merge) (y : Record) (ys : List Record) → merge m [] (y ∷ ys) ≡ keep (keeps m Second) y (merge m [] ys)
unfolding merge
merge_second_end m y ys = refl

pub merge_none : (m : Merge) → merge m [] [] ≡ []
unfolding merge
merge_none m = refl

pub merge-first : (m : Merge) (x : Record) (xs : List Record) (y : Record) (ys : List Record) → key x < key y
    → merge m (x ∷ xs) (y ∷ ys) ≡ keep (keeps m First) x (merge m xs (y ∷ ys))
unfolding merge
merge-first m x xs y ys g = rw (lt-ltb (key x) (key y) g)

pub merge_second : (m : Merge) (x : Record) (xs : List Record) (y : Record) (ys : List Record) → key y < key x
    → merge m (x ∷ xs) (y ∷ ys) ≡ keep (keeps m Second) y (merge m (x ∷ xs) ys)
unfolding merge
merge_second m x xs y ys g = rw (le-ltb (key x) (key y) (omega arith), lt-ltb (key y) (key x) g)

pub merge_shared : (m : Merge) (x : Record) (xs : List Record) (y : Record) (ys : List Record) → key x ≡ key y
    → merge m (x ∷ xs) (y ∷ ys) ≡ keep (keeps m Shared) x (merge m xs ys)
unfolding merge
merge_shared m x xs y ys g = rw (le-ltb (key x) (key y) (omega arith), le-ltb (key y) (key x) (omega arith))

pub side-first_end : (x : Record) (xs : List Record) → side (x ∷ xs) [] ≡ First
unfolding side
side-first_end x xs = refl

pub side_second_end : (ys : List Record) → side [] ys ≡ Second
unfolding side
side_second_end ys = refl

pub side-first : (x : Record) (xs : List Record) (y : Record) (ys : List Record) → key x < key y → side (x ∷ xs) (y ∷ ys) ≡ First
unfolding side
side-first x xs y ys g = rw (lt-ltb (key x) (key y) g)

pub side_second : (x : Record) (xs : List Record) (y : Record) (ys : List Record) → key y < key x → side (x ∷ xs) (y ∷ ys) ≡ Second
unfolding side
side_second x xs y ys g = rw (le-ltb (key x) (key y) (omega arith), lt-ltb (key y) (key x) g)

pub side_shared : (x : Record) (xs : List Record) (y : Record) (ys : List Record) → key x ≡ key y → side (x ∷ xs) (y ∷ ys) ≡ Shared
unfolding side
side_shared x xs y ys g = rw (le-ltb (key x) (key y) (omega arith), le-ltb (key y) (key x) (omega arith))

-- ---- the result is rising

keep-rising : (b : Bool) (low : ℕ) (x : Record) (xs : List Record) → low ≤ key x → rising_from (key x + 1) xs ≡ true → rising_from low (keep b x xs) ≡ true
keep-rising true low x xs g e = rising-cons low x xs g e
keep-rising false low x xs g e = rising-lower low (key x + 1) xs (omega arith) e

pub merge-rising : (m : Merge) (low : ℕ) (xs ys : List Record) → rising_from low xs ≡ true → rising_from low ys ≡ true → rising_from low (merge m xs ys) ≡ true
merge-rising m low [] [] e f = rw (merge_none m) f
merge-rising m low [] (y ∷ ys) e f =
    let b = rising_parts low y ys f in
    rw (merge_second_end m y ys) (keep-rising (keeps m Second) low y (merge m [] ys) b.0 (merge-rising m (key y + 1) [] ys (rising-nil (key y + 1)) b.1))
merge-rising m low (x ∷ xs) [] e f =
    let a = rising_parts low x xs e in
    rw (merge-first_end m x xs) (keep-rising (keeps m First) low x (merge m xs []) a.0 (merge-rising m (key x + 1) xs [] a.1 (rising-nil (key x + 1))))
merge-rising m low (x ∷ xs) (y ∷ ys) e f =
    let a = rising_parts low x xs e in
    let b = rising_parts low y ys f in
    by_lt (key x) (key y)
    (λ h. rw (merge-first m x xs y ys h) (keep-rising (keeps m First) low x (merge m xs (y ∷ ys)) a.0
    (merge-rising m (key x + 1) xs (y ∷ ys) a.1 (rising-cons (key x + 1) y ys (omega arith) b.1))))
    (λ h. by_lt (key y) (key x)
    (λ q. rw (merge_second m x xs y ys q) (keep-rising (keeps m Second) low y (merge m (x ∷ xs) ys) b.0
    (merge-rising m (key y + 1) (x ∷ xs) ys (rising-cons (key y + 1) x xs (omega arith) a.1) b.1)))
    (λ q. let d : key x ≡ key y = omega arith in
    rw (merge_shared m x xs y ys d) (keep-rising (keeps m Shared) low x (merge m xs ys) a.0 (merge-rising m (key x + 1) xs ys a.1 (rw d b.1)))))

-- ---- what stands in the result, call by call

kept-look : (b : Bool) (k : ℕ) (x : Record) (xs : List Record) → key x ≡ k → rising_from (key x + 1) xs ≡ true → look k (keep b x xs) ≡ pick b (some x) none
kept-look true k x xs d e = look_here k x xs d
kept-look false k x xs d e = look-low k (key x + 1) xs (omega arith) e

past_look : (b : Bool) (k : ℕ) (x : Record) (xs : List Record) → (key x ≡ k → ⊥) → look k (keep b x xs) ≡ look k xs
past_look true k x xs d = look_past k x xs d
past_look false k x xs d = refl

merged_second : (m : Merge) (y : Record) → merged m none (some y) ≡ pick (keeps m Second) (some y) none
unfolding merged
merged_second m y = refl

merged-first : (m : Merge) (x : Record) → merged m (some x) none ≡ pick (keeps m First) (some x) none
unfolding merged
merged-first m x = refl

merged_shared : (m : Merge) (x y : Record) → merged m (some x) (some y) ≡ pick (keeps m Shared) (some x) none
unfolding merged
merged_shared m x y = refl

merged-none : (m : Merge) → merged m none none ≡ none
unfolding merged
merged-none m = refl

pub merge-look : (m : Merge) (low k : ℕ) (xs ys : List Record) → rising_from low xs ≡ true → rising_from low ys ≡ true → look k (merge m xs ys) ≡ merged m (look k xs) (look k ys)
merge-look m low k [] [] e f = rw (merge_none m, look-nil) (sym (merged-none m))
merge-look m low k [] (y ∷ ys) e f =
    let b = rising_parts low y ys f in
    rw (merge_second_end m y ys) (by_eq (key y) k
    (λ d. kept-look (keeps m Second) k y (merge m [] ys) d (merge-rising m (key y + 1) [] ys (rising-nil (key y + 1)) b.1)
    ∙ rw (look-nil k, look_here k y ys d) (sym (merged_second m y)))
    (λ d. past_look (keeps m Second) k y (merge m [] ys) d ∙ rw (look_past k y ys d) (merge-look m (key y + 1) k [] ys (rising-nil (key y + 1)) b.1)))
merge-look m low k (x ∷ xs) [] e f =
    let a = rising_parts low x xs e in
    rw (merge-first_end m x xs) (by_eq (key x) k
    (λ d. kept-look (keeps m First) k x (merge m xs []) d (merge-rising m (key x + 1) xs [] a.1 (rising-nil (key x + 1)))
    ∙ rw (look-nil k, look_here k x xs d) (sym (merged-first m x)))
    (λ d. past_look (keeps m First) k x (merge m xs []) d ∙ rw (look_past k x xs d) (merge-look m (key x + 1) k xs [] a.1 (rising-nil (key x + 1)))))
merge-look m low k (x ∷ xs) (y ∷ ys) e f =
    let a = rising_parts low x xs e in
    let b = rising_parts low y ys f in
    by_lt (key x) (key y)
    (λ h. let f' : rising_from (key x + 1) (y ∷ ys) ≡ true = rising-cons (key x + 1) y ys (omega arith) b.1 in
    rw (merge-first m x xs y ys h) (by_eq (key x) k
    (λ d. kept-look (keeps m First) k x (merge m xs (y ∷ ys)) d (merge-rising m (key x + 1) xs (y ∷ ys) a.1 f')
    ∙ rw (look_here k x xs d, look-low k (key x + 1) (y ∷ ys) (omega arith) f') (sym (merged-first m x)))
    (λ d. past_look (keeps m First) k x (merge m xs (y ∷ ys)) d ∙ rw (look_past k x xs d) (merge-look m (key x + 1) k xs (y ∷ ys) a.1 f'))))
    (λ h. by_lt (key y) (key x)
    (λ q. let e' : rising_from (key y + 1) (x ∷ xs) ≡ true = rising-cons (key y + 1) x xs (omega arith) a.1 in
    rw (merge_second m x xs y ys q) (by_eq (key y) k
    (λ d. kept-look (keeps m Second) k y (merge m (x ∷ xs) ys) d (merge-rising m (key y + 1) (x ∷ xs) ys e' b.1)
    ∙ rw (look_here k y ys d, look-low k (key y + 1) (x ∷ xs) (omega arith) e') (sym (merged_second m y)))
    (λ d. past_look (keeps m Second) k y (merge m (x ∷ xs) ys) d ∙ rw (look_past k y ys d) (merge-look m (key y + 1) k (x ∷ xs) ys e' b.1))))
    (λ q. let p : key x ≡ key y = omega arith in
    let f' : rising_from (key x + 1) ys ≡ true = rw p b.1 in
    rw (merge_shared m x xs y ys p) (by_eq (key x) k
    (λ d. kept-look (keeps m Shared) k x (merge m xs ys) d (merge-rising m (key x + 1) xs ys a.1 f')
    ∙ rw (look_here k x xs d, look_here k y ys (sym p ∙ d)) (sym (merged_shared m x y)))
    (λ d. past_look (keeps m Shared) k x (merge m xs ys) d
    ∙ rw (look_past k x xs d, look_past k y ys (λ o. d (p ∙ o))) (merge-look m (key x + 1) k xs ys a.1 f')))))

-- ---- the three by membership: which records are in the result, and with whose minutes

no_record : {G : Type 0} (r : Record) → none ≡ some r → G
no_record r e = let z : ◌≡◌ {A = ℕ} 0 1 = cc in absurd (omega arith)

of_both : (o p : Option Record) (r : Record) → merged Both o p ≡ some r → (o ≡ some r) × (held p ≡ true)
unfolding merged keeps
of_both none none r q = no_record r q
of_both none (some y) r q = no_record r q
of_both (some x) none r q = no_record r q
of_both (some x) (some y) r q = (q, refl)

to_both : (o p : Option Record) (r : Record) → o ≡ some r → held p ≡ true → merged Both o p ≡ some r
unfolding merged keeps
to_both none p r q h = no_record r q
to_both (some x) none r q h = never h
to_both (some x) (some y) r q h = q

of_either : (o p : Option Record) (r : Record) → merged Either o p ≡ some r → (o ≡ some r) ⊎ ((p ≡ some r) × (o ≡ none))
unfolding merged keeps
of_either none none r q = no_record r q
of_either none (some y) r q = inr (q, refl)
of_either (some x) none r q = inl q
of_either (some x) (some y) r q = inl q

either_first : (o p : Option Record) (r : Record) → o ≡ some r → merged Either o p ≡ some r
unfolding merged keeps
either_first none p r q = no_record r q
either_first (some x) none r q = q
either_first (some x) (some y) r q = q

either_second : (o p : Option Record) (r : Record) → p ≡ some r → o ≡ none → merged Either o p ≡ some r
unfolding merged keeps
either_second none none r q h = q
either_second none (some y) r q h = q
either_second (some x) p r q h = no_record x (sym h)

of-without : (o p : Option Record) (r : Record) → merged Without o p ≡ some r → (o ≡ some r) × (p ≡ none)
unfolding merged keeps
of-without none none r q = no_record r q
of-without none (some y) r q = no_record r q
of-without (some x) none r q = (q, refl)
of-without (some x) (some y) r q = no_record r q

to-without : (o p : Option Record) (r : Record) → o ≡ some r → p ≡ none → merged Without o p ≡ some r
unfolding merged keeps
to-without none p r q h = no_record r q
to-without (some x) none r q h = q
to-without (some x) (some y) r q h = no_record y (sym h)

module _ (low : ℕ) (r : Record) (xs ys : List Record) (e : rising_from low xs ≡ true) (f : rising_from low ys ≡ true) where
  found : (m : Merge) → Memᴰ r (merge m xs ys) → merged m (look (key r) xs) (look (key r) ys) ≡ some r
  found m i = sym (merge-look m low (key r) xs ys e f) ∙ in_look low r (merge m xs ys) (merge-rising m low xs ys e f) i

  stands : (m : Merge) → merged m (look (key r) xs) (look (key r) ys) ≡ some r → Memᴰ r (merge m xs ys)
  stands m q = look_in (key r) r (merge m xs ys) (merge-look m low (key r) xs ys e f ∙ q)

  -- both: a record of the first list whose call the second has too
  pub both_in : Memᴰ r (merge Both xs ys) ↔ (Memᴰ r xs × (held (look (key r) ys) ≡ true))
  both_in = (
    λ i. let a = of_both (look (key r) xs) (look (key r) ys) r (found Both i) in (look_in (key r) r xs a.0, a.1),
    λ a. stands Both (to_both (look (key r) xs) (look (key r) ys) r (in_look low r xs e a.0) a.1),
  )

  -- either: a record of the first list, or one of the second whose call the first has not
  pub either_in : Memᴰ r (merge Either xs ys) ↔ (Memᴰ r xs ⊎ (Memᴰ r ys × (look (key r) xs ≡ none)))
  either_in = (
    λ i. ⊎_elim (λ q. inl (look_in (key r) r xs q)) (λ q. inr (look_in (key r) r ys q.0, q.1)) (of_either (look (key r) xs) (look (key r) ys) r (found Either i)),
    λ a. ⊎_elim
        (λ i. stands Either (either_first (look (key r) xs) (look (key r) ys) r (in_look low r xs e i)))
        (λ i. stands Either (either_second (look (key r) xs) (look (key r) ys) r (in_look low r ys f i.0) i.1))
        a,
  )

  -- first-without-second: a record of the first list whose call the second has not
  pub without_in : Memᴰ r (merge Without xs ys) ↔ (Memᴰ r xs × (look (key r) ys ≡ none))
  without_in = (
    λ i. let a = of-without (look (key r) xs) (look (key r) ys) r (found Without i) in (look_in (key r) r xs a.0, a.1),
    λ a. stands Without (to-without (look (key r) xs) (look (key r) ys) r (in_look low r xs e a.0) a.1),
  )
