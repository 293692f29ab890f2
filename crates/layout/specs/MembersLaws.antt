-- The records of a list, in whatever order: which are there after an edit, and that a rising list is known by them.
use Rattle.std.specs.Prelude.{◌≡◌, refl, true, ◌≢◌, List, [], ◌∷◌, ℕ, ◌+◌, ◌≤◌, ltb}
use Rattle.std.proofs.Common.{sym, ap, ◌∙◌, subst, inl, inr, ⊎_elim, arith, eq-eqb, ne_eqb}
use Rattle.wire.specs.Cases.{by_test, by_eq}
use Rattle.records.specs.declared.Record.{Record}
use Rattle.records.specs.Records.{key, rising_from, insert, remove}
use Rattle.records.specs.Order.{rising_parts}
use Rattle.layout.specs.Perm.{Perm, pskip, pswap, ptrans, In}
use Rattle.layout.specs.PermLaws.{prefl, keep_in}

in_low : (low : ℕ) (r : Record) (xs : List Record) → rising_from low xs ≡ true → In r xs → low ≤ key r
in_low low r [] e i = absurd i
in_low low r (x ∷ xs) e (inl q) = let a = rising_parts low x xs e in omega (arith, a.0, ap key q)
in_low low r (x ∷ xs) e (inr i) = let a = rising_parts low x xs e in omega (arith, a.0, in_low (key x + 1) r xs a.1 i)

-- a rising list is known by its records
pub same_records : (low : ℕ) (xs ys : List Record) → rising_from low xs ≡ true → rising_from low ys ≡ true → ((r : Record) → In r xs → In r ys) → ((r : Record) → In r ys → In r xs) → xs ≡ ys
same_records low [] [] d e f g = refl
same_records low [] (y ∷ ys) d e f g = absurd (g y (inl refl))
same_records low (x ∷ xs) [] d e f g = absurd (f x (inl refl))
same_records low (x ∷ xs) (y ∷ ys) d e f g =
    let a : rising_from (key x + 1) xs ≡ true = (rising_parts low x xs d).1 in
    let b : rising_from (key y + 1) ys ≡ true = (rising_parts low y ys e).1 in
    let q : x ≡ y = first a b (f x (inl refl)) (g y (inl refl)) in
    let b' : rising_from (key x + 1) ys ≡ true = subst (λ (z : Record). rising_from (key z + 1) ys ≡ true) (sym q) b in
    ap (λ (z : Record). z ∷ xs) q ∙ ap (◌∷◌ y) (same_records (key x + 1) xs ys a b'
    (λ r i. keep_in y r ys (λ p. omega (arith, in_low (key x + 1) r xs a i, ap key p, ap key q)) (f r (inr i)))
    (λ r i. keep_in x r xs (λ p. omega (arith, in_low (key x + 1) r ys b' i, ap key p)) (g r (inr i))))
  where
    first : rising_from (key x + 1) xs ≡ true → rising_from (key y + 1) ys ≡ true → In x (y ∷ ys) → In y (x ∷ xs) → x ≡ y
    first a b (inl q) j = q
    first a b (inr i) (inl q) = sym q
    first a b (inr i) (inr j) = absurd (omega (arith, in_low (key y + 1) x ys b i, in_low (key x + 1) y xs a j))

-- with one put in, and without that of a key
pub insert_perm : (r : Record) (xs : List Record) → Perm (insert r xs) (r ∷ xs)
unfolding insert
insert_perm r [] = prefl (r ∷ [])
insert_perm r (x ∷ xs) = by_test (ltb (key x) (key r))
    (λ e. rw e (ptrans (pskip x (insert_perm r xs)) (pswap x r xs)))
    (λ e. rw e (prefl (r ∷ x ∷ xs)))

pub in_removed : (low k : ℕ) (r : Record) (xs : List Record) → rising_from low xs ≡ true → In r (remove k xs) → In r xs × (key r ≢ k)
unfolding remove
in_removed low k r [] e i = absurd i
in_removed low k r (x ∷ xs) e i =
    let a : rising_from (key x + 1) xs ≡ true = (rising_parts low x xs e).1 in
    by_eq (key x) k
    (λ d. let j : In r xs = rw (eq-eqb (key x) k d) at i in (inr j, λ q. omega (arith, in_low (key x + 1) r xs a j)))
    (λ d. let j : In r (x ∷ remove k xs) = rw (ne_eqb (key x) k d) at i in
    ⊎_elim (λ q. (inl q, λ p. d (ap key (sym q) ∙ p))) (λ o. let h = in_removed (key x + 1) k r xs a o in (inr h.0, h.1)) j)

pub removed_in : (k : ℕ) (r : Record) (xs : List Record) → In r xs → key r ≢ k → In r (remove k xs)
unfolding remove
removed_in k r [] i d = absurd i
removed_in k r (x ∷ xs) i d = by_eq (key x) k
    (λ e. rw (eq-eqb (key x) k e) (keep_in x r xs (λ q. d (ap key q ∙ e)) i))
    (λ e. rw (ne_eqb (key x) k e) (⊎_elim (λ q. inl q) (λ j. inr (removed_in k r xs j d)) i))
