-- Laws of the order and of single lists: each edit keeps a list rising, and what it holds afterwards.
use Rattle.std.specs.Prelude.{◌≡◌, refl, Bool, true, false, ◌&&◌, ℕ, zero, suc, ◌+◌, ◌≤◌, ◌<◌, length, take, drop, set, get_or, ltb, leb, eqb, ◌⊎◌, Result, Ok, Err}
use Rattle.std.proofs.Common.{inl, inr, sym, ap, ap₂, ◌∙◌, arith, ltb-true, lt-ltb, le-ltb, le-leb, leb-true, eq-eqb, ne_eqb}
use Rattle.std.proofs.Math.Option.{Option, none, some}
use mathlib.Core.List.{List, [], ◌∷◌, ◌++◌, Memᴰ}
use Rattle.wire.specs.All.{All, none as nothing, more}
use Rattle.wire.specs.Bytes.{pick}
use Rattle.wire.specs.Cases.{by_test, by_lt, by_eq, both, never, bool_iff, ltb_iff}
use Rattle.records.specs.declared.Record.{Record}
use Rattle.records.specs.Records.{Fits, key, before, rising_from, rising, look, held, rank, ranked, many, below, tally, insert, remove, lasting, amend}

-- ---- the order is that of the keys

pub before-key : (r s : Record) → Fits r → Fits s → before r s ≡ ltb (key r) (key s)
unfolding before key
before-key r s f g =
    by_eq r.level s.level
    (λ e. rw (eq-eqb r.level s.level e)
    (by_eq r.second s.second
    (λ d. rw (eq-eqb r.second s.second d) (ltb_iff r.phone s.phone (key r) (key s) (λ h. omega arith) (λ h. omega arith)))
    (λ d. rw (ne_eqb r.second s.second d) (ltb_iff r.second s.second (key r) (key s) (λ h. omega arith) (λ h. by_lt r.second s.second (λ q. q) (λ q. absurd (d (omega arith))))))))
    (λ e. rw (ne_eqb r.level s.level e) (ltb_iff r.level s.level (key r) (key s) (λ h. omega arith) (λ h. by_lt r.level s.level (λ q. q) (λ q. absurd (e (omega arith))))))

-- the same key is the same primary part
pub key_one : (r s : Record) → Fits r → Fits s → key r ≡ key s → (r.level ≡ s.level) × (r.second ≡ s.second) × (r.phone ≡ s.phone)
unfolding key
key_one r s f g e = (omega arith, omega arith, omega arith)

-- ---- one record at the front

pub rising-cons : (low : ℕ) (x : Record) (xs : List Record) → low ≤ key x → rising_from (key x + 1) xs ≡ true → rising_from low (x ∷ xs) ≡ true
unfolding rising_from
rising-cons low x xs g e = rw (le-leb low (key x) g) e

pub rising_parts : (low : ℕ) (x : Record) (xs : List Record) → rising_from low (x ∷ xs) ≡ true → (low ≤ key x) × (rising_from (key x + 1) xs ≡ true)
unfolding rising_from
rising_parts low x xs e =
    let a = both (leb low (key x)) (rising_from (key x + 1) xs) e in
    (leb-true low (key x) a.0, a.1)

pub rising-nil : (low : ℕ) → rising_from low [] ≡ true
unfolding rising_from
rising-nil low = refl

pub rising-lower : (low low' : ℕ) (xs : List Record) → low ≤ low' → rising_from low' xs ≡ true → rising_from low xs ≡ true
unfolding rising_from
rising-lower low low' [] g e = refl
rising-lower low low' (x ∷ xs) g e = let a = rising_parts low' x xs e in rising-cons low x xs (omega arith) a.1

-- by neighbours: the first stands before the second, and the list from the second on is rising
pub rising-before : (x y : Record) (xs : List Record) → Fits x → Fits y → rising (x ∷ y ∷ xs) ≡ before x y && rising (y ∷ xs)
unfolding rising_from
rising-before x y xs f g =
    let e : leb (key x + 1) (key y) ≡ ltb (key x) (key y) = bool_iff (leb (key x + 1) (key y)) (ltb (key x) (key y))
    (λ d. let h = leb-true (key x + 1) (key y) d in lt-ltb (key x) (key y) (omega arith))
    (λ d. let h = ltb-true (key x) (key y) d in le-leb (key x + 1) (key y) (omega arith)) in
    rw (le-leb 0 (key x) (omega arith), le-leb 0 (key y) (omega arith), before-key x y f g, e)

pub look_here : (k : ℕ) (x : Record) (xs : List Record) → key x ≡ k → look k (x ∷ xs) ≡ some x
unfolding look
look_here k x xs e = rw (eq-eqb (key x) k e)

pub look_past : (k : ℕ) (x : Record) (xs : List Record) → (key x ≡ k → ⊥) → look k (x ∷ xs) ≡ look k xs
unfolding look
look_past k x xs e = rw (ne_eqb (key x) k e)

pub look-nil : (k : ℕ) → look k [] ≡ none
unfolding look
look-nil k = refl

rank_past : (k : ℕ) (x : Record) (xs : List Record) → key x < k → rank k (x ∷ xs) ≡ suc (rank k xs)
unfolding rank
rank_past k x xs g = rw (lt-ltb (key x) k g)

rank_here : (k : ℕ) (x : Record) (xs : List Record) → k ≤ key x → rank k (x ∷ xs) ≡ 0
unfolding rank
rank_here k x xs g = rw (le-ltb (key x) k g)

rank-nil : (k : ℕ) → rank k [] ≡ 0
unfolding rank
rank-nil k = refl

insert_past : (r x : Record) (xs : List Record) → key x < key r → insert r (x ∷ xs) ≡ x ∷ insert r xs
unfolding insert
insert_past r x xs g = rw (lt-ltb (key x) (key r) g)

insert_here_lem : (r x : Record) (xs : List Record) → key r ≤ key x → insert r (x ∷ xs) ≡ r ∷ x ∷ xs
unfolding insert
insert_here_lem r x xs g = rw (le-ltb (key x) (key r) g)

insert-nil : (r : Record) → insert r [] ≡ r ∷ []
unfolding insert
insert-nil r = refl

remove_here : (k : ℕ) (x : Record) (xs : List Record) → key x ≡ k → remove k (x ∷ xs) ≡ xs
unfolding remove
remove_here k x xs e = rw (eq-eqb (key x) k e)

remove_past : (k : ℕ) (x : Record) (xs : List Record) → (key x ≡ k → ⊥) → remove k (x ∷ xs) ≡ x ∷ remove k xs
unfolding remove
remove_past k x xs e = rw (ne_eqb (key x) k e)

remove-nil : (k : ℕ) → remove k [] ≡ []
unfolding remove
remove-nil k = refl

amend_here : (k m : ℕ) (x : Record) (xs : List Record) → key x ≡ k → amend k m (x ∷ xs) ≡ lasting x m ∷ xs
unfolding amend
amend_here k m x xs e = rw (eq-eqb (key x) k e)

amend_past : (k m : ℕ) (x : Record) (xs : List Record) → (key x ≡ k → ⊥) → amend k m (x ∷ xs) ≡ x ∷ amend k m xs
unfolding amend
amend_past k m x xs e = rw (ne_eqb (key x) k e)

amend-nil : (k m : ℕ) → amend k m [] ≡ []
unfolding amend
amend-nil k m = refl

pub key-lasting : (x : Record) (m : ℕ) → key (lasting x m) ≡ key x
unfolding key
key-lasting x m = refl

-- ---- what a rising list holds

pub look-low : (k low : ℕ) (xs : List Record) → k < low → rising_from low xs ≡ true → look k xs ≡ none
look-low k low [] g e = look-nil k
look-low k low (x ∷ xs) g e =
    let a = rising_parts low x xs e in
    look_past k x xs (λ d. absurd (omega arith)) ∙ look-low k (key x + 1) xs (omega arith) a.1

-- looked up or in the list: the same
pub look_in : (k : ℕ) (r : Record) (xs : List Record) → look k xs ≡ some r → Memᴰ r xs
look_in k r [] e = let z : ◌≡◌ {A = ℕ} 0 1 = cc (look-nil k) in absurd (omega arith)
look_in k r (x ∷ xs) e =
    by_eq (key x) k
    (λ d. let q : r ≡ x = cc (look_here k x xs d) in Memᴰ.head q)
    (λ d. Memᴰ.tail (look_in k r xs (sym (look_past k x xs d) ∙ e)))

in_low : (low : ℕ) (r : Record) (xs : List Record) → rising_from low xs ≡ true → Memᴰ r xs → low ≤ key r
in_low low r [] e m = elim m [ ]
in_low low r (x ∷ xs) e (Memᴰ.head q) = let a = rising_parts low x xs e in rw q a.0
in_low low r (x ∷ xs) e (Memᴰ.tail m) = let a = rising_parts low x xs e in let b = in_low (key x + 1) r xs a.1 m in omega arith

pub in_look : (low : ℕ) (r : Record) (xs : List Record) → rising_from low xs ≡ true → Memᴰ r xs → look (key r) xs ≡ some r
in_look low r [] e m = elim m [ ]
in_look low r (x ∷ xs) e (Memᴰ.head q) = look_here (key r) x xs (ap key (sym q)) ∙ ap some (sym q)
in_look low r (x ∷ xs) e (Memᴰ.tail m) =
    let a = rising_parts low x xs e in
    let b = in_low (key x + 1) r xs a.1 m in
    look_past (key r) x xs (λ d. absurd (omega arith)) ∙ in_look (key x + 1) r xs a.1 m

-- ---- rank

pub tally-small : (b : Bool) → tally b ≤ 1
unfolding tally
tally-small true = omega arith
tally-small false = omega arith

pub many-length : (p : Record → Bool) (xs : List Record) → many p xs ≤ length xs
unfolding many
many-length p [] = omega arith
many-length p (x ∷ xs) = omega (arith, tally-small (p x), many-length p xs)

pub rank-length : (k : ℕ) (xs : List Record) → rank k xs ≤ length xs
rank-length k [] = rw rank-nil (omega arith)
rank-length k (x ∷ xs) = let a = rank-length k xs in by_lt (key x) k (λ h. rw (rank_past k x xs h) (omega arith)) (λ h. rw (rank_here k x xs h) (omega arith))

pub rising-at : (low i : ℕ) (xs : List Record) (z : Record) → rising_from low xs ≡ true → i < length xs → low ≤ key (get_or xs i z)
rising-at low i [] z e g = absurd (omega arith)
rising-at low zero (x ∷ xs) z e g = (rising_parts low x xs e).0
rising-at low (suc i) (x ∷ xs) z e g =
    let a = rising_parts low x xs e in
    let b = rising-at (key x + 1) i xs z a.1 (omega arith) in
    omega arith

-- a record before the key is below its rank, one that is not is at or above it
pub rank-over : (k low i : ℕ) (xs : List Record) (z : Record) → rising_from low xs ≡ true → i < length xs → key (get_or xs i z) < k → i < rank k xs
rank-over k low i [] z e g h = absurd (omega arith)
rank-over k low zero (x ∷ xs) z e g h = rw (rank_past k x xs h) (omega arith)
rank-over k low (suc i) (x ∷ xs) z e g h =
    let a = rising_parts low x xs e in
    let b = rising-at (key x + 1) i xs z a.1 (omega arith) in
    let d = rank-over k (key x + 1) i xs z a.1 (omega arith) h in
    rw (rank_past k x xs (omega arith)) (omega arith)

pub rank-under : (k i : ℕ) (xs : List Record) (z : Record) → i < length xs → k ≤ key (get_or xs i z) → rank k xs ≤ i
rank-under k i [] z g h = absurd (omega arith)
rank-under k zero (x ∷ xs) z g h = rw (rank_here k x xs h) (omega arith)
rank-under k (suc i) (x ∷ xs) z g h =
    let a = rank-under k i xs z (omega arith) h in
    by_lt (key x) k (λ d. rw (rank_past k x xs d) (omega arith)) (λ d. rw (rank_here k x xs d) (omega arith))

-- in a rising list rank counts all records with lower keys
below_none : (k low : ℕ) (xs : List Record) → k ≤ low → rising_from low xs ≡ true → below k xs ≡ 0
unfolding many tally
below_none k low [] g e = refl
below_none k low (x ∷ xs) g e =
    let a = rising_parts low x xs e in
    rw (le-ltb (key x) k (omega arith)) (ap (λ (n : ℕ). 0 + n) (below_none k (key x + 1) xs (omega arith) a.1))

pub rank_below : (k low : ℕ) (xs : List Record) → rising_from low xs ≡ true → rank k xs ≡ below k xs
unfolding many tally
rank_below k low [] e = rank-nil k
rank_below k low (x ∷ xs) e =
    let a = rising_parts low x xs e in
    by_lt (key x) k
    (λ h. let b = rank_below k (key x + 1) xs a.1 in rw (rank_past k x xs h, lt-ltb (key x) k h) (omega arith))
    (λ h. let b = below_none k (key x + 1) xs (omega arith) a.1 in rw (rank_here k x xs h, le-ltb (key x) k h) (omega arith))

-- and those that stand before a record by level, second, phone
pub below-before : (r : Record) (xs : List Record) → Fits r → All Fits xs → below (key r) xs ≡ many (λ x. before x r) xs
unfolding many
below-before r [] f nothing = refl
below-before r (x ∷ xs) f (more g h) = ap₂ (λ (b : Bool) (n : ℕ). tally b + n) (sym (before-key x r g f)) (below-before r xs f h)

-- a listed record's rank is its place
pub rank-place : (low i : ℕ) (xs : List Record) (z : Record) → rising_from low xs ≡ true → i < length xs → rank (key (get_or xs i z)) xs ≡ i
rank-place low i [] z e g = absurd (omega arith)
rank-place low zero (x ∷ xs) z e g = rank_here (key x) x xs (omega arith)
rank-place low (suc i) (x ∷ xs) z e g =
    let a = rising_parts low x xs e in
    let b = rising-at (key x + 1) i xs z a.1 (omega arith) in
    rank_past (key (get_or xs i z)) x xs (omega arith) ∙ ap suc (rank-place (key x + 1) i xs z a.1 (omega arith))

-- the key is there if it stands at its rank
pub held-rank : (k low : ℕ) (xs : List Record) (z : Record) → rising_from low xs ≡ true → rank k xs < length xs → held (look k xs) ≡ eqb (key (get_or xs (rank k xs) z)) k
held-rank k low [] z e g = absurd (omega (arith, rank-nil k))
held-rank k low (x ∷ xs) z e g =
    let a = rising_parts low x xs e in
    by_lt (key x) k
    (λ h. let q = rank_past k x xs h in rw (q, look_past k x xs (λ d. absurd (omega arith))) (held-rank k (key x + 1) xs z a.1 (omega arith)))
    (λ h. rw (rank_here k x xs h) (by_eq (key x) k
    (λ d. rw (look_here k x xs d) (sym (eq-eqb (key x) k d)))
    (λ d. rw (look_past k x xs d, look-low k (key x + 1) xs (omega arith) a.1) (sym (ne_eqb (key x) k d)))))

pub held_end : (k : ℕ) (xs : List Record) → rank k xs ≡ length xs → held (look k xs) ≡ false
held_end k [] e = rw look-nil
held_end k (x ∷ xs) e =
    by_lt (key x) k
    (λ h. rw (look_past k x xs (λ d. absurd (omega arith))) (held_end k xs (omega (arith, rank_past k x xs h))))
    (λ h. absurd (omega (arith, rank_here k x xs h)))

-- the three ends of a search
pub ranked_found : (k i : ℕ) (xs : List Record) (z : Record) → rising xs ≡ true → rank k xs ≡ i → i < length xs → key (get_or xs i z) ≡ k → Ok i ≡ ranked k xs
unfolding ranked
ranked_found k i xs z e q g h =
    let a : held (look k xs) ≡ true = held-rank k 0 xs z e (omega arith) ∙ eq-eqb _ k (rw q h) in
    rw (a, q)

pub ranked_absent : (k i : ℕ) (xs : List Record) (z : Record) → rising xs ≡ true → rank k xs ≡ i → i < length xs → (key (get_or xs i z) ≡ k → ⊥) → Err i ≡ ranked k xs
unfolding ranked
ranked_absent k i xs z e q g h =
    let a : held (look k xs) ≡ false = held-rank k 0 xs z e (omega arith) ∙ ne_eqb _ k (rw q h) in
    rw (a, q)

pub ranked_end : (k i : ℕ) (xs : List Record) → rank k xs ≡ i → i ≡ length xs → Err i ≡ ranked k xs
unfolding ranked
ranked_end k i xs q g = let a : held (look k xs) ≡ false = held_end k xs (q ∙ g) in rw (a, q)

-- and what a search has found
found_clash : {G : Type 0} (i j : ℕ) → Err i ≡ Ok j → G
found_clash i j e = cc

pub found_held : (k j : ℕ) (rs : List Record) → Ok j ≡ ranked k rs → (held (look k rs) ≡ true) × (rank k rs ≡ j)
unfolding ranked
found_held k j rs e = by_test (held (look k rs))
    (λ p. let f : Ok j ≡ Ok (rank k rs) = rw p at e in (p, cc))
    (λ p. let f : Ok j ≡ Err (rank k rs) = rw p at e in cc)

pub absent_held : (k j : ℕ) (rs : List Record) → Err j ≡ ranked k rs → (held (look k rs) ≡ false) × (rank k rs ≡ j)
unfolding ranked
absent_held k j rs e = by_test (held (look k rs))
    (λ p. let f : Err j ≡ Ok (rank k rs) = rw p at e in cc)
    (λ p. let f : Err j ≡ Err (rank k rs) = rw p at e in (p, cc))

pub found_below : (k j : ℕ) (rs : List Record) (r : Result ℕ ℕ) → rising rs ≡ true → r ≡ ranked k rs → (r ≡ Ok j) ⊎ (r ≡ Err j) → j ≡ below k rs
found_below k j rs r e f (inl p) = sym (found_held k j rs (sym p ∙ f)).1 ∙ rank_below k 0 rs e
found_below k j rs r e f (inr p) = sym (absent_held k j rs (sym p ∙ f)).1 ∙ rank_below k 0 rs e

-- ---- insert

pub insert-rising : (low : ℕ) (r : Record) (xs : List Record) → low ≤ key r → look (key r) xs ≡ none → rising_from low xs ≡ true → rising_from low (insert r xs) ≡ true
unfolding rising_from
insert-rising low r [] g h e = rw insert-nil (rising-cons low r [] g refl)
insert-rising low r (x ∷ xs) g h e =
    let a = rising_parts low x xs e in
    by_lt (key x) (key r)
    (λ d. rw (insert_past r x xs d) (rising-cons low x (insert r xs) a.0
    (insert-rising (key x + 1) r xs (omega arith) (sym (look_past (key r) x xs (λ q. absurd (omega arith))) ∙ h) a.1)))
    (λ d. rw (insert_here_lem r x xs d) (by_eq (key x) (key r)
    (λ q. let z : ◌≡◌ {A = ℕ} 0 1 = cc (look_here (key r) x xs q) in absurd (omega arith))
    (λ q. rising-cons low r (x ∷ xs) g (rising-cons (key r + 1) x xs (omega arith) a.1))))

pub insert-look : (k : ℕ) (r : Record) (xs : List Record) → look k (insert r xs) ≡ pick (eqb (key r) k) (some r) (look k xs)
unfolding look
insert-look k r [] = rw insert-nil
insert-look k r (x ∷ xs) =
    by_lt (key x) (key r)
    (λ d. rw (insert_past r x xs d) (ap (pick (eqb (key x) k) (some x)) (insert-look k r xs)
    ∙ by_eq (key r) k
    (λ q. rw (eq-eqb (key r) k q, ne_eqb (key x) k (λ p. absurd (omega arith))))
    (λ q. rw (ne_eqb (key r) k q))))
    (λ d. rw (insert_here_lem r x xs d))

pub insert-rank : (r : Record) (xs : List Record) → rank (key r) (insert r xs) ≡ rank (key r) xs
insert-rank r [] = rw (insert-nil, rank-nil) (rank_here (key r) r [] (omega arith))
insert-rank r (x ∷ xs) =
    by_lt (key x) (key r)
    (λ d. rw (insert_past r x xs d, rank_past (key r) x (insert r xs) d, rank_past (key r) x xs d) (ap suc (insert-rank r xs)))
    (λ d. rw (insert_here_lem r x xs d, rank_here (key r) x xs d) (rank_here (key r) r (x ∷ xs) (omega arith)))

-- any key's rank rises by one exactly if the record stands before it
pub insert-below : (k : ℕ) (r : Record) (xs : List Record) → below k (insert r xs) ≡ below k xs + tally (ltb (key r) k)
unfolding many
insert-below k r [] = rw insert-nil (omega arith)
insert-below k r (x ∷ xs) =
    by_lt (key x) (key r)
    (λ d. rw (insert_past r x xs d) (omega (arith, insert-below k r xs)))
    (λ d. rw (insert_here_lem r x xs d) (omega arith))

-- the record stands at its rank, those before it where they stood, and those behind it one further
pub insert_there : (r : Record) (xs : List Record) (z : Record) → get_or (insert r xs) (rank (key r) xs) z ≡ r
insert_there r [] z = rw (insert-nil, rank-nil)
insert_there r (x ∷ xs) z =
    by_lt (key x) (key r)
    (λ d. rw (insert_past r x xs d, rank_past (key r) x xs d) (insert_there r xs z))
    (λ d. rw (insert_here_lem r x xs d, rank_here (key r) x xs d))

pub insert-before : (r : Record) (xs : List Record) (j : ℕ) (z : Record) → j < rank (key r) xs → get_or (insert r xs) j z ≡ get_or xs j z
insert-before r [] j z g = absurd (omega (arith, rank-nil (key r)))
insert-before r (x ∷ xs) zero z g =
    by_lt (key x) (key r) (λ d. rw (insert_past r x xs d)) (λ d. absurd (omega (arith, rank_here (key r) x xs d)))
insert-before r (x ∷ xs) (suc j) z g =
    by_lt (key x) (key r)
    (λ d. rw (insert_past r x xs d) (insert-before r xs j z (omega (arith, rank_past (key r) x xs d))))
    (λ d. absurd (omega (arith, rank_here (key r) x xs d)))

pub insert-behind : (r : Record) (xs : List Record) (j : ℕ) (z : Record) → rank (key r) xs ≤ j → get_or (insert r xs) (suc j) z ≡ get_or xs j z
insert-behind r [] j z g = rw insert-nil
insert-behind r (x ∷ xs) zero z g =
    by_lt (key x) (key r) (λ d. absurd (omega (arith, rank_past (key r) x xs d))) (λ d. rw (insert_here_lem r x xs d))
insert-behind r (x ∷ xs) (suc j) z g =
    by_lt (key x) (key r)
    (λ d. rw (insert_past r x xs d) (insert-behind r xs j z (omega (arith, rank_past (key r) x xs d))))
    (λ d. rw (insert_here_lem r x xs d))

-- once put in, a record is found at the rank that was foretold
pub insert-ranked : (r : Record) (xs : List Record) → ranked (key r) (insert r xs) ≡ Ok (rank (key r) xs)
unfolding ranked
insert-ranked r xs = rw (insert-look (key r) r xs, eq-eqb (key r) (key r) refl, insert-rank r xs)

pub insert-at : (r : Record) (xs : List Record) → insert r xs ≡ take (rank (key r) xs) xs ++ (r ∷ drop (rank (key r) xs) xs)
insert-at r [] = rw (insert-nil, rank-nil)
insert-at r (x ∷ xs) =
    by_lt (key x) (key r)
    (λ d. rw (insert_past r x xs d, rank_past (key r) x xs d) (ap (◌∷◌ x) (insert-at r xs)))
    (λ d. rw (insert_here_lem r x xs d, rank_here (key r) x xs d))

-- ---- remove

pub remove-rising : (low k : ℕ) (xs : List Record) → rising_from low xs ≡ true → rising_from low (remove k xs) ≡ true
remove-rising low k [] e = rw remove-nil e
remove-rising low k (x ∷ xs) e =
    let a = rising_parts low x xs e in
    by_eq (key x) k
    (λ d. rw (remove_here k x xs d) (rising-lower low (key x + 1) xs (omega arith) a.1))
    (λ d. rw (remove_past k x xs d) (rising-cons low x (remove k xs) a.0 (remove-rising (key x + 1) k xs a.1)))

pub remove-look : (low k j : ℕ) (xs : List Record) → rising_from low xs ≡ true → look j (remove k xs) ≡ pick (eqb k j) none (look j xs)
remove-look low k j [] e = rw (remove-nil, look-nil) (by_test (eqb k j) (λ d. rw d) (λ d. rw d))
remove-look low k j (x ∷ xs) e =
    let a = rising_parts low x xs e in
    by_eq (key x) k
    (λ d. rw (remove_here k x xs d) (by_eq k j
    (λ q. rw (eq-eqb k j q) (look-low j (key x + 1) xs (omega arith) a.1))
    (λ q. rw (ne_eqb k j q) (sym (look_past j x xs (λ p. q (sym d ∙ p)))))))
    (λ d. rw (remove_past k x xs d) (by_eq (key x) j
    (λ q. rw (look_here j x (remove k xs) q, look_here j x xs q, ne_eqb k j (λ p. d (q ∙ sym p))))
    (λ q. rw (look_past j x (remove k xs) q, look_past j x xs q) (remove-look (key x + 1) k j xs a.1))))

pub remove-at : (low k : ℕ) (xs : List Record) → rising_from low xs ≡ true → held (look k xs) ≡ true → remove k xs ≡ take (rank k xs) xs ++ drop (suc (rank k xs)) xs
remove-at low k [] e h = never (rw look-nil at h)
remove-at low k (x ∷ xs) e h =
    let a = rising_parts low x xs e in
    by_eq (key x) k
    (λ d. rw (remove_here k x xs d, rank_here k x xs (omega arith)))
    (λ d. let h' : held (look k xs) ≡ true = ap held (sym (look_past k x xs d)) ∙ h in
    by_lt (key x) k
    (λ q. rw (remove_past k x xs d, rank_past k x xs q) (ap (◌∷◌ x) (remove-at (key x + 1) k xs a.1 h')))
    (λ q. never (sym (ap held (look-low k (key x + 1) xs (omega arith) a.1)) ∙ h')))

-- ---- set minutes

pub amend-rising : (low k m : ℕ) (xs : List Record) → rising_from low xs ≡ true → rising_from low (amend k m xs) ≡ true
amend-rising low k m [] e = rw amend-nil e
amend-rising low k m (x ∷ xs) e =
    let a = rising_parts low x xs e in
    by_eq (key x) k
    (λ d. rw (amend_here k m x xs d) (rising-cons low (lasting x m) xs (rw key-lasting a.0) (rw key-lasting a.1)))
    (λ d. rw (amend_past k m x xs d) (rising-cons low x (amend k m xs) a.0 (amend-rising (key x + 1) k m xs a.1)))

abbrev pub lasted : ℕ → Option Record → Option Record
lasted m none = none
lasted m (some x) = some (lasting x m)

pub amend-look : (k m j : ℕ) (xs : List Record) → look j (amend k m xs) ≡ pick (eqb k j) (lasted m (look j xs)) (look j xs)
amend-look k m j [] = rw (amend-nil, look-nil) (by_test (eqb k j) (λ d. rw d) (λ d. rw d))
amend-look k m j (x ∷ xs) =
    by_eq (key x) k
    (λ d. rw (amend_here k m x xs d) (by_eq k j
    (λ q. rw (eq-eqb k j q, look_here j (lasting x m) xs (rw key-lasting (d ∙ q)), look_here j x xs (d ∙ q)))
    (λ q. rw (ne_eqb k j q, look_past j (lasting x m) xs (λ p. q (sym d ∙ sym (key-lasting x m) ∙ p)), look_past j x xs (λ p. q (sym d ∙ p))))))
    (λ d. rw (amend_past k m x xs d) (by_eq (key x) j
    (λ q. rw (look_here j x (amend k m xs) q, look_here j x xs q, ne_eqb k j (λ p. d (q ∙ sym p))))
    (λ q. rw (look_past j x (amend k m xs) q, look_past j x xs q) (amend-look k m j xs))))

pub amend-at : (low k m : ℕ) (xs : List Record) (z : Record) → rising_from low xs ≡ true → held (look k xs) ≡ true
    → amend k m xs ≡ set xs (rank k xs) (lasting (get_or xs (rank k xs) z) m)
amend-at low k m [] z e h = never (rw look-nil at h)
amend-at low k m (x ∷ xs) z e h =
    let a = rising_parts low x xs e in
    by_eq (key x) k
    (λ d. rw (amend_here k m x xs d, rank_here k x xs (omega arith)))
    (λ d. let h' : held (look k xs) ≡ true = ap held (sym (look_past k x xs d)) ∙ h in
    by_lt (key x) k
    (λ q. rw (amend_past k m x xs d, rank_past k x xs q) (ap (◌∷◌ x) (amend-at (key x + 1) k m xs z a.1 h')))
    (λ q. never (sym (ap held (look-low k (key x + 1) xs (omega arith) a.1)) ∙ h')))
