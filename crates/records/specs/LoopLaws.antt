-- One turn of each loop over records in bytes.
use Rattle.std.specs.Prelude.{◌≡◌, refl, Bool, true, false, ◌&&◌, List, [], ℕ, zero, suc, ◌+◌, ◌*◌, ◌/◌, ◌≤◌, ◌<◌, length, get_or, ltb, Ok, Err}
use Rattle.std.specs.List.Sorted.{IsNonDecreasingBy, IsPartitionPoint}
use Rattle.std.proofs.Common.{sym, ap, ◌∙◌, arith, le-leb, lt-ltb, le-ltb, ltb-true, ltb-false}
use Rattle.std.proofs.Math.Bool.{and_assoc}
use Rattle.wire.specs.Cases.{by_lt, and_true}
use Rattle.std.proofs.lemmas.Bool.{lt-leb}
use Rattle.records.specs.Records.{key, rising_from, rising, rank, ranked, record_at, decode, rest}
use Rattle.records.specs.Order.{rank-length, rank-over, rank-under, ranked_found, ranked_absent, ranked_end}
use Rattle.records.specs.Cells.{CellsOf, length-records, records-at, rest_more, rest_end, rest_all}

-- ---- the test of a rising list

pub rising_turn : (l : List ℕ) (low i : ℕ) → i < length l / 8 → low ≤ key (record_at l (8 * i))
    → rising_from (key (record_at l (8 * i)) + 1) (rest l (i + 1)) ≡ rising_from low (rest l i)
unfolding rising_from
rising_turn l low i g h = rw (rest_more l i g, le-leb low (key (record_at l (8 * i))) h)

pub rising_stop : (l : List ℕ) (low i : ℕ) → i < length l / 8 → key (record_at l (8 * i)) < low → rising_from low (rest l i) ≡ false
unfolding rising_from
rising_stop l low i g h = rw (rest_more l i g, lt-leb low (key (record_at l (8 * i))) h)

pub rising_end : (l : List ℕ) (low i : ℕ) → length l / 8 ≤ i → rising_from low (rest l i) ≡ true
unfolding rising_from
rising_end l low i g = rw (rest_end l i g)

pub rising_few : (l : List ℕ) → length l / 8 < 2 → rising_from 0 (decode l) ≡ true
rising_few l g = by_lt 0 (length l / 8)
    (λ h. sym (ap (rising_from 0) (rest_all l)) ∙ sym (rising_turn l 0 0 h (omega arith)) ∙ rising_end l (key (record_at l (8 * 0)) + 1) 1 (omega arith))
    (λ h. sym (ap (rising_from 0) (rest_all l)) ∙ rising_end l 0 0 (omega arith))

-- from the first record on, and past the next one: its key is y, that of the record before it x
pub rising-start : (l : List ℕ) (x : ℕ) → 0 < length l / 8 → x ≡ key (record_at l (8 * 0)) → rising_from (x + 1) (rest l 1) ≡ rising_from 0 (decode l)
rising-start l x g e = rw e (rising_turn l 0 0 g (omega arith)) ∙ ap (rising_from 0) (rest_all l)

pub rising-past : (l : List ℕ) (x y i : ℕ) → i < length l / 8 → y ≡ key (record_at l (8 * i)) → ltb x y && rising_from (y + 1) (rest l (i + 1)) ≡ rising_from (x + 1) (rest l i)
rising-past l x y i g e = by_lt x y
    (λ h. rw (lt-ltb x y h, e) (rising_turn l (x + 1) i g (omega (arith, e))))
    (λ h. rw (le-ltb x y h) (sym (rising_stop l (x + 1) i g (omega (arith, e)))))

-- ---- by whole records, two a turn

-- a number's key is all but its last byte, m is the greatest number with x's key, k with y's
pub rising-next : (l : List ℕ) (x m y i : ℕ) → i < length l / 8 → m ≡ 256 * (x / 256) + 255 → y / 256 ≡ key (record_at l (8 * i))
    → ltb m y && rising_from (y / 256 + 1) (rest l (i + 1)) ≡ rising_from (x / 256 + 1) (rest l i)
rising-next l x m y i g f e = by_lt m y
    (λ h. rw (lt-ltb m y h, e) (rising_turn l (x / 256 + 1) i g (omega (arith, e, f))))
    (λ h. rw (le-ltb m y h) (sym (rising_stop l (x / 256 + 1) i g (omega (arith, e, f)))))

pub rising-first : (l : List ℕ) (x y : ℕ) → 1 < length l / 8 → x / 256 ≡ key (record_at l (8 * 0)) → y / 256 ≡ key (record_at l (8 * 1))
    → ltb (256 * (x / 256) + 255) y && rising_from (y / 256 + 1) (rest l 2) ≡ rising_from 0 (decode l)
rising-first l x y g e f =
    let h : rising_from (x / 256 + 1) (rest l 1) ≡ rising_from 0 (rest l 0) = rw e (rising_turn l 0 0 (omega arith) (omega arith)) in
    rising-next l x (256 * (x / 256) + 255) y 1 g refl f ∙ h ∙ ap (rising_from 0) (rest_all l)

-- x tested with y, and y with the record behind it
rising_two : (ok : Bool) (l : List ℕ) (x m y k a i : ℕ) → i < length l / 8 → m ≡ 256 * (x / 256) + 255 → k ≡ 256 * (y / 256) + 255 → a / 256 ≡ key (record_at l (8 * i))
    → ((ok && ltb m y) && ltb k a) && rising_from (a / 256 + 1) (rest l (i + 1)) ≡ ok && (ltb (256 * (x / 256) + 255) y && rising_from (y / 256 + 1) (rest l i))
rising_two ok l x m y k a i g f h e =
    and_assoc (ok && ltb m y) (ltb k a) (rising_from (a / 256 + 1) (rest l (i + 1)))
    ∙ ap (λ (b : Bool). (ok && ltb m y) && b) (rising-next l y k a i g h e)
    ∙ and_assoc ok (ltb m y) (rising_from (y / 256 + 1) (rest l i))
    ∙ ap (λ (q : ℕ). ok && (ltb q y && rising_from (y / 256 + 1) (rest l i))) f

pub rising_turns : (ok : Bool) (l : List ℕ) (x m y k a b i : ℕ) → i + 1 < length l / 8 → m ≡ 256 * (x / 256) + 255 → k ≡ 256 * (y / 256) + 255
    → a / 256 ≡ key (record_at l (8 * i)) → b / 256 ≡ key (record_at l (8 * (i + 1)))
    → ((ok && ltb m y) && ltb k a) && (ltb (256 * (a / 256) + 255) b && rising_from (b / 256 + 1) (rest l (i + 2)))
    ≡ ok && (ltb (256 * (x / 256) + 255) y && rising_from (y / 256 + 1) (rest l i))
rising_turns ok l x m y k a b i g f h e d =
    let o : i + 2 ≡ i + 1 + 1 = omega arith in
    rw o (ap (λ (c : Bool). ((ok && ltb m y) && ltb k a) && c) (rising-next l a (256 * (a / 256) + 255) b (i + 1) g refl d))
    ∙ rising_two ok l x m y k a i (omega arith) f h e

-- with one record left, and with none
pub rising_two_end : (ok : Bool) (l : List ℕ) (x m y k a i : ℕ) → i < length l / 8 → length l / 8 ≤ i + 1 → m ≡ 256 * (x / 256) + 255 → k ≡ 256 * (y / 256) + 255
    → a / 256 ≡ key (record_at l (8 * i))
    → (ok && ltb m y) && ltb k a ≡ ok && (ltb (256 * (x / 256) + 255) y && rising_from (y / 256 + 1) (rest l i))
rising_two_end ok l x m y k a i g n f h e =
    sym (and_true ((ok && ltb m y) && ltb k a))
    ∙ sym (ap (λ (b : Bool). ((ok && ltb m y) && ltb k a) && b) (rising_end l (a / 256 + 1) (i + 1) n))
    ∙ rising_two ok l x m y k a i g f h e

pub rising-one_end : (ok : Bool) (l : List ℕ) (x m y i : ℕ) → length l / 8 ≤ i → m ≡ 256 * (x / 256) + 255
    → ok && ltb m y ≡ ok && (ltb (256 * (x / 256) + 255) y && rising_from (y / 256 + 1) (rest l i))
rising-one_end ok l x m y i g f =
    rw (rising_end l (y / 256 + 1) i g, and_true) (ap (λ (q : ℕ). ok && ltb q y) f)

-- ---- the search

decode-at : (l : List ℕ) (i : ℕ) → i < length l / 8 → get_or (decode l) i (record_at l 0) ≡ record_at l (8 * i)
decode-at l i g = records-at l 0 (length l / 8) i (record_at l 0) g ∙ ap (record_at l) (omega arith)

in_list : (l : List ℕ) (i : ℕ) → i < length l / 8 → i < length (decode l)
in_list l i g = rw length-records g

pub search_in : (l : List ℕ) (k : ℕ) → rank k (decode l) ≤ length l / 8
search_in l k = rw (length-records l 0 (length l / 8)) at (rank-length k (decode l))

pub search_up : (l : List ℕ) (k i : ℕ) → rising (decode l) ≡ true → i < length l / 8 → key (record_at l (8 * i)) < k → i < rank k (decode l)
search_up l k i e g h = rank-over k 0 i (decode l) (record_at l 0) e (in_list l i g) (rw (decode-at l i g) h)

pub search_down : (l : List ℕ) (k i : ℕ) → i < length l / 8 → k ≤ key (record_at l (8 * i)) → rank k (decode l) ≤ i
search_down l k i g h = rank-under k i (decode l) (record_at l 0) (in_list l i g) (rw (decode-at l i g) h)

-- lower keys stand before higher ones
pub keys-rise : (l : List ℕ) (i j : ℕ) → rising (decode l) ≡ true → i ≤ j → j < length l / 8 → key (record_at l (8 * i)) ≤ key (record_at l (8 * j))
keys-rise l i j e g h =
    by_lt (key (record_at l (8 * j))) (key (record_at l (8 * i)))
    (λ d. let a = search_up l (key (record_at l (8 * i))) j e h d in
    let b = search_down l (key (record_at l (8 * i))) i (omega arith) (omega arith) in
    omega arith)
    (λ d. d)

-- the place between lower keys and the others is the rank
pub search_split : (l : List ℕ) (k i : ℕ) → rising (decode l) ≡ true → i ≤ length l / 8
    → ((j : ℕ) → j < i → key (record_at l (8 * j)) < k) → ((j : ℕ) → i ≤ j → j < length l / 8 → k ≤ key (record_at l (8 * j))) → rank k (decode l) ≡ i
search_split l k zero e g f h =
    by_lt 0 (length l / 8)
    (λ d. let a = search_down l k 0 d (h 0 (omega arith) d) in omega arith)
    (λ d. let a = search_in l k in omega arith)
search_split l k (suc i) e g f h =
    let a = search_up l k i e (omega arith) (f i (omega arith)) in
    by_lt (suc i) (length l / 8)
    (λ d. let b = search_down l k (suc i) d (h (suc i) (omega arith) d) in omega arith)
    (λ d. let b = search_in l k in omega arith)

pub cells-rise : (l : List ℕ) (cells : List (List ℕ)) → CellsOf l cells → rising (decode l) ≡ true → IsNonDecreasingBy (λ c. key (record_at c 0)) cells
cells-rise l cells c e i j d g h = rw (c.each i d (omega (arith, c.len)), c.each j d (omega (arith, c.len))) (keys-rise l i j e g (omega (arith, c.len)))

pub search_point : (l : List ℕ) (cells : List (List ℕ)) (k i : ℕ) → CellsOf l cells → rising (decode l) ≡ true → i ≤ length cells
    → IsPartitionPoint (λ c. ltb (key (record_at c 0)) k ≡ true) (λ c. ltb (key (record_at c 0)) k ≡ false) cells i → rank k (decode l) ≡ i
search_point l cells k i c e g (f, h) = search_split l k i e (omega (arith, c.len))
    (λ j b. let a = f j [] (omega arith) b in ltb-true _ k (rw (c.each j [] (omega (arith, c.len))) at a))
    (λ j b d. let a = h j [] b (omega (arith, c.len)) in ltb-false _ k (rw (c.each j [] d) at a))

pub search_found : (l : List ℕ) (k i : ℕ) → rising (decode l) ≡ true → rank k (decode l) ≡ i → i < length l / 8 → key (record_at l (8 * i)) ≡ k → Ok i ≡ ranked k (decode l)
search_found l k i e q g h = ranked_found k i (decode l) (record_at l 0) e q (in_list l i g) (rw (decode-at l i g) h)

pub search_absent : (l : List ℕ) (k i : ℕ) → rising (decode l) ≡ true → rank k (decode l) ≡ i → i < length l / 8 → (key (record_at l (8 * i)) ≡ k → ⊥) → Err i ≡ ranked k (decode l)
search_absent l k i e q g h = ranked_absent k i (decode l) (record_at l 0) e q (in_list l i g) (rw (decode-at l i g) h)

pub search_end : (l : List ℕ) (k i : ℕ) → rank k (decode l) ≡ i → i ≡ length l / 8 → Err i ≡ ranked k (decode l)
search_end l k i q g = ranked_end k i (decode l) q (rw length-records g)
