-- One turn of the loops over two lists in bytes.
use Rattle.std.specs.Prelude.{◌≡◌, Bool, true, false, List, [], ◌∷◌, ℕ, ◌+◌, ◌*◌, ◌/◌, ◌≤◌, ◌<◌, length, drop}
use Rattle.std.proofs.Common.{sym, ap, ◌∙◌, append-nil, lt-ltb, le-ltb}
use native.Mathlib.Omega.{arith}
use Rattle.wire.specs.Bytes.{over}
use Rattle.wire.specs.Cases.{by_lt}
use Rattle.wire.specs.BytesLaws.{over-nil, over-append}
use Rattle.records.specs.declared.Record.{Record}
use Rattle.records.specs.Records.{key, tally, bytes_of, encode, record_at, decode, rest}
use Rattle.records.specs.Order.{tally-small}
use Rattle.records.specs.Cells.{length-bytes_of, length-records, rest_more, rest_end, rest_all, decode_more, decode_end}
use Rattle.merges.specs.declared.Side.{Side}
use Rattle.merges.specs.declared.Side.TheVariants.{First, Shared, Second}
use Rattle.merges.specs.declared.Merge.{Merge}
use Rattle.merges.specs.Merging.{side, keeps, keep, of_first, of_second, next, merge}
use Rattle.merges.specs.MergingLaws.{merge-first_end, merge_second_end, merge_none, merge-first, merge_second, merge_shared, side-first_end, side_second_end, side-first, side_second, side_shared}

-- what a merge has yet to give
abbrev pub left : Merge → List ℕ → List ℕ → List Record
left m a b = merge m (decode a) (decode b)

-- ---- whose turn it is

-- the lowest call of two lists: it is there, and its record, if kept, heads what is left to give
pub record Lowest (a b : List ℕ) (w : Side) : Type 0 where
  pub is : w ≡ side (decode a) (decode b)
  pub first : 8 * of_first w ≤ length a
  pub second : 8 * of_second w ≤ length b
  pub on : 0 < of_first w + of_second w
  pub rest : (m : Merge) → left m a b ≡ keep (keeps m w) (next w (record_at a 0) (record_at b 0)) (left m (drop (8 * of_first w) a) (drop (8 * of_second w) b))

module _ (a b : List ℕ) where
  pub lowest_alone : 8 ≤ length a → length b < 8 → Lowest a b First
  unfolding of_first of_second next
  lowest_alone g h = record {
    is = rw (decode_more a g, decode_end b h) (sym (side-first_end _ _));
    first = omega arith;
    second = omega arith;
    on = omega arith;
    rest = λ m. rw (decode_more a g, decode_end b h) (merge-first_end m _ _);
  }

  pub lowest_over : length a < 8 → 8 ≤ length b → Lowest a b Second
  unfolding of_first of_second next
  lowest_over g h = record {
    is = rw (decode_end a g, decode_more b h) (sym (side_second_end _));
    first = omega arith;
    second = omega arith;
    on = omega arith;
    rest = λ m. rw (decode_end a g, decode_more b h) (merge_second_end m _ _);
  }

  pub lowest_before : 8 ≤ length a → 8 ≤ length b → key (record_at a 0) < key (record_at b 0) → Lowest a b First
  unfolding of_first of_second next
  lowest_before g h q = record {
    is = rw (decode_more a g, decode_more b h) (sym (side-first _ _ _ _ q));
    first = omega arith;
    second = omega arith;
    on = omega arith;
    rest = λ m. rw (decode_more a g, decode_more b h) (merge-first m _ _ _ _ q);
  }

  pub lowest_after : 8 ≤ length a → 8 ≤ length b → key (record_at b 0) < key (record_at a 0) → Lowest a b Second
  unfolding of_first of_second next
  lowest_after g h q = record {
    is = rw (decode_more a g, decode_more b h) (sym (side_second _ _ _ _ q));
    first = omega arith;
    second = omega arith;
    on = omega arith;
    rest = λ m. rw (decode_more a g, decode_more b h) (merge_second m _ _ _ _ q);
  }

  pub lowest_same : 8 ≤ length a → 8 ≤ length b → key (record_at a 0) ≡ key (record_at b 0) → Lowest a b Shared
  unfolding of_first of_second next
  lowest_same g h q = record {
    is = rw (decode_more a g, decode_more b h) (sym (side_shared _ _ _ _ q));
    first = omega arith;
    second = omega arith;
    on = omega arith;
    rest = λ m. rw (decode_more a g, decode_more b h) (merge_shared m _ _ _ _ q);
  }

  pub left_end : (m : Merge) → length a < 8 → length b < 8 → left m a b ≡ []
  left_end m g h = rw (decode_end a g, decode_end b h) (merge_none m)

keep-few : (b : Bool) (x : Record) (xs : List Record) → length (keep b x xs) ≤ length xs + 1
keep-few true x xs = omega arith
keep-few false x xs = omega arith

records_few : (m : Merge) (xs ys : List Record) → length (merge m xs ys) ≤ length xs + length ys
unfolding merge
records_few m [] [] = omega arith
records_few m [] (y ∷ ys) = omega (arith, keep-few (keeps m Second) y (merge m [] ys), records_few m [] ys)
records_few m (x ∷ xs) [] = omega (arith, keep-few (keeps m First) x (merge m xs []), records_few m xs [])
records_few m (x ∷ xs) (y ∷ ys) =
    by_lt (key x) (key y)
    (λ h. rw (lt-ltb (key x) (key y) h) (omega (arith, keep-few (keeps m First) x (merge m xs (y ∷ ys)), records_few m xs (y ∷ ys))))
    (λ h. rw (le-ltb (key x) (key y) h) (by_lt (key y) (key x)
    (λ q. rw (lt-ltb (key y) (key x) q) (omega (arith, keep-few (keeps m Second) y (merge m (x ∷ xs) ys), records_few m (x ∷ xs) ys)))
    (λ q. rw (le-ltb (key y) (key x) q) (omega (arith, keep-few (keeps m Shared) x (merge m xs ys), records_few m xs ys)))))

-- a merge has no more records than both lists
pub merge_few : (m : Merge) (a b : List ℕ) → length (merge m (decode a) (decode b)) ≤ length a / 8 + length b / 8
merge_few m a b = omega (arith, records_few m (decode a) (decode b), length-records a 0 (length a / 8), length-records b 0 (length b / 8))

-- the lowest call taken out: where it stood, its record, and the lists then
pub record Taken (a b : List ℕ) (w : Side) (r : Record) (c d : List ℕ) : Type 0 where
  pub rest : (m : Merge) → left m a b ≡ keep (keeps m w) r (left m c d)
  pub fewer : length c + length d < length a + length b

-- ---- what is written and what is left to write are together the whole merge

abbrev pub Completes : List ℕ → List ℕ → ℕ → List Record → List Record → Type 0
Completes out s k xs whole = over s (8 * k) (encode xs) ≡ over out 0 (encode whole)

pub completes_turn : (out s : List ℕ) (k : ℕ) (x : Record) (xs whole : List Record) → Completes out s k (x ∷ xs) whole → Completes out (over s (8 * k) (bytes_of x)) (k + 1) xs whole
unfolding encode
completes_turn out s k x xs whole g =
    let e : 8 * (k + 1) ≡ 8 * k + length (bytes_of x) = omega (arith, length-bytes_of x) in
    rw e (over-append s (8 * k) (bytes_of x) (encode xs)) ∙ g

pub completes_end : (out s : List ℕ) (k : ℕ) (whole : List Record) → Completes out s k [] whole → s ≡ over out 0 (encode whole)
unfolding encode
completes_end out s k whole g = sym (over-nil s (8 * k)) ∙ g

-- ---- whose turn it is, by places in both lists

pub side-over : (a b : List ℕ) (i j : ℕ) → length a / 8 ≤ i → Second ≡ side (rest a i) (rest b j)
side-over a b i j g = rw (rest_end a i g) (sym (side_second_end (rest b j)))

pub side_alone : (a b : List ℕ) (i j : ℕ) → i < length a / 8 → length b / 8 ≤ j → First ≡ side (rest a i) (rest b j)
side_alone a b i j g h = rw (rest_more a i g, rest_end b j h) (sym (side-first_end (record_at a (8 * i)) (rest a (i + 1))))

pub side_before : (a b : List ℕ) (i j : ℕ) → i < length a / 8 → j < length b / 8 → key (record_at a (8 * i)) < key (record_at b (8 * j)) → First ≡ side (rest a i) (rest b j)
side_before a b i j g h q = rw (rest_more a i g, rest_more b j h) (sym (side-first (record_at a (8 * i)) (rest a (i + 1)) (record_at b (8 * j)) (rest b (j + 1)) q))

pub side_after : (a b : List ℕ) (i j : ℕ) → i < length a / 8 → j < length b / 8 → key (record_at b (8 * j)) < key (record_at a (8 * i)) → Second ≡ side (rest a i) (rest b j)
side_after a b i j g h q = rw (rest_more a i g, rest_more b j h) (sym (side_second (record_at a (8 * i)) (rest a (i + 1)) (record_at b (8 * j)) (rest b (j + 1)) q))

pub side_same : (a b : List ℕ) (i j : ℕ) → i < length a / 8 → j < length b / 8 → key (record_at a (8 * i)) ≡ key (record_at b (8 * j)) → Shared ≡ side (rest a i) (rest b j)
side_same a b i j g h q = rw (rest_more a i g, rest_more b j h) (sym (side_shared (record_at a (8 * i)) (rest a (i + 1)) (record_at b (8 * j)) (rest b (j + 1)) q))

-- one call is passed: the lists' places stay within them, and its record, if kept, heads what is left to write
pub record Turn (m : Merge) (a b : List ℕ) (i j : ℕ) (w : Side) : Type 0 where
  pub first : i + of_first w ≤ length a / 8
  pub second : j + of_second w ≤ length b / 8
  pub on : 0 < of_first w + of_second w
  pub left : merge m (rest a i) (rest b j)
      ≡ keep (keeps m w) (next w (record_at a (8 * i)) (record_at b (8 * j))) (merge m (rest a (i + of_first w)) (rest b (j + of_second w)))

module _ (m : Merge) (a b : List ℕ) (i j : ℕ) where
  turn_first : i < length a / 8 → j ≤ length b / 8
      → merge m (rest a i) (rest b j) ≡ keep (keeps m First) (record_at a (8 * i)) (merge m (rest a (i + 1)) (rest b j)) → Turn m a b i j First
  unfolding of_first of_second next
  turn_first g h e = let q : j + 0 ≡ j = omega arith in record { first = omega arith; second = omega arith; on = omega arith; left = rw q e }

  turn_second : i ≤ length a / 8 → j < length b / 8
      → merge m (rest a i) (rest b j) ≡ keep (keeps m Second) (record_at b (8 * j)) (merge m (rest a i) (rest b (j + 1))) → Turn m a b i j Second
  unfolding of_first of_second next
  turn_second g h e = let q : i + 0 ≡ i = omega arith in record { first = omega arith; second = omega arith; on = omega arith; left = rw q e }

  turn_shared : i < length a / 8 → j < length b / 8
      → merge m (rest a i) (rest b j) ≡ keep (keeps m Shared) (record_at a (8 * i)) (merge m (rest a (i + 1)) (rest b (j + 1))) → Turn m a b i j Shared
  unfolding of_first of_second next
  turn_shared g h e = record { first = omega arith; second = omega arith; on = omega arith; left = e }

  pub merge_turn : (w : Side) → i ≤ length a / 8 → j ≤ length b / 8 → i + j < length a / 8 + length b / 8 → w ≡ side (rest a i) (rest b j) → Turn m a b i j w
  merge_turn w g h l e =
      let x : Record = record_at a (8 * i) in
      let y : Record = record_at b (8 * j) in
      let xs : List Record = rest a (i + 1) in
      let ys : List Record = rest b (j + 1) in
      by_lt i (length a / 8)
      (λ p. by_lt j (length b / 8)
      (λ q. by_lt (key x) (key y)
      (λ o. rw (e ∙ sym (side_before a b i j p q o)) (turn_first p h (rw (rest_more a i p, rest_more b j q) (merge-first m x xs y ys o))))
      (λ o. by_lt (key y) (key x)
      (λ r. rw (e ∙ sym (side_after a b i j p q r)) (turn_second g q (rw (rest_more a i p, rest_more b j q) (merge_second m x xs y ys r))))
      (λ r. let d : key x ≡ key y = omega arith in
      rw (e ∙ sym (side_same a b i j p q d)) (turn_shared p q (rw (rest_more a i p, rest_more b j q) (merge_shared m x xs y ys d))))))
      (λ q. rw (e ∙ sym (side_alone a b i j p q)) (turn_first p h (rw (rest_more a i p, rest_end b j q) (merge-first_end m x xs)))))
      (λ p. let q : j < length b / 8 = omega arith in
      rw (e ∙ sym (side-over a b i j p)) (turn_second g q (rw (rest_end a i p, rest_more b j q) (merge_second_end m y ys))))

  pub merge_end : length a / 8 ≤ i → length b / 8 ≤ j → merge m (rest a i) (rest b j) ≡ []
  merge_end g h = rw (rest_end a i g, rest_end b j h) (merge_none m)

length-keep : (b : Bool) (x : Record) (xs : List Record) → length (keep b x xs) ≡ tally b + length xs
unfolding tally
length-keep true x xs = omega arith
length-keep false x xs = omega arith

encode-keep : (l : List ℕ) (k : ℕ) (b : Bool) (x : Record) (xs : List Record)
    → over (over l (8 * k) (encode (keep b x []))) (8 * (k + tally b)) (encode xs) ≡ over l (8 * k) (encode (keep b x xs))
unfolding tally encode
encode-keep l k true x xs =
    let e : 8 * (k + 1) ≡ 8 * k + length (bytes_of x) = omega (arith, length-bytes_of x) in
    rw (append-nil, e) (over-append l (8 * k) (bytes_of x) (encode xs))
encode-keep l k false x xs = let e : k + 0 ≡ k = omega arith in rw (e, over-nil l (8 * k))

pub emit_none : (b : Bool) (l : List ℕ) (k : ℕ) (x : Record) → b ≡ false → (k ≡ k + tally b) × (l ≡ over l (8 * k) (encode (keep b x [])))
unfolding tally encode
emit_none b l k x e = rw e (omega arith, sym (over-nil l (8 * k)))

pub emit_one : (b : Bool) (l : List ℕ) (k : ℕ) (x : Record) → b ≡ true → (k + 1 ≡ k + tally b) × (over l (8 * k) (bytes_of x) ≡ over l (8 * k) (encode (keep b x [])))
unfolding tally encode
emit_one b l k x e = rw e (omega arith, rw append-nil)

pub tally-one : (b : Bool) → b ≡ true → tally b ≡ 1
unfolding tally
tally-one b e = rw e

-- ---- what is written and what is left, by places

pub record Count (m : Merge) (a b : List ℕ) (i j k : ℕ) : Type 0 where
  pub first : i ≤ length a / 8
  pub second : j ≤ length b / 8
  pub few : k ≤ i + j
  pub whole : k + length (merge m (rest a i) (rest b j)) ≡ length (merge m (decode a) (decode b))

pub count-start : (m : Merge) (a b : List ℕ) → Count m a b 0 0 0
count-start m a b = record { first = omega arith; second = omega arith; few = omega arith; whole = rw (rest_all a, rest_all b) (omega arith) }

pub count_turn : (m : Merge) (a b : List ℕ) (i j k : ℕ) (w : Side) → Turn m a b i j w → Count m a b i j k
    → Count m a b (i + of_first w) (j + of_second w) (k + tally (keeps m w))
count_turn m a b i j k w t c =
    let x : Record = next w (record_at a (8 * i)) (record_at b (8 * j)) in
    let e = length-keep (keeps m w) x (merge m (rest a (i + of_first w)) (rest b (j + of_second w))) in
    let f = ap length t.left in
    record { first = t.first; second = t.second; few = omega (arith, tally-small (keeps m w)); whole = omega arith }

pub count_end : (m : Merge) (a b : List ℕ) (i j k : ℕ) → length a / 8 + length b / 8 ≤ i + j → Count m a b i j k → k ≡ length (merge m (decode a) (decode b))
count_end m a b i j k g c =
    let e = ap length (merge_end m a b i j (omega arith) (omega arith)) in
    omega arith

-- room for the next record
pub count_room : (m : Merge) (a b : List ℕ) (i j k : ℕ) (w : Side) → Turn m a b i j w → Count m a b i j k → k + tally (keeps m w) ≤ length (merge m (decode a) (decode b))
count_room m a b i j k w t c = let d = count_turn m a b i j k w t c in omega arith

abbrev pub Written : Merge → List ℕ → List ℕ → List ℕ → ℕ → ℕ → ℕ → List ℕ → Type 0
Written m a b out i j k s = over s (8 * k) (encode (merge m (rest a i) (rest b j))) ≡ over out 0 (encode (merge m (decode a) (decode b)))

pub written_start : (m : Merge) (a b out : List ℕ) → Written m a b out 0 0 0 out
written_start m a b out = rw (rest_all a, rest_all b)

pub written_turn : (m : Merge) (a b out : List ℕ) (i j k : ℕ) (w : Side) (s : List ℕ) → Turn m a b i j w → Written m a b out i j k s
    → Written m a b out (i + of_first w) (j + of_second w) (k + tally (keeps m w)) (over s (8 * k) (encode (keep (keeps m w) (next w (record_at a (8 * i)) (record_at b (8 * j))) [])))
written_turn m a b out i j k w s t g =
    encode-keep s k (keeps m w) (next w (record_at a (8 * i)) (record_at b (8 * j))) (merge m (rest a (i + of_first w)) (rest b (j + of_second w)))
    ∙ ap (λ (zs : List Record). over s (8 * k) (encode zs)) (sym t.left) ∙ g

pub written_end : (m : Merge) (a b out : List ℕ) (i j k : ℕ) (s : List ℕ) → length a / 8 ≤ i → length b / 8 ≤ j → Written m a b out i j k s → s ≡ over out 0 (encode (merge m (decode a) (decode b)))
unfolding encode
written_end m a b out i j k s g h q =
    sym (over-nil s (8 * k)) ∙ ap (λ (zs : List Record). over s (8 * k) (encode zs)) (sym (merge_end m a b i j g h)) ∙ q
