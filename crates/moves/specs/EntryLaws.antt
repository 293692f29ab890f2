-- The dictionary's entries: which ones stand before a tag, and the bytes when one is entered, changed or taken out.
use Rattle.std.specs.Prelude.{◌≡◌, refl, ◌≢◌, List, [], ◌∷◌, ◌++◌, ltb, replicate}
use Rattle.std.proofs.Common.{sym, ap, ap₂, ◌∙◌, inl, append_assoc, arith, lt-ltb, le-ltb}
use Prim.Native.Nat.{ℕ, zero, suc, ◌+◌, ◌*◌, ◌-◌, ◌≤◌, ◌<◌}
use Rattle.std.proofs.Math.ListN.{length, length-append}
use Rattle.std.proofs.lemmas.List.{length-replicate, replicate-append-replicate}
use Rattle.wire.specs.Bytes.{pick, part, over, bytes16, bytes32}
use Rattle.wire.specs.BytesLaws.{over-append, length-bytes16, length-bytes32, over_comm, over_seam}
use Rattle.wire.specs.Cases.{by_lt}
use Rattle.wire.specs.All.{All, none, more, all_map}
use Rattle.layout.specs.Perm.{Pairs, after}
use Rattle.layout.specs.PermLaws.{psym, pall}
use Rattle.home.specs.Bytes.{Entry, enter, sorted, entries_bytes, padded, tag_at, entries_at}
use Rattle.home.specs.BytesLaws.{part_join}
use Rattle.home.specs.HomeLaws.{length-entries_bytes}
use Rattle.home.specs.DictionaryLaws.{Else, Below, enter_on, enter-first, sorted-rising, perm_sorted}
use Rattle.home.specs.Lookup.{rank_at}

-- ---- a tag that no entry has parts the entries in lower and higher ones

pub record Parted (t : ℕ) (ds : List Entry) : Type 0 where
  pub pre : List Entry
  pub post : List Entry
  pub is : ds ≡ pre ++ post
  pub low : All (λ (d : Entry). d.tag < t) pre
  pub high : All (λ (d : Entry). t < d.tag) post

parted : (t : ℕ) (ds : List Entry) → Pairs Below ds → All (λ (d : Entry). d.tag ≢ t) ds → Parted t ds
parted t [] p o = record { pre = []; post = []; is = refl; low = none; high = none }
parted t (d ∷ ds) (after a p) (more o os) =
    let k : Parted t ds = parted t ds p os in
    by_lt d.tag t
    (λ b. record { pre = d ∷ k.pre; post = k.post; is = ap (λ (l : List Entry). d ∷ l) k.is; low = more b k.low; high = k.high })
    (λ b. let c : t < d.tag = omega arith in
    record { pre = []; post = d ∷ ds; is = refl; low = none; high = more c (all_map {P = Below d} {Q = λ (y : Entry). t < y.tag} (λ y e. omega arith) a) })

enter-at : (x : Entry) (pre post : List Entry) → All (λ (d : Entry). d.tag < x.tag) pre → All (λ (d : Entry). x.tag < d.tag) post → enter x (pre ++ post) ≡ pre ++ x ∷ post
unfolding enter
enter-at x [] post l h = enter-first x post h
enter-at x (y ∷ pre) post (more b l) h = enter_on x y (pre ++ post) (omega arith) ∙ ap (λ (m : List Entry). y ∷ m) (enter-at x pre post l h)

-- the others of x, parted by its tag
pub kept : (x : Entry) (xs : List Entry) → Pairs Else (x ∷ xs) → Parted x.tag (sorted xs)
kept x xs (after a h) =
    parted x.tag (sorted xs) (sorted-rising xs h)
    (all_map {P = Else x} {Q = λ (d : Entry). d.tag ≢ x.tag} (λ d o e. o (sym e)) (pall (Else x) (psym (perm_sorted xs)) a))

pub sorted-one : (x : Entry) (xs : List Entry) (k : Parted x.tag (sorted xs)) → sorted (x ∷ xs) ≡ k.pre ++ x ∷ k.post
unfolding sorted
sorted-one x xs k = ap (enter x) k.is ∙ enter-at x k.pre k.post k.low k.high

-- ---- how many entries stand before the first whose tag is not below t

unfoldable pub rank : ℕ → List Entry → ℕ
rank t [] = 0
rank t (x ∷ xs) = pick (ltb x.tag t) (suc (rank t xs)) 0

pub rank-entries : (h : List ℕ) (t i n : ℕ) → rank_at h t i n ≡ rank t (entries_at h i n)
unfolding rank_at rank entries_at
rank-entries h t i zero = refl
rank-entries h t i (suc n) = ap (λ (k : ℕ). pick (ltb (tag_at h i) t) (suc k) 0) (rank-entries h t (suc i) n)

pub rank-at : (t : ℕ) (pre post : List Entry) → All (λ (d : Entry). d.tag < t) pre → All (λ (d : Entry). t ≤ d.tag) post → rank t (pre ++ post) ≡ length pre
unfolding rank
rank-at t [] [] l h = refl
rank-at t [] (y ∷ post) l (more b h) = rw (le-ltb y.tag t b)
rank-at t (y ∷ pre) post (more b l) h = rw (lt-ltb y.tag t b) (ap suc (rank-at t pre post l h))

-- ---- their bytes

abbrev pub word : Entry → List ℕ
word x = bytes32 x.tag ++ bytes16 x.cell

entries-append : (xs ys : List Entry) → entries_bytes (xs ++ ys) ≡ entries_bytes xs ++ entries_bytes ys
unfolding entries_bytes
entries-append [] ys = refl
entries-append (x ∷ xs) ys = ap (λ (l : List ℕ). bytes32 x.tag ++ (bytes16 x.cell ++ l)) (entries-append xs ys) ∙ simp append_assoc

-- zeros behind n entries
tail : ℕ → List ℕ
tail n = replicate (1536 - 6 * n) 0

tail_more : (n : ℕ) → n < 256 → tail n ≡ replicate 6 0 ++ tail (suc n)
unfolding tail
tail_more n g = let e : 1536 - 6 * n ≡ 6 + (1536 - 6 * suc n) = omega arith in rw e (sym (replicate-append-replicate 6 (1536 - 6 * suc n) 0))

padded_is : (ds : List Entry) → padded ds ≡ entries_bytes ds ++ tail (length ds)
unfolding padded tail
padded_is ds = refl

pub length-word : (x : Entry) → length (word x) ≡ 6
length-word x = length-append (bytes32 x.tag) (bytes16 x.cell) ∙ omega (arith, length-bytes32 x.tag, length-bytes16 x.cell)

module _ (pre post : List Entry) where
  abbrev front : List ℕ
  front = entries_bytes pre

  abbrev back : List ℕ
  back = entries_bytes post

  length_front : length front ≡ 6 * length pre
  length_front = length-entries_bytes pre

  with_one : (x : Entry) → padded (pre ++ x ∷ post) ≡ front ++ ((word x ++ back) ++ tail (suc (length pre + length post)))
  unfolding padded tail entries_bytes
  with_one x =
      let n : length (pre ++ x ∷ post) ≡ suc (length pre + length post) = simp length-append (omega arith) in
      rw (n, entries-append pre (x ∷ post)) (simp append_assoc)

  without : length pre + length post < 256 → padded (pre ++ post) ≡ front ++ ((back ++ replicate 6 0) ++ tail (suc (length pre + length post)))
  without g =
      padded_is (pre ++ post) ∙ ap₂ (λ (k : ℕ) (l : List ℕ). l ++ tail k) (length-append pre post) (entries-append pre post)
      ∙ ap (λ (l : List ℕ). (front ++ back) ++ l) (tail_more (length pre + length post) g) ∙ simp append_assoc

  -- the entry leads to another cell
  pub padded-celled : (x x' : Entry) → x.tag ≡ x'.tag → over (padded (pre ++ x ∷ post)) (6 * length pre + 4) (bytes16 x'.cell) ≡ padded (pre ++ x' ∷ post)
  padded-celled x x' q =
      let z : List ℕ = tail (suc (length pre + length post)) in
      ap (λ (l : List ℕ). over l (6 * length pre + 4) (bytes16 x'.cell)) (with_one x ∙ regroup x z)
      ∙ over_seam (front ++ bytes32 x.tag) (bytes16 x.cell) (back ++ z) (bytes16 x'.cell) (6 * length pre + 4)
      (length-append front (bytes32 x.tag) ∙ omega (arith, length_front, length-bytes32 x.tag)) (length-bytes16 x.cell ∙ sym (length-bytes16 x'.cell))
      ∙ ap (λ (t : ℕ). (front ++ bytes32 t) ++ (bytes16 x'.cell ++ (back ++ z))) q
      ∙ sym (with_one x' ∙ regroup x' z)
    where
      regroup : (y : Entry) (z : List ℕ) → front ++ ((word y ++ back) ++ z) ≡ (front ++ bytes32 y.tag) ++ (bytes16 y.cell ++ (back ++ z))
      regroup y z = simp append_assoc

  -- an entry put in: those behind it move up
  pub padded-entered : (x : Entry) (k : ℕ) → length pre + length post < 256 → k ≡ 6 * length post
      → over (over (padded (pre ++ post)) (6 * length pre + 6) (part (padded (pre ++ post)) (6 * length pre) k)) (6 * length pre) (word x) ≡ padded (pre ++ x ∷ post)
  padded-entered x k g q =
      let z : List ℕ = tail (suc (length pre + length post)) in
      let l : List ℕ = front ++ ((back ++ replicate 6 0) ++ z) in
      let i : ℕ = 6 * length pre in
      let lb : length back ≡ k = length-entries_bytes post ∙ sym q in
      let r : part l i k ≡ back = ap (λ (m : List ℕ). part (front ++ m) i k) (append_assoc back (replicate 6 0) z) ∙ part_join i k front back (replicate 6 0 ++ z) length_front lb in
      let long : i + (k + 6) ≤ length l = rw length_long (omega (arith, length_front)) in
      ap (λ (m : List ℕ). over (over m (i + 6) (part m i k)) i (word x)) (without g)
      ∙ ap (λ (m : List ℕ). over (over l (i + 6) m) i (word x)) r
      ∙ over_comm l i (word x) (i + 6) back (inl (omega (arith, length-word x)))
      ∙ ap (λ (j : ℕ). over (over l i (word x)) (i + j) back) (sym (length-word x))
      ∙ over-append l i (word x) back
      ∙ over_seam front (back ++ replicate 6 0) z (word x ++ back) i length_front (length-append back (replicate 6 0) ∙ omega (arith, length-word x) ∙ sym (length-append (word x) back))
      ∙ sym (with_one x)
    where
      length_long : length (front ++ ((back ++ replicate 6 0) ++ tail (suc (length pre + length post)))) ≡ length front + (length back + 6 + length (tail (suc (length pre + length post))))
      length_long = simp (length-append, length-replicate)

  -- an entry taken out: those behind it move down
  pub padded-unentered : (x : Entry) (k m : ℕ) → length pre + length post < 256 → k ≡ 6 * length post → m ≡ 6 * (length pre + length post)
      → over (over (padded (pre ++ x ∷ post)) (6 * length pre) (part (padded (pre ++ x ∷ post)) (6 * length pre + 6) k)) m (replicate 6 0) ≡ padded (pre ++ post)
  padded-unentered x k m g q w =
      let z : List ℕ = tail (suc (length pre + length post)) in
      let l : List ℕ = front ++ ((word x ++ back) ++ z) in
      let i : ℕ = 6 * length pre in
      let lb : length back ≡ k = length-entries_bytes post ∙ sym q in
      let e : m ≡ i + length back = omega arith in
      let r : part l (i + 6) k ≡ back = ap (λ (v : List ℕ). part v (i + 6) k) (regroup z) ∙ part_join (i + 6) k (front ++ word x) back z (length-append front (word x) ∙ omega (arith, length_front, length-word x)) lb in
      ap (λ (v : List ℕ). over (over v i (part v (i + 6) k)) m (replicate 6 0)) (with_one x)
      ∙ ap₂ (λ (v : List ℕ) (j : ℕ). over (over l i v) j (replicate 6 0)) r e
      ∙ over-append l i back (replicate 6 0)
      ∙ over_seam front (word x ++ back) z (back ++ replicate 6 0) i length_front (length-append (word x) back ∙ omega (arith, length-word x) ∙ sym (length-append back (replicate 6 0)))
      ∙ sym (without g)
    where
      regroup : (z : List ℕ) → front ++ ((word x ++ back) ++ z) ≡ (front ++ word x) ++ (back ++ z)
      regroup z = simp append_assoc
