-- A tag's list changed in its block is the block of the changed list.
use Rattle.std.specs.Prelude.{◌≡◌, true, drop, set, get_or}
use Rattle.std.proofs.Math.Path.{refl, sym, ap, ap₂}
use Rattle.std.proofs.Common.{◌∙◌, add-zero, take_at, drop_at, length-take, length-drop, take-append-drop, drop_of_length-le, drop-drop}
use mathlib.Core.List.{List, [], ◌∷◌, ◌++◌, append_assoc, append-nil}
use Prim.Native.Nat.{ℕ, suc, ◌+◌, ◌*◌, ◌-◌, ◌≤◌, ◌<◌}
use native.Mathlib.Omega.{arith}
use Rattle.std.proofs.Math.ListN.{length, take, replicate, length-append}
use Rattle.std.proofs.lemmas.List.{length-replicate, replicate-append-replicate, set_split}
use Rattle.std.proofs.Math.Seq.{split_at, length-take-le}
use borrow.Rule.Slice.PartMut.{put_mid}
use Rattle.wire.specs.Bytes.{part, over, bytes16, bytes32}
use Rattle.wire.specs.BytesLaws.{over_is, over_whole, over-append, length_part, part_of, part-add, part-drop, over-behind, over-ahead, part-behind, over_seam, set-over}
use Rattle.wire.specs.Cases.{by_lt, never}
use Rattle.records.specs.declared.Record.{Record}
use Rattle.records.specs.Records.{key, rising, look, held, rank, insert, remove, amend, lasting, bytes_of, up, down, inserted, removed, amended, records, encode as record_bytes}
use Rattle.records.specs.Order.{insert-at, remove-at, amend-at, rank-length, held_end}
use Rattle.records.specs.Cells.{length-bytes_of}
use Rattle.records.specs.Edits.{length-encode}
use Rattle.layout.specs.CapacitiesLaws.{cells_is}
use Rattle.layout.specs.Capacities.{capacity, cells}
use Rattle.layout.specs.Zones.{Block}
use Rattle.home.specs.Layout.{Sits}
use Rattle.home.specs.Bytes.{block_bytes, cell_at, list_at}
use Rattle.home.specs.AreaLaws.{length_block}
use Rattle.home.specs.BytesLaws.{part_join}
use Rattle.layout.proofs.EditsLaws.{length-insert, length-amend}
use Rattle.home.specs.HomeLaws.{block_starts, block_records}
use Rattle.lists.specs.Lists.{holding, grown, shrunk, relisted, inserted_here, removed_here, set_here}

-- ---- edits of a run of bytes: i records' bytes p, then the rest

inserted_in : (p q z : List ℕ) (i : ℕ) (r : Record) → length p ≡ 8 * i → length z ≡ 8 → inserted (p ++ (q ++ z)) i r ≡ p ++ (bytes_of r ++ q)
unfolding inserted up
inserted_in p q z i r a b =
    let l : List ℕ = p ++ (q ++ z) in
    let m : List ℕ = take 8 (q ++ z) in
    let n : length l - (8 * i + 8) ≡ length q = omega (arith, length-append p (q ++ z), length-append q z) in
    let k : length m ≡ 8 = length-take-le 8 (q ++ z) (omega (arith, length-append q z)) in
    let s : over (q ++ z) 8 q ≡ m ++ (q ++ []) = over_is (q ++ z) 8 q (omega (arith, length-append q z)) ∙ ap (λ (x : List ℕ). m ++ (q ++ x)) (drop_of_length-le (q ++ z) {i = 8 + length q} (omega (arith, length-append q z))) in
    ap (λ (x : ℕ). over (over l (8 * i + 8) (part l (8 * i) x)) (8 * i) (bytes_of r)) n
    ∙ ap (λ (x : List ℕ). over (over l (8 * i + 8) x) (8 * i) (bytes_of r)) (part_join (8 * i) (length q) p q z a refl)
    ∙ ap (λ (x : List ℕ). over x (8 * i) (bytes_of r)) (over-behind p (q ++ z) (8 * i) 8 q a ∙ ap (λ (x : List ℕ). p ++ x) s)
    ∙ over_seam p m (q ++ []) (bytes_of r) (8 * i) a (k ∙ sym (length-bytes_of r))
    ∙ ap (λ (x : List ℕ). p ++ (bytes_of r ++ x)) (append-nil q)

removed_in : (p x q : List ℕ) (i : ℕ) → length p ≡ 8 * i → length x ≡ 8 → removed (p ++ (x ++ q)) i ≡ p ++ q ++ replicate 8 0
unfolding removed down
removed_in p x q i a b =
    let l : List ℕ = p ++ (x ++ q) in
    let z : List ℕ = replicate 8 0 in
    let d : List ℕ = drop (0 + length q) (x ++ q) in
    let k : length d ≡ 8 = length-drop (0 + length q) (x ++ q) ∙ omega (arith, length-append x q) in
    let n : length l - (8 * i + 8) ≡ length q = omega (arith, length-append p (x ++ q), length-append x q) in
    let m : length l - 8 ≡ length (p ++ q) = omega (arith, length-append p (x ++ q), length-append x q, length-append p q) in
    let s : over (x ++ q) 0 q ≡ q ++ d = over_is (x ++ q) 0 q (omega (arith, length-append x q)) in
    let t : over l (8 * i) q ≡ p ++ (q ++ d) = ap (λ (k : ℕ). over l k q) (sym (add-zero (8 * i))) ∙ over-behind p (x ++ q) (8 * i) 0 q a ∙ ap (λ (y : List ℕ). p ++ y) s in
    ap (λ (k : ℕ). over (over l (8 * i) (part l (8 * i + 8) k)) (length l - 8) z) n
    ∙ ap (λ (y : List ℕ). over (over l (8 * i) y) (length l - 8) z) (part-behind p (x ++ q) (8 * i) 8 (length q) a ∙ ap (λ (y : List ℕ). part (x ++ y) 8 (length q)) (sym (append-nil q)) ∙ part_join 8 (length q) x q [] b refl)
    ∙ ap₂ (λ (y : List ℕ) (k : ℕ). over y k z) (t ∙ ap (λ (y : List ℕ). p ++ (q ++ y)) (sym (append-nil d)) ∙ sym (append_assoc p q (d ++ []))) m
    ∙ over_seam (p ++ q) d [] z (length (p ++ q)) refl (k ∙ sym (length-replicate {A = ℕ} 8 0))

amended_in : (p x q : List ℕ) (i m : ℕ) → length p ≡ 8 * i → length x ≡ 8 → amended (p ++ (x ++ q)) i m ≡ p ++ (set x 7 m ++ q)
unfolding amended
amended_in p x q i m a b =
    set-over (p ++ (x ++ q)) (8 * i + 7) m ∙ over-behind p (x ++ q) (8 * i) 7 (m ∷ []) a
    ∙ ap (λ (y : List ℕ). p ++ y) (over-ahead x q 7 (m ∷ []) (omega arith) ∙ ap (λ (y : List ℕ). y ++ q) (sym (set-over x 7 m)))

-- out with the bytes of l before its k-th, and with those from its (k + 8)-th on behind them
abbrev copied : List ℕ → ℕ → List ℕ → List ℕ
copied l k out =
    let front : List ℕ = take k l ++ drop k out in
    put_mid k (length front - k) front (part l (k + 8) (length l - (k + 8)))

copied_in : (x m y : List ℕ) (k : ℕ) (out : List ℕ) → length x ≡ k → length m ≡ 8 → length out ≡ k + length y → copied (x ++ (m ++ y)) k out ≡ x ++ y
copied_in x m y k out a b o =
    let d : List ℕ = drop k out in
    let n : length (x ++ (m ++ y)) - (k + 8) ≡ length y = omega (arith, length-append x (m ++ y), length-append m y) in
    let t : part (x ++ (m ++ y)) (k + 8) (length y) ≡ y = part-behind x (m ++ y) k 8 (length y) a ∙ ap (λ (l : List ℕ). part (m ++ l) 8 (length y)) (sym (append-nil y)) ∙ part_join 8 (length y) m y [] b refl in
    let e : drop (length (x ++ d) - k) d ≡ [] = drop_of_length-le d {i = length (x ++ d) - k} (omega (arith, length-append x d)) in
    ap₂ (λ (l v : List ℕ). put_mid k (length (l ++ d) - k) (l ++ d) v) (take_at x (m ++ y) k a) (ap (part (x ++ (m ++ y)) (k + 8)) n ∙ t)
    ∙ ap₂ (λ (l r : List ℕ). l ++ (y ++ drop (length (x ++ d) - k) r)) (take_at x d k a) (drop_at x d k a)
    ∙ ap (λ (r : List ℕ). x ++ (y ++ r)) e ∙ ap (λ (r : List ℕ). x ++ r) (append-nil y)

-- ---- the same of home's bytes, where n records lie at cell p

module _ (h : List ℕ) (p n j : ℕ) where
  pub length-grown : (r : Record) → j ≤ n → list_at p + 8 * n ≤ length h → length (grown h p n j r) ≡ 8 * (n + 1)
  unfolding grown
  length-grown r g i = simp length-append (omega (arith, length_part h (list_at p) (8 * j) (omega arith), length-bytes_of r, length_part h (list_at p + 8 * j) (8 * (n - j)) (omega arith)))

  pub length-shrunk : j < n → list_at p + 8 * n ≤ length h → length (shrunk h p n j) ≡ 8 * (n - 1)
  unfolding shrunk
  length-shrunk g i = simp length-append (omega (arith, length_part h (list_at p) (8 * j) (omega arith), length_part h (list_at p + 8 * j + 8) (8 * (n - (j + 1))) (omega arith)))

  grown_is : (r : Record) (z : List ℕ) → j ≤ n → list_at p + 8 * n ≤ length h → length z ≡ 8 → inserted (part h (list_at p) (8 * n) ++ z) j r ≡ grown h p n j r
  unfolding grown
  grown_is r z g i b =
      let x : List ℕ = part h (list_at p) (8 * j) in
      let y : List ℕ = part h (list_at p + 8 * j) (8 * (n - j)) in
      let e : 8 * n ≡ 8 * j + 8 * (n - j) = omega arith in
      ap (λ (l : List ℕ). inserted (l ++ z) j r) (ap (part h (list_at p)) e ∙ part-add h (list_at p) (8 * j) (8 * (n - j)))
      ∙ ap (λ (l : List ℕ). inserted l j r) (append_assoc x y z)
      ∙ inserted_in x y z j r (length_part h (list_at p) (8 * j) (omega arith)) b

  -- in the cells lent, and in a run to which the list was copied
  pub inserted-lent : (r : Record) → j ≤ n → list_at p + 8 * (n + 1) ≤ length h
      → inserted (take (list_at p + 8 * (n + 1) - list_at p) (drop (list_at p) h)) j r ≡ grown h p n j r
  inserted-lent r g i =
      let e : 8 * (n + 1) ≡ 8 * n + 8 = omega arith in
      ap (λ (l : List ℕ). inserted l j r) (part_of h (list_at p) (8 * (n + 1)) ∙ ap (part h (list_at p)) e ∙ part-add h (list_at p) (8 * n) 8)
      ∙ grown_is r (part h (list_at p + 8 * n) 8) g (omega arith) (length_part h (list_at p + 8 * n) 8 (omega arith))

  pub inserted_grown : (r : Record) (out : List ℕ) → j ≤ n → list_at p + 8 * n ≤ length h → length out ≡ 8 * (n + 1)
      → inserted (take (list_at p + 8 * n - list_at p) (drop (list_at p) h) ++ drop (length (take (list_at p + 8 * n - list_at p) (drop (list_at p) h))) out) j r ≡ grown h p n j r
  inserted_grown r out g i o =
      let l : List ℕ = part h (list_at p) (8 * n) in
      let m : length l ≡ 8 * n = length_part h (list_at p) (8 * n) i in
      ap (λ (x : List ℕ). inserted (x ++ drop (length x) out) j r) (part_of h (list_at p) (8 * n))
      ∙ grown_is r (drop (length l) out) g i (length-drop (length l) out ∙ omega arith)

  -- the copy written over the run's first bytes
  pub inserted_copy : (r : Record) (out : List ℕ) → j ≤ n → list_at p + 8 * n ≤ length h → length out ≡ 8 * (n + 1)
      → inserted (over out 0 (take (list_at p + 8 * n - list_at p) (drop (list_at p) h))) j r ≡ grown h p n j r
  inserted_copy r out g i o =
      let l : List ℕ = part h (list_at p) (8 * n) in
      let m : length l ≡ 8 * n = length_part h (list_at p) (8 * n) i in
      ap (λ (x : List ℕ). inserted x j r) (ap (over out 0) (part_of h (list_at p) (8 * n)) ∙ over_is out 0 l (omega arith))
      ∙ grown_is r (drop (0 + length l) out) g i (length-drop (0 + length l) out ∙ omega arith)

  -- the bytes before a record, its own and those behind it
  parted : j < n → take (list_at p + 8 * n - list_at p) (drop (list_at p) h) ≡ part h (list_at p) (8 * j) ++ (part h (list_at p + 8 * j) 8 ++ part h (list_at p + 8 * j + 8) (8 * (n - (j + 1))))
  parted g =
      let k : ℕ = 8 * (n - (j + 1)) in
      let e : 8 * n ≡ 8 * j + (8 + k) = omega arith in
      part_of h (list_at p) (8 * n) ∙ ap (part h (list_at p)) e ∙ part-add h (list_at p) (8 * j) (8 + k) ∙ ap (λ (l : List ℕ). part h (list_at p) (8 * j) ++ l) (part-add h (list_at p + 8 * j) 8 k)

  pub removed-lent : j < n → list_at p + 8 * n ≤ length h
      → removed (take (list_at p + 8 * n - list_at p) (drop (list_at p) h)) j ≡ shrunk h p n j ++ replicate 8 0
  unfolding shrunk
  removed-lent g i =
      let k : ℕ = 8 * (n - (j + 1)) in
      ap (λ (l : List ℕ). removed l j) (parted g)
      ∙ removed_in (part h (list_at p) (8 * j)) (part h (list_at p + 8 * j) 8) (part h (list_at p + 8 * j + 8) k) j
      (length_part h (list_at p) (8 * j) (omega arith)) (length_part h (list_at p + 8 * j) 8 (omega arith))

  -- both sides of a record copied
  pub copied_shrunk : (out : List ℕ) → j < n → list_at p + 8 * n ≤ length h → length out ≡ 8 * (n - 1) → copied (take (list_at p + 8 * n - list_at p) (drop (list_at p) h)) (8 * j) out ≡ shrunk h p n j
  unfolding shrunk
  copied_shrunk out g i o =
      let k : ℕ = 8 * (n - (j + 1)) in
      let y : List ℕ = part h (list_at p + 8 * j + 8) k in
      ap (λ (l : List ℕ). copied l (8 * j) out) (parted g)
      ∙ copied_in (part h (list_at p) (8 * j)) (part h (list_at p + 8 * j) 8) y (8 * j) out
      (length_part h (list_at p) (8 * j) (omega arith)) (length_part h (list_at p + 8 * j) 8 (omega arith)) (omega (arith, length_part h (list_at p + 8 * j + 8) k (omega arith)))

  -- the second side written over the bytes behind the first
  pub copied_twice : (out : List ℕ) → j < n → list_at p + 8 * n ≤ length h → length out ≡ 8 * (n - 1)
      → over (over out 0 (take (list_at p + 8 * j - list_at p) (drop (list_at p) h))) (8 * j) (take (list_at p + 8 * n - (list_at p + 8 * j + 8)) (drop (list_at p + 8 * j + 8) h))
      ≡ shrunk h p n j
  unfolding shrunk part
  copied_twice out g i o =
      let x : List ℕ = part h (list_at p) (8 * j) in
      let m : length x ≡ 8 * j = length_part h (list_at p) (8 * j) (omega arith) in
      let e : list_at p + 8 * j - list_at p ≡ 8 * j = omega arith in
      let f : list_at p + 8 * n - (list_at p + 8 * j + 8) ≡ 8 * (n - (j + 1)) = omega arith in
      let y : List ℕ = part h (list_at p + 8 * j + 8) (8 * (n - (j + 1))) in
      let k : 8 * j ≡ 0 + length x = omega arith in
      ap₂ (λ (a b : ℕ). over (over out 0 (take a (drop (list_at p) h))) (8 * j) (take b (drop (list_at p + 8 * j + 8) h))) e f
      ∙ ap (λ (a : ℕ). over (over out 0 x) a y) k
      ∙ over-append out 0 x y
      ∙ over_whole out (x ++ y) (length-shrunk g i ∙ sym o)

-- ---- a list's bytes cut at a rank

bytes_append : (xs ys : List Record) → record_bytes (xs ++ ys) ≡ record_bytes xs ++ record_bytes ys
unfolding record_bytes
bytes_append [] ys = refl
bytes_append (x ∷ xs) ys = ap (λ (l : List ℕ). bytes_of x ++ l) (bytes_append xs ys) ∙ sym (append_assoc (bytes_of x) (record_bytes xs) (record_bytes ys))

bytes_mid : (xs : List Record) (x : Record) (ys : List Record) → record_bytes (xs ++ (x ∷ ys)) ≡ record_bytes xs ++ (bytes_of x ++ record_bytes ys)
unfolding record_bytes
bytes_mid xs x ys = bytes_append xs (x ∷ ys)

length_front : (j : ℕ) (rs : List Record) → j ≤ length rs → length (record_bytes (take j rs)) ≡ 8 * j
length_front j rs g = length-encode (take j rs) ∙ ap (λ (k : ℕ). 8 * k) (length-take-le j rs g)

-- a key that is there stands at its rank
pub rank-held : (k : ℕ) (rs : List Record) → held (look k rs) ≡ true → rank k rs < length rs
rank-held k rs h = by_lt (rank k rs) (length rs) (λ g. g) (λ g. never (sym (held_end k rs (omega (arith, rank-length k rs))) ∙ h))

pub length-remove : (k : ℕ) (rs : List Record) → rising rs ≡ true → held (look k rs) ≡ true → suc (length (remove k rs)) ≡ length rs
length-remove k rs e h =
    let j : ℕ = rank k rs in
    let g : j < length rs = rank-held k rs h in
    ap (λ (l : List Record). suc (length l)) (remove-at 0 k rs e h)
    ∙ simp (length-append, length-take, length-drop) (omega arith)

-- ---- bytes behind others

part_in : (l xs ys zs : List ℕ) (at k m : ℕ) → drop at l ≡ xs ++ (ys ++ zs) → length xs ≡ k → length ys ≡ m → part l (at + k) m ≡ ys
part_in l xs ys zs at k m e a b = sym (part-drop l at k m) ∙ ap (λ (x : List ℕ). part x k m) e ∙ part_join k m xs ys zs a b

part-first : (l ys zs : List ℕ) (at m : ℕ) → drop at l ≡ ys ++ zs → length ys ≡ m → part l at m ≡ ys
part-first l ys zs at m e b = ap (λ (k : ℕ). part l k m) (sym (add-zero at)) ∙ part_in l [] ys zs at 0 m e refl b

set_minutes_lem : (x : Record) (m : ℕ) → set (bytes_of x) 7 m ≡ bytes_of (lasting x m)
unfolding bytes_of bytes32 bytes16
set_minutes_lem x m = refl

-- minutes set in a list's bytes
amended_bytes : (k m : ℕ) (rs : List Record) → rising rs ≡ true → held (look k rs) ≡ true → amended (record_bytes rs) (rank k rs) m ≡ record_bytes (amend k m rs)
amended_bytes k m rs u v =
    let j : ℕ = rank k rs in
    let g : j < length rs = rank-held k rs v in
    let z : Record = record { level = 0; second = 0; phone = 0; minutes = 0 } in
    let x : Record = get_or rs j z in
    ap (λ (l : List ℕ). amended l j m) (ap record_bytes (split_at rs j z g) ∙ bytes_mid (take j rs) x (drop (suc j) rs))
    ∙ amended_in (record_bytes (take j rs)) (bytes_of x) (record_bytes (drop (suc j) rs)) j m (length_front j rs (omega arith)) (length-bytes_of x)
    ∙ ap (λ (l : List ℕ). record_bytes (take j rs) ++ (l ++ record_bytes (drop (suc j) rs))) (set_minutes_lem x m)
    ∙ sym (ap record_bytes (amend-at 0 k m rs z u v ∙ set_split rs j (lasting x m) g) ∙ bytes_mid (take j rs) (lasting x m) (drop (suc j) rs))

-- ---- a block of class c at cell p

-- a block's header, and its records with the zeros behind them
unfoldable header : ℕ → ℕ → List ℕ
header t n = bytes32 t ++ (bytes16 n ++ (0 ∷ 0 ∷ []))

unfoldable body : ℕ → ℕ → List Record → List ℕ
body step c rs = record_bytes rs ++ replicate (8 * (capacity step c - length rs)) 0

-- the zeros behind n records in room for k, and behind one more
zeros_more : (k n m : ℕ) → suc n ≡ m → m ≤ k → replicate {A = ℕ} (8 * (k - n)) 0 ≡ replicate 8 0 ++ replicate (8 * (k - m)) 0
zeros_more k n m e g =
    let a : 8 * (k - n) ≡ 8 + 8 * (k - m) = omega arith in
    ap (λ (x : ℕ). replicate {A = ℕ} x 0) a ∙ sym (replicate-append-replicate 8 (8 * (k - m)) 0)

block_is : (step c : ℕ) (b : Block) (x : List ℕ) → block_bytes step c b ++ x ≡ header b.tag (length b.list) ++ (body step c b.list ++ x)
unfolding block_bytes header body bytes32 bytes16
block_is step c b x = refl

header-count : (t n m : ℕ) (x : List ℕ) → over (header t n ++ x) 4 (bytes16 m) ≡ header t m ++ x
unfolding header bytes32 bytes16 over
header-count t n m x = refl

length-header : (t n : ℕ) → length (header t n) ≡ 8
unfolding header bytes32 bytes16
length-header t n = refl

module _ (step : ℕ) (h : List ℕ) (p c : ℕ) (b : Block) (s : Sits step c b) (e : part h (cell_at p) (8 * cells step c) ≡ block_bytes step c b) (i : cell_at p + 8 * cells step c ≤ length h) where
  lead : List ℕ
  lead = take (cell_at p) h

  back : List ℕ
  back = drop (cell_at p + 8 * cells step c) h

  block_there : drop (cell_at p) h ≡ block_bytes step c b ++ back
  unfolding back
  block_there = block_starts step h (record { cell = p; class = c; block = b }) e

  -- ---- the list

  -- what lies behind the records
  rest : List ℕ
  rest = replicate (8 * (capacity step c - length b.list)) 0 ++ back

  list_there : drop (list_at p) h ≡ record_bytes b.list ++ rest
  unfolding rest block_bytes bytes32 bytes16
  list_there = sym (drop-drop 8 (cell_at p) h) ∙ ap (drop 8) block_there ∙ append_assoc (record_bytes b.list) (replicate (8 * (capacity step c - length b.list)) 0) back

  pub block_list : records h (list_at p) (length b.list) ≡ b.list
  block_list = block_records step h p c b back block_there s

  pub block_list_bytes : part h (list_at p) (8 * length b.list) ≡ record_bytes b.list
  block_list_bytes = part-first h (record_bytes b.list) rest (list_at p) (8 * length b.list) list_there (length-encode b.list)

  -- its first j records, and those behind
  cut : (j : ℕ) → drop (list_at p) h ≡ record_bytes (take j b.list) ++ (record_bytes (drop j b.list) ++ rest)
  cut j =
      let xs : List Record = take j b.list in
      let ys : List Record = drop j b.list in
      list_there ∙ ap (λ (l : List Record). record_bytes l ++ rest) (sym (take-append-drop j b.list)) ∙ ap (λ (l : List ℕ). l ++ rest) (bytes_append xs ys)
      ∙ append_assoc (record_bytes xs) (record_bytes ys) rest

  front : (j : ℕ) → j ≤ length b.list → part h (list_at p) (8 * j) ≡ record_bytes (take j b.list)
  front j g = part-first h (record_bytes (take j b.list)) (record_bytes (drop j b.list) ++ rest) (list_at p) (8 * j) (cut j) (length_front j b.list g)

  behind : (j : ℕ) → j ≤ length b.list → part h (list_at p + 8 * j) (8 * (length b.list - j)) ≡ record_bytes (drop j b.list)
  behind j g =
      let k : ℕ = length b.list - j in
      part_in h (record_bytes (take j b.list)) (record_bytes (drop j b.list)) rest (list_at p) (8 * j) (8 * k) (cut j) (length_front j b.list g)
      (length-encode (drop j b.list) ∙ ap (λ (m : ℕ). 8 * m) (length-drop j b.list))

  -- ---- the changed list made aside

  pub insert_aside_is : (r : Record) → grown h p (length b.list) (rank (key r) b.list) r ≡ record_bytes (insert r b.list)
  unfolding grown
  insert_aside_is r =
      let j : ℕ = rank (key r) b.list in
      let g : j ≤ length b.list = rank-length (key r) b.list in
      ap₂ (λ (x y : List ℕ). x ++ (bytes_of r ++ y)) (front j g) (behind j g)
      ∙ sym (ap record_bytes (insert-at r b.list) ∙ bytes_mid (take j b.list) r (drop j b.list))

  pub remove_aside_is : (k : ℕ) → held (look k b.list) ≡ true → shrunk h p (length b.list) (rank k b.list) ≡ record_bytes (remove k b.list)
  unfolding shrunk
  remove_aside_is k v =
      let n : ℕ = length b.list in
      let j : ℕ = rank k b.list in
      let g : j < n = rank-held k b.list v in
      let x : list_at p + 8 * j + 8 ≡ list_at p + 8 * suc j = omega arith in
      let y : n - (j + 1) ≡ n - suc j = omega arith in
      ap₂ (λ (x y : List ℕ). x ++ y) (front j (omega arith)) (ap₂ (λ (x y : ℕ). part h x (8 * y)) x y ∙ behind (suc j) g)
      ∙ sym (ap record_bytes (remove-at 0 k b.list s.rising v) ∙ bytes_append (take j b.list) (drop (suc j) b.list))

  -- ---- the list changed in its block

  length_lead : length lead ≡ cell_at p
  unfolding lead
  length_lead = length-take-le (cell_at p) h (omega arith)

  whole : h ≡ lead ++ (block_bytes step c b ++ back)
  unfolding lead
  whole = sym (take-append-drop (cell_at p) h) ∙ ap (λ (x : List ℕ). take (cell_at p) h ++ x) block_there

  -- bytes written over the records' first ones
  list_over : (l r bs : List ℕ) → body step c b.list ≡ l ++ r → length l ≡ length bs
      → over h (list_at p) bs ≡ lead ++ (header b.tag (length b.list) ++ (bs ++ (r ++ back)))
  list_over l r bs a g =
      let hd : List ℕ = header b.tag (length b.list) in
      ap (λ (x : List ℕ). over x (list_at p) bs)
      (whole ∙ ap (λ (x : List ℕ). lead ++ x) (block_is step c b back ∙ ap (λ (x : List ℕ). hd ++ x) (ap (λ (x : List ℕ). x ++ back) a ∙ append_assoc l r back)))
      ∙ over-behind lead (hd ++ (l ++ (r ++ back))) (cell_at p) 8 bs length_lead
      ∙ ap (λ (x : List ℕ). lead ++ x) (over_seam hd l (r ++ back) bs 8 (length-header b.tag (length b.list)) g)

  block_over : (xs : List Record) → length xs ≤ capacity step c → over h (cell_at p) (block_bytes step c (holding b xs)) ≡ lead ++ (header b.tag (length xs) ++ (body step c xs ++ back))
  block_over xs g =
      let v : List ℕ = block_bytes step c (holding b xs) in
      ap (λ (x : List ℕ). over x (cell_at p) v) whole
      ∙ over_seam lead (block_bytes step c b) back v (cell_at p) length_lead (length_block step c b (omega (arith, s.room, cells_is step c)) ∙ sym (length_block step c (holding b xs) g))
      ∙ ap (λ (x : List ℕ). lead ++ x) (block_is step c (holding b xs) back)

  joined : (xs : List Record) (r bs : List ℕ) → bs ++ r ≡ body step c xs → bs ++ (r ++ back) ≡ body step c xs ++ back
  joined xs r bs d = sym (append_assoc bs r back) ∙ ap (λ (x : List ℕ). x ++ back) d

  relisted_is : (xs : List Record) (l r bs : List ℕ) → body step c b.list ≡ l ++ r → length l ≡ length bs → bs ++ r ≡ body step c xs → length xs ≤ capacity step c
      → relisted h p (length xs) bs ≡ over h (cell_at p) (block_bytes step c (holding b xs))
  unfolding relisted
  relisted_is xs l r bs a g d q =
      let t : ℕ = b.tag in
      ap (λ (x : List ℕ). over x (cell_at p + 4) (bytes16 (length xs))) (list_over l r bs a g)
      ∙ over-behind lead (header t (length b.list) ++ (bs ++ (r ++ back))) (cell_at p) 4 (bytes16 (length xs)) length_lead
      ∙ ap (λ (x : List ℕ). lead ++ x) (header-count t (length b.list) (length xs) (bs ++ (r ++ back)) ∙ ap (λ (x : List ℕ). header t (length xs) ++ x) (joined xs r bs d))
      ∙ sym (block_over xs q)

  pub insert_here_is : (r : Record) → suc (length b.list) ≤ capacity step c
      → inserted_here h p (length b.list) (rank (key r) b.list) r ≡ over h (cell_at p) (block_bytes step c (holding b (insert r b.list)))
  unfolding inserted_here body
  insert_here_is r g =
      let xs : List Record = insert r b.list in
      let bs : List ℕ = record_bytes b.list in
      let z : List ℕ = replicate (8 * (capacity step c - suc (length b.list))) 0 in
      let m : length b.list + 1 ≡ length xs = omega (arith, length-insert r b.list) in
      ap₂ (λ (k : ℕ) (l : List ℕ). relisted h p k l) m (insert_aside_is r)
      ∙ relisted_is xs (bs ++ replicate 8 0) z (record_bytes xs)
      (ap (λ (l : List ℕ). bs ++ l) (zeros_more (capacity step c) (length b.list) (suc (length b.list)) refl g) ∙ sym (append_assoc bs (replicate 8 0) z))
      (omega (arith, length-append bs (replicate 8 0), length-encode b.list, length-encode xs))
      (ap (λ (k : ℕ). record_bytes xs ++ replicate (8 * (capacity step c - k)) 0) (sym (length-insert r b.list)))
      (omega arith)

  pub remove_here_is : (k : ℕ) → held (look k b.list) ≡ true
      → removed_here h p (length b.list) (rank k b.list) ≡ over h (cell_at p) (block_bytes step c (holding b (remove k b.list)))
  unfolding removed_here body
  remove_here_is k v =
      let xs : List Record = remove k b.list in
      let bs : List ℕ = record_bytes xs in
      let z : List ℕ = replicate (8 * (capacity step c - length b.list)) 0 in
      let m : suc (length xs) ≡ length b.list = length-remove k b.list s.rising v in
      ap₂ (λ (k : ℕ) (l : List ℕ). relisted h p k (l ++ replicate 8 0)) (omega arith) (remove_aside_is k v)
      ∙ relisted_is xs (record_bytes b.list) z (bs ++ replicate 8 0) refl
      (omega (arith, length-append bs (replicate 8 0), length-encode b.list, length-encode xs))
      (append_assoc bs (replicate 8 0) z ∙ ap (λ (l : List ℕ). bs ++ l) (sym (zeros_more (capacity step c) (length xs) (length b.list) m (omega (arith, s.room, cells_is step c)))))
      (omega (arith, s.room, cells_is step c))

  pub set_here_is : (k m : ℕ) → held (look k b.list) ≡ true
      → set_here h p (length b.list) (rank k b.list) m ≡ over h (cell_at p) (block_bytes step c (holding b (amend k m b.list)))
  unfolding set_here body
  set_here_is k m v =
      let xs : List Record = amend k m b.list in
      let z : List ℕ = replicate (8 * (capacity step c - length b.list)) 0 in
      let q : length xs ≡ length b.list = length-amend k m b.list in
      ap (λ (l : List ℕ). over h (list_at p) l) (ap (λ (l : List ℕ). amended l (rank k b.list) m) block_list_bytes ∙ amended_bytes k m b.list s.rising v)
      ∙ list_over (record_bytes b.list) z (record_bytes xs) refl (omega (arith, length-encode b.list, length-encode xs))
      ∙ ap₂ (λ (n : ℕ) (l : List ℕ). lead ++ (header b.tag n ++ l)) (sym q) (joined xs z (record_bytes xs) (ap (λ (n : ℕ). record_bytes xs ++ replicate (8 * (capacity step c - n)) 0) (sym q)))
      ∙ sym (block_over xs (omega (arith, s.room, cells_is step c)))
