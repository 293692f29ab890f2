-- Laws of log entries: a log that was written reads back, and its replay makes home the workspace.
use Rattle.std.specs.Prelude.{◌≡◌, refl, true, false, ◌&&◌, ℕ, zero, suc, ◌+◌, ◌-◌, ◌*◌, ◌≤◌, ◌<◌, List, [], ◌∷◌, ◌++◌, length, take, drop, get_or, leb, ltb}
use Rattle.std.proofs.Common.{sym, ap, ap₂, ◌∙◌, arith, add-zero, zero-add, add-suc, suc-add, append_assoc, append-nil, length-append, length-drop, take-append-drop, drop_of_length-le, drop_at, take_at, take-add, drop-drop, length-take-le, take_all}
use Rattle.std.proofs.Math.Numerals.{add-one}
use borrow.Author.Tests.{leb-true, ltb-true, le-leb, lt-leb, lt-ltb, le-ltb}
use Rattle.wire.specs.Bytes.{part, over, get16, bytes16, equal}
use Rattle.wire.specs.BytesLaws.{part_same, get16_same, get16-over, length_part, over_is, length_over, over-low, part-over, equal_is}
use Rattle.wire.specs.Cases.{both, by_test}
use Rattle.wire.specs.All.{All, none, more, all_append, all_map}
use Rattle.redo.specs.Store.{Store, apply, run}
use Rattle.redo.specs.StoreLaws.{apply-append, length-apply, length_run, run-append, apply-run, drop-run, Go, go_run, kept}
use Rattle.redo.specs.Entry.{Entry, page, entry_at, entry, entries, rising, changes, logged, replay}

-- an entry with a whole page
abbrev pub Long : Entry → Type 0
Long e = length e.bytes ≡ 64

-- whose number is below q
pub record Whole (q : ℕ) (e : Entry) : Type 0 where
  pub below : e.page < q
  pub long : Long e

-- ---- entries in the image

-- entries are read from their own bytes
pub entry_same : (l l' : List ℕ) (j : ℕ) → length l' ≡ length l → ((i : ℕ) → entry_at j ≤ i → i < entry_at (suc j) → get_or l' i 0 ≡ get_or l i 0)
    → entry l' j ≡ entry l j
unfolding entry
entry_same l l' j e f = λ i. record {
  page = get16_same l l' (entry_at j) (f (entry_at j) (omega arith) (omega arith)) (f (entry_at j + 1) (omega arith) (omega arith)) i;
  bytes = part_same l l' (entry_at j + 2) 64 e (λ k g h. f k (omega arith) (omega arith)) i;
}

pub entries_same : (l l' : List ℕ) (j n : ℕ) → length l' ≡ length l → ((i : ℕ) → entry_at j ≤ i → i < entry_at (j + n) → get_or l' i 0 ≡ get_or l i 0)
    → entries l' j n ≡ entries l j n
unfolding entries
entries_same l l' j zero e f = refl
entries_same l l' j (suc n) e f =
    ap₂ (λ (x : Entry) (xs : List Entry). x ∷ xs)
    (entry_same l l' j e (λ i g h. f i g (omega arith)))
    (entries_same l l' (suc j) n e (λ i g h. f i (omega arith) (omega arith)))

pub entries_none : (l : List ℕ) (j : ℕ) → entries l j 0 ≡ []
unfolding entries
entries_none l j = refl

pub entries-first : (l : List ℕ) (j k : ℕ) → j < k → entries l j (k - j) ≡ entry l j ∷ entries l (j + 1) (k - (j + 1))
unfolding entries
entries-first l j k g = let e : k - j ≡ suc (k - (j + 1)) = omega arith in rw (e, add-one j)

pub entries_last : (l : List ℕ) (j n : ℕ) → entries l j (suc n) ≡ entries l j n ++ (entry l (j + n) ∷ [])
unfolding entries
entries_last l j zero = rw add-zero
entries_last l j (suc n) = ap (λ (xs : List Entry). entry l j ∷ xs) (rw (add-suc, ← suc-add) (entries_last l (suc j) n))

pub length-entries : (l : List ℕ) (j n : ℕ) → length (entries l j n) ≡ n
unfolding entries
length-entries l j zero = refl
length-entries l j (suc n) = ap suc (length-entries l (suc j) n)

pub entries_long : (l : List ℕ) (j n : ℕ) → entry_at (j + n) ≤ length l → All Long (entries l j n)
unfolding entries entry
entries_long l j zero g = none
entries_long l j (suc n) g = more (length_part l (entry_at j + 2) 64 (omega arith)) (entries_long l (suc j) n (omega arith))

-- ---- the order of page numbers

rising_step : (low limit : ℕ) (e : Entry) (es : List Entry) → rising low limit (e ∷ es) ≡ true
    → (low ≤ e.page) × (e.page < limit) × (rising (suc e.page) limit es ≡ true)
unfolding rising
rising_step low limit e es t =
    let a = both (leb low e.page && ltb e.page limit) (rising (suc e.page) limit es) t in
    let b = both (leb low e.page) (ltb e.page limit) a.0 in
    (leb-true _ _ b.0, ltb-true _ _ b.1, a.1)

rising-made : (low limit : ℕ) (e : Entry) (es : List Entry) → low ≤ e.page → e.page < limit → rising (suc e.page) limit es ≡ true
    → rising low limit (e ∷ es) ≡ true
unfolding rising
rising-made low limit e es a b c = rw (le-leb low e.page a, lt-ltb e.page limit b, c)

pub rising-below : (low limit : ℕ) (es : List Entry) → rising low limit es ≡ true → All (λ e. e.page < limit) es
rising-below low limit [] t = none
rising-below low limit (e ∷ es) t = let s = rising_step low limit e es t in more s.1 (rising-below (suc e.page) limit es s.2)

-- a page at the limit may follow, with the limit one higher
rising_last : (low p : ℕ) (es : List Entry) (e : Entry) → e.page ≡ p → low ≤ p → rising low p es ≡ true → rising low (suc p) (es ++ (e ∷ [])) ≡ true
unfolding rising
rising_last low p [] e q g t = rising-made low (suc p) e [] (omega arith) (omega arith) refl
rising_last low p (x ∷ es) e q g t =
    let s = rising_step low p x es t in
    rising-made low (suc p) x (es ++ (e ∷ [])) s.0 (omega arith) (rising_last (suc x.page) p es e q s.1 s.2)

rising_higher : (low p : ℕ) (es : List Entry) → rising low p es ≡ true → rising low (suc p) es ≡ true
unfolding rising
rising_higher low p [] t = refl
rising_higher low p (x ∷ es) t =
    let s = rising_step low p x es t in
    rising-made low (suc p) x es s.0 (omega arith) (rising_higher (suc x.page) p es s.2)

-- one turn of the check, at an entry whose page number is p
module _ (l : List ℕ) (limit low j k p : ℕ) (g : j < k) (e : p ≡ get16 l (entry_at j)) where
  pub rising_turn : rising low limit (entries l j (k - j)) ≡ (leb low p && ltb p limit) && rising (p + 1) limit (entries l (j + 1) (k - (j + 1)))
  unfolding rising entry
  rising_turn = rw (entries-first l j k g, ← e, ← add-one p)

  pub rising-low : p < low → rising low limit (entries l j (k - j)) ≡ false
  unfolding rising entry
  rising-low h = rw (entries-first l j k g, ← e, lt-leb low p h)

  pub rising_high : low ≤ p → limit ≤ p → rising low limit (entries l j (k - j)) ≡ false
  unfolding rising entry
  rising_high f h = rw (entries-first l j k g, ← e, le-leb low p f, le-ltb p limit h)

  pub rising-next : low ≤ p → p < limit → rising low limit (entries l j (k - j)) ≡ rising (p + 1) limit (entries l (j + 1) (k - (j + 1)))
  unfolding rising entry
  rising-next f h = rw (entries-first l j k g, ← e, le-leb low p f, lt-ltb p limit h, ← add-one p)

pub rising_end : (l : List ℕ) (limit low j k : ℕ) → k ≤ j → rising low limit (entries l j (k - j)) ≡ true
unfolding rising entries
rising_end l limit low j k g = let e : k - j ≡ 0 = omega arith in rw e

-- ---- the pages that differ

-- one page more: as it was, or with that page
module _ (H w : List ℕ) (p : ℕ) where
  pub changes_same : equal (page H p) (page w p) ≡ true → changes H w (suc p) ≡ changes H w p
  unfolding changes
  changes_same e = rw e (append-nil (changes H w p))

  pub changes_more : equal (page H p) (page w p) ≡ false → changes H w (suc p) ≡ changes H w p ++ (record { page = p; bytes = page w p } ∷ [])
  unfolding changes
  changes_more e = rw e

pub changes-none : (H w : List ℕ) → changes H w 0 ≡ []
unfolding changes
changes-none H w = refl

pub changes-rising : (H w : List ℕ) (q : ℕ) → rising 0 q (changes H w q) ≡ true
unfolding changes rising
changes-rising H w zero = refl
changes-rising H w (suc p) = by_test (equal (page H p) (page w p))
    (λ e. rw (changes_same H w p e) (rising_higher 0 p (changes H w p) (changes-rising H w p)))
    (λ e. rw (changes_more H w p e) (rising_last 0 p (changes H w p) _ refl (omega arith) (changes-rising H w p)))

pub changes_whole : (H w : List ℕ) (q : ℕ) → 64 * q ≤ length w → All (Whole q) (changes H w q)
unfolding changes
changes_whole H w zero g = none
changes_whole H w (suc p) g =
    let old : All (Whole (suc p)) (changes H w p) = all_map (λ e r. record { below = omega arith; long = r.long }) (changes_whole H w p (omega arith)) in
    by_test (equal (page H p) (page w p))
    (λ e. rw (changes_same H w p e) old)
    (λ e. rw (changes_more H w p e) (all_append old (more (record { below = omega arith; long = length_part w (64 * p) 64 (omega arith) }) none)))

pub changes_few : (H w : List ℕ) (q : ℕ) → length (changes H w q) ≤ q
unfolding changes
changes_few H w zero = omega arith
changes_few H w (suc p) =
    let old = changes_few H w p in
    by_test (equal (page H p) (page w p))
    (λ e. rw (changes_same H w p e) (omega arith))
    (λ e. rw (changes_more H w p e, length-append) (omega arith))

-- ---- writing and replaying entries

pub logged-append : (j : ℕ) (es fs : List Entry) → logged j (es ++ fs) ≡ logged j es ++ logged (j + length es) fs
unfolding logged
logged-append j [] fs = rw add-zero
logged-append j (e ∷ es) fs = rw (logged-append (suc j) es fs, add-suc, suc-add j (length es), append_assoc)

pub replay-append : (h : ℕ) (es fs : List Entry) → replay h (es ++ fs) ≡ replay h es ++ replay h fs
unfolding replay
replay-append h [] fs = refl
replay-append h (e ∷ es) fs = rw (replay-append h es fs, append_assoc)

pub length-logged : (j : ℕ) {es : List Entry} → All Long es → length (logged j es) ≡ 66 * length es
unfolding logged bytes16
length-logged j none = refl
length-logged j (more {xs = es} g a) = rw (length-append, length_run, length-logged (suc j) a) (omega arith)

pub length-replay : (h : ℕ) {es : List Entry} → All Long es → length (replay h es) ≡ 64 * length es
unfolding replay
length-replay h none = refl
length-replay h (more {xs = es} g a) = rw (length-append, length_run, length-replay h a) (omega arith)

-- the entries' own places
pub go_logged : (j : ℕ) {es : List Entry} → All Long es → Go (λ a. (entry_at j ≤ a) × (a < entry_at (j + length es))) (logged j es)
unfolding logged bytes16
go_logged j none = none
go_logged j (more {x = e} {xs = es} g a) =
    all_append
    (go_run (λ a. (entry_at j ≤ a) × (a < entry_at (j + suc (length es)))) (entry_at j) (bytes16 e.page ++ e.bytes) (λ i b c. (omega arith, omega arith)))
    (all_map (λ s r. (omega arith, omega arith)) (go_logged (suc j) a))

pub go_replay : (h : ℕ) (es : List Entry) → Go (λ a. h ≤ a) (replay h es)
unfolding replay
go_replay h [] = none
go_replay h (e ∷ es) = all_append (go_run (λ a. h ≤ a) (h + 64 * e.page) e.bytes (λ i b c. omega arith)) (go_replay h es)

-- ---- a log reads back

-- one entry: its number, then its page
written : (l : List ℕ) (a p : ℕ) (bs : List ℕ) → apply (run a (bytes16 p ++ bs)) l ≡ over (over l a (bytes16 p)) (a + 2) bs
unfolding bytes16
written l a p bs =
    ap (λ (ss : List Store). apply ss l) (run-append a (bytes16 p) bs)
    ∙ apply-append (run a (bytes16 p)) (run (a + 2) bs) l
    ∙ apply-run (a + 2) bs (apply (run a (bytes16 p)) l)
    ∙ ap (λ (x : List ℕ). over x (a + 2) bs) (apply-run a (bytes16 p) l)

entry-logged : (l : List ℕ) (j : ℕ) (e : Entry) → Whole 65536 e → entry_at (suc j) ≤ length l
    → entry (apply (run (entry_at j) (bytes16 e.page ++ e.bytes)) l) j ≡ e
unfolding entry
entry-logged l j e r g =
    let a : ℕ = entry_at j in
    let x : List ℕ = over l a (bytes16 e.page) in
    let y : List ℕ = over x (a + 2) e.bytes in
    let number : get16 y a ≡ e.page =
    get16_same x y a (over-low x (a + 2) e.bytes a (omega arith)) (over-low x (a + 2) e.bytes (a + 1) (omega arith))
    ∙ get16-over l a e.page (omega arith) r.below in
    let fits : a + 2 + length e.bytes ≤ length x = rw length_over (omega (arith, r.long)) in
    let bytes : part y (a + 2) 64 ≡ e.bytes = ap (part y (a + 2)) (sym r.long) ∙ part-over x (a + 2) e.bytes fits in
    rw (written l a e.page e.bytes) (λ i. record { page = number i; bytes = bytes i })

pub logged_reads : (j : ℕ) {es : List Entry} (l : List ℕ) → All (Whole 65536) es → entry_at (j + length es) ≤ length l
    → entries (apply (logged j es) l) j (length es) ≡ es
unfolding entries logged
logged_reads j l none g = refl
logged_reads j l (more {x = e} {xs = es} r a) g =
    let l₁ : List ℕ = apply (run (entry_at j) (bytes16 e.page ++ e.bytes)) l in
    let long : length l₁ ≡ length l = length-apply (run (entry_at j) (bytes16 e.page ++ e.bytes)) l in
    let rest : List ℕ = apply (logged (suc j) es) l₁ in
    let first : entry rest j ≡ e =
    entry_same l₁ rest j (length-apply (logged (suc j) es) l₁) (λ i b c. kept (λ a. (entry_at (suc j) ≤ a) × (a < entry_at (suc j + length es))) l₁ i (go_logged (suc j) (all_map (λ e r. r.long) a)) (λ s. omega arith))
    ∙ entry-logged l j e r (omega arith) in
    ap (λ (x : List ℕ). entry x j ∷ entries x (suc j) (length es)) (apply-append (run (entry_at j) (bytes16 e.page ++ e.bytes)) (logged (suc j) es) l)
    ∙ ap₂ (λ (x : Entry) (xs : List Entry). x ∷ xs) first (logged_reads (suc j) l₁ a (omega arith))

-- ---- home becomes the workspace

-- replaying, seen from home's start
pub replay-home : (h : ℕ) (es : List Entry) (l : List ℕ) → drop h (apply (replay h es) l) ≡ apply (replay 0 es) (drop h l)
unfolding replay apply
replay-home h [] l = refl
replay-home h (e ∷ es) l =
    rw (apply-append, apply-append, zero-add)
    (replay-home h es (apply (run (h + 64 * e.page) e.bytes) l) ∙ ap (apply (replay 0 es)) (drop-run h (64 * e.page) e.bytes l))

-- the first p pages are the workspace's, the others home's
mixed : List ℕ → List ℕ → ℕ → List ℕ
mixed H w p = take (64 * p) w ++ drop (64 * p) H

next : (H w : List ℕ) (p : ℕ) → mixed H w (suc p) ≡ take (64 * p) w ++ (page w p ++ drop 64 (drop (64 * p) H))
unfolding mixed part
next H w p =
    let e : 64 * suc p ≡ 64 * p + 64 = omega arith in
    rw (e, take-add (64 * p) 64 w, ← drop-drop 64 (64 * p) H) (append_assoc (take (64 * p) w) (take 64 (drop (64 * p) w)) (drop 64 (drop (64 * p) H)))

next_same : (H w : List ℕ) (p : ℕ) → page H p ≡ page w p → mixed H w p ≡ mixed H w (suc p)
unfolding mixed part
next_same H w p e =
    ap (λ (z : List ℕ). take (64 * p) w ++ z) (sym (take-append-drop 64 (drop (64 * p) H)) ∙ ap (λ (z : List ℕ). z ++ drop 64 (drop (64 * p) H)) e)
    ∙ sym (next H w p)

next_more : (H w : List ℕ) (p : ℕ) → 64 * p + 64 ≤ length w → 64 * p + 64 ≤ length H → over (mixed H w p) (64 * p) (page w p) ≡ mixed H w (suc p)
unfolding mixed
next_more H w p g g' =
    let A : List ℕ = take (64 * p) w in
    let B : List ℕ = drop (64 * p) H in
    let a : length A ≡ 64 * p = length-take-le (64 * p) w (omega arith) in
    let b : length (page w p) ≡ 64 = length_part w (64 * p) 64 (omega arith) in
    over_is (A ++ B) (64 * p) (page w p) (simp (length-append, length-drop) (omega arith))
    ∙ ap₂ (λ (x y : List ℕ). x ++ (page w p ++ y)) (take_at A B (64 * p) a)
    (ap (λ (n : ℕ). drop (64 * p + n) (A ++ B)) b ∙ sym (drop-drop 64 (64 * p) (A ++ B)) ∙ ap (drop 64) (drop_at A B (64 * p) a))
    ∙ sym (next H w p)

replay_mixed : (H w : List ℕ) (p : ℕ) → 64 * p ≤ length w → 64 * p ≤ length H → apply (replay 0 (changes H w p)) H ≡ mixed H w p
unfolding changes replay apply mixed
replay_mixed H w zero g g' = refl
replay_mixed H w (suc p) g g' =
    let old = replay_mixed H w p (omega arith) (omega arith) in
    by_test (equal (page H p) (page w p))
    (λ e. rw (changes_same H w p e) (old ∙ next_same H w p (equal_is (page H p) (page w p) e)))
    (λ e. rw (changes_more H w p e, replay-append, apply-append, old, append-nil, zero-add) (apply-run (64 * p) (page w p) (mixed H w p) ∙ next_more H w p (omega arith) (omega arith)))

pub home_becomes : (H w : List ℕ) (q : ℕ) → length w ≡ 64 * q → length H ≡ 64 * q → apply (replay 0 (changes H w q)) H ≡ w
unfolding mixed
home_becomes H w q e f =
    replay_mixed H w q (omega arith) (omega arith)
    ∙ ap₂ (λ (x y : List ℕ). x ++ y) (take_all (64 * q) w (omega arith)) (drop_of_length-le H {i = 64 * q} (omega arith))
    ∙ append-nil w
