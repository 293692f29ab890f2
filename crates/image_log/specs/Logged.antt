-- A log that is whole, and what a commit and a recovery, torn anywhere, leave of an image.
use Rattle.std.specs.Prelude.{◌≡◌, refl, true, set, leb, Ok}
use Rattle.std.proofs.Common.{sym, ◌∙◌, inr, arith, length-take, take_all, get_or-set_same}
use Rattle.std.proofs.Math.Path.{ap, ap₂}
use Prim.Native.Nat.{ℕ, ◌+◌, ◌*◌, ◌≤◌, ◌<◌}
use Rattle.std.proofs.Math.Nat.{min-eq_left}
use mathlib.Core.List.{List, [], ◌∷◌}
use Rattle.std.proofs.Math.ListN.{length, drop}
use borrow.Author.Tests.{le-leb, leb-true, leb-false}
use Rattle.wire.specs.Cases.{by_test}
use Rattle.wire.specs.All.{All, none, more, all_map}
use Rattle.redo.specs.Store.{Store, apply, run}
use Rattle.redo.specs.StoreLaws.{apply-append, kept, drop-kept}
use Rattle.redo.specs.Image.{capacity, count, mark, pages, home_at, home, head_ok}
use Rattle.redo.specs.ImageLaws.{Fixed, SameHead, head_kept, capacity_same, pages_same, head_right, length-home}
use Rattle.redo.specs.Entry.{Entry, entry_at, entries, replay}
use Rattle.redo.specs.EntryLaws.{Long, Whole, entries_long, changes_whole, changes-rising, changes_few, length-entries, replay-home, home_becomes}
use Rattle.redo.specs.Stores.{clear_mark, recover_stores, log_stores}
use Rattle.redo.specs.StoresLaws.{length_recover, log_count, log_entries}
use Rattle.redo.specs.Stage.{take_min}
use Rattle.redo.specs.Torn.{torn, torn_is, torn_all, torn_go, torn_again}
use Rattle.image_log.specs.Calls.{store, answer, changed_pages, after, log_of, log_ok}
use Rattle.image_log.specs.CallLaws.{spare_log, below_log, log_unmarked, log_right, SameLog, count_same, log_same, log_ok_same, Spares, spares_log, recover_spares, recover_any}
use Rattle.image_log.specs.Book.{report, rest, caught, left_by}

-- ---- a plan's answer and bytes as the book puts them

pub answer-report : (ss : List Store) (n : ℕ) → answer (store ss) n ≡ Ok (report (length ss) n)
unfolding answer report
answer-report ss n = rw length-take

-- a caught byte is one more store
pub caught_is : (ss : List Store) (n v : ℕ) (l : List ℕ) → caught (store ss) n v l ≡ apply (torn n v ss) l
unfolding caught rest after
caught_is ss n v l = torn_is n v ss l

pub caught-report : (ss : List Store) (n v : ℕ) (l : List ℕ) → caught (store ss) n v l ≡ left_by (Ok (report (length ss) n)) (store ss) v l
unfolding left_by report after
caught-report ss n v l = by_test (leb (length ss) n)
    (λ e.
    let g : length ss ≤ n = leb-true (length ss) n e in
    rw e (caught_is ss n v l ∙ ap (λ (t : List Store). apply t l) (torn_all n v ss g ∙ sym (take_all n ss g) ∙ sym (take_min n ss))))
    (λ e.
    let g : n < length ss = leb-false (length ss) n e in
    let h : n ≤ length ss = omega arith in
    rw (e, min-eq_left h))

-- ---- a log that is whole

-- q right entries, and all the stores of a recovery would leave W
pub record Logged (l W : List ℕ) (q : ℕ) : Type 0 where
  pub counted : count l ≡ q
  pub right : log_ok l ≡ true
  pub comes : drop (home_at l) (apply (recover_stores (home_at l) (log_of l)) l) ≡ W

-- it stays where count and entries do, and a recovery comes to the same
logged_same : {l x W : List ℕ} {q : ℕ} → Logged l W q → SameLog l x
    → apply (recover_stores (home_at l) (log_of l)) x ≡ apply (recover_stores (home_at l) (log_of l)) l → Logged x W q
logged_same {l} {x} o s e =
    let c = log_right l o.right in
    let at : home_at x ≡ home_at l = ap (λ (k : ℕ). 64 + 66 * k) (capacity_same s.head) in
    record {
      counted = count_same s ∙ o.counted;
      right = log_ok_same s c.1 ∙ o.right;
      comes =
          ap₂ (λ (h : ℕ) (es : List Entry). drop h (apply (recover_stores h es) x)) at (log_same s c.1)
          ∙ ap (drop (home_at l)) e
          ∙ o.comes;
    }

-- ---- any value for the mark

module _ (l : List ℕ) (v : ℕ) where
  remark : SameLog l (set l 10 v)
  unfolding apply run
  remark = spares_log l {ss = run 10 (v ∷ [])} (more (inr refl) none)

  pub remark_head : SameHead l (set l 10 v)
  remark_head = remark.head

  pub remark_mark : 10 < length l → mark (set l 10 v) ≡ v
  remark_mark g = get_or-set_same l 10 v 0 g

  pub remark_home : home (set l 10 v) ≡ home l
  unfolding home apply run
  remark_home =
      ap (λ (k : ℕ). drop (64 + 66 * k) (set l 10 v)) (capacity_same remark_head)
      ∙ drop-kept (home_at l) {ss = run 10 (v ∷ [])} l (more (omega arith) none)

  pub remark_logged : {W : List ℕ} {q : ℕ} → Logged l W q → Logged (set l 10 v) W q
  remark_logged o = logged_same o remark (recover_any l (home_at l) (log_of l) v)

-- ---- a recovery of a whole log

module _ (l W : List ℕ) (q : ℕ) (ok : head_ok l ≡ true) (o : Logged l W q) where
  pub long_log : All Long (log_of l)
  long_log = let r = head_right l ok in let c = log_right l o.right in entries_long l 0 (count l) (omega arith)

  pub log_long : length (log_of l) ≡ q
  log_long = length-entries l 0 (count l) ∙ o.counted

  pub recover_length : length (recover_stores (home_at l) (log_of l)) ≡ 64 * q + 1
  recover_length = length_recover (home_at l) long_log ∙ ap (λ (k : ℕ). 64 * k + 1) log_long

  recover_same : (n v : ℕ) → SameLog l (apply (torn n v (recover_stores (home_at l) (log_of l))) l)
  recover_same n v = spares_log l (torn_go (Spares (home_at l)) n v (recover_spares (home_at l) (log_of l)))

  pub recover_head : (n v : ℕ) → SameHead l (apply (torn n v (recover_stores (home_at l) (log_of l))) l)
  recover_head n v = (recover_same n v).head

  -- torn anywhere, it leaves the log whole
  pub recover_logged : (n v : ℕ) → Logged (apply (torn n v (recover_stores (home_at l) (log_of l))) l) W q
  recover_logged n v = logged_same o (recover_same n v) (torn_again n v (recover_stores (home_at l) (log_of l)) l)

  -- all its stores leave home W
  pub recover_home : home (apply (recover_stores (home_at l) (log_of l)) l) ≡ W
  unfolding home
  recover_home =
      let s : SameLog l (apply (recover_stores (home_at l) (log_of l)) l) = spares_log l (recover_spares (home_at l) (log_of l)) in
      ap (λ (k : ℕ). drop (64 + 66 * k) (apply (recover_stores (home_at l) (log_of l)) l)) (capacity_same s.head) ∙ o.comes

-- ---- a commit with the mark clear

module _ (l w : List ℕ) (ok : head_ok l ≡ true) (same : length w ≡ 64 * pages l) (fit : length (changed_pages l w) ≤ capacity l) where
  whole : All (Whole 65536) (changed_pages l w)
  whole = let r = head_right l ok in all_map (λ e t. record { below = omega (arith, r.sizes); long = t.long }) (changes_whole (home l) w (pages l) (omega arith))

  pub long_changes : All Long (changed_pages l w)
  long_changes = all_map (λ e t. t.long) whole

  -- its log, torn anywhere, keeps the head, and home
  pub commit_torn : (n v : ℕ) → SameHead l (apply (torn n v (log_stores (changed_pages l w))) l)
  commit_torn n v = head_kept l (torn_go (λ a. Fixed a → ⊥) n v (spare_log long_changes))

  pub commit_stands : (n v : ℕ) → home (apply (torn n v (log_stores (changed_pages l w))) l) ≡ home l
  unfolding home
  commit_stands n v =
      ap (λ (k : ℕ). drop (64 + 66 * k) (apply (torn n v (log_stores (changed_pages l w))) l)) (capacity_same (commit_torn n v))
      ∙ drop-kept (home_at l) l (torn_go (λ a. a < home_at l) n v (below_log long_changes (home_at l) (omega arith)))

  -- and the mark, before its last store
  pub commit_unmarked : (n v : ℕ) → n < 66 * length (changed_pages l w) + 2 → mark (apply (torn n v (log_stores (changed_pages l w))) l) ≡ mark l
  commit_unmarked n v g = kept (λ a. a ≡ 10 → ⊥) l 10 (log_unmarked long_changes n v g) (λ f. f refl)

  -- the whole log: the head is kept, the count is the number of pages, and the entries are those pages
  pub commit_head : SameHead l (apply (log_stores (changed_pages l w)) l)
  commit_head = head_kept l (spare_log long_changes)

  few : length (changed_pages l w) < 65536
  few = let r = head_right l ok in omega (arith, changes_few (home l) w (pages l))

  room : entry_at (length (changed_pages l w)) ≤ length l
  room = let r = head_right l ok in omega arith

  pub commit_log : log_of (apply (log_stores (changed_pages l w)) l) ≡ changed_pages l w
  commit_log = ap (entries (apply (log_stores (changed_pages l w)) l) 0) (log_count l whole few room) ∙ log_entries l whole few room

  untouched : drop (home_at l) (apply (log_stores (changed_pages l w)) l) ≡ home l
  unfolding home
  untouched = drop-kept (home_at l) l (below_log long_changes (home_at l) (omega arith))

  pub commit_home : home (apply (log_stores (changed_pages l w)) l) ≡ home l
  unfolding home
  commit_home = ap (λ (k : ℕ). drop (64 + 66 * k) (apply (log_stores (changed_pages l w)) l)) (capacity_same commit_head) ∙ untouched

  -- and the log is whole for the workspace
  pub commit_logged : 0 < length (changed_pages l w) → Logged (apply (log_stores (changed_pages l w)) l) w (length (changed_pages l w))
  unfolding log_ok recover_stores clear_mark run
  commit_logged g =
      let es : List Entry = changed_pages l w in
      let x : List ℕ = apply (log_stores es) l in
      let h : ℕ = home_at l in
      let c : count x ≡ length es = log_count l whole few room in
      record {
        counted = c;
        right =
            rw (commit_log, c, capacity_same commit_head, pages_same commit_head, le-leb 1 (length es) g, le-leb (length es) (capacity l) fit)
            (changes-rising (home l) w (pages l));
        comes =
            ap₂ (λ (k : ℕ) (fs : List Entry). drop (64 + 66 * k) (apply (recover_stores (64 + 66 * k) fs) x)) (capacity_same commit_head) commit_log
            ∙ ap (drop h) (apply-append (replay h es) clear_mark x)
            ∙ drop-kept h (apply (replay h es) x) (more (omega arith) none)
            ∙ replay-home h es x
            ∙ ap (apply (replay 0 es)) untouched
            ∙ home_becomes (home l) w (pages l) same (length-home l (head_right l ok));
      }
