-- Stages of replaying and of logging: one entry, and one entry more.
use Rattle.std.specs.Prelude.{◌≡◌, false, ℕ, zero, suc, ◌+◌, ◌-◌, ◌*◌, ◌≤◌, ◌<◌, List, [], ◌∷◌, ◌++◌, length, take, drop}
use Rattle.std.proofs.Common.{ap, ◌∙◌, arith, zero-add, le_refl, le_trans, suc-add, add-one, append-nil, length-append}
use Rattle.wire.specs.Bytes.{part, get16, bytes16, equal}
use Rattle.wire.specs.BytesLaws.{length-bytes16}
use Rattle.wire.specs.Cases.{by_test}
use Rattle.wire.specs.All.{all_take}
use Rattle.redo.specs.Store.{run}
use Rattle.redo.specs.StoreLaws.{length-apply, run-append, go_run, kept, drop-kept}
use Rattle.redo.specs.Entry.{Entry, page, entry_at, entry, entries, changes, logged, replay}
use Rattle.redo.specs.EntryLaws.{entry_same, entries_last, go_replay, replay-append, logged-append, changes_same, changes_more}
use Rattle.redo.specs.Stage.{Stage, stage_more}

-- ---- replaying

module _ {n m n' m' : ℕ} {l l' : List ℕ} (h j : ℕ) where
  pub replayed_one : (p : ℕ) (bs : List ℕ) → p ≡ get16 l (entry_at j) → bs ≡ part l (entry_at j + 2) 64 → Stage n m (run (h + 64 * p) bs) l n' m' l'
      → Stage n m (replay h (entry l j ∷ [])) l n' m' l'
  unfolding replay entry
  replayed_one p bs e f s = rw (append-nil, ← e, ← f) s

  -- entries below home read as before
  pub replayed_entry : (es : List Entry) → Stage n m (replay h es) l n' m' l' → entry_at j + 66 ≤ h → entry l' j ≡ entry l j
  replayed_entry es s g =
      entry_same l l' j (rw s.bytes (length-apply (take n (replay h es)) l))
      (λ i a b. rw s.bytes (kept (λ k. h ≤ k) l i (all_take n (go_replay h es)) (λ k. omega arith)))

pub replayed_more : {n m n₁ m₁ n₂ m₂ : ℕ} {l l₁ l₂ : List ℕ} (h j : ℕ) → entry_at j + 66 ≤ h
    → Stage n m (replay h (entries l 0 j)) l n₁ m₁ l₁ → Stage n₁ m₁ (replay h (entry l₁ j ∷ [])) l₁ n₂ m₂ l₂
    → Stage n m (replay h (entries l 0 (j + 1))) l n₂ m₂ l₂
replayed_more {l} h j g s t = rw (add-one j, entries_last l 0 j, zero-add, replay-append) (stage_more s (rw (replayed_entry h j (entries l 0 j) s g) at t))

-- ---- logging

-- an entry: its number, then its page
pub logged-one : {n m n₁ m₁ n₂ m₂ : ℕ} {l l₁ l₂ : List ℕ} (at p : ℕ) (number bs : List ℕ) → number ≡ bytes16 p
    → Stage n m (run at number) l n₁ m₁ l₁ → Stage n₁ m₁ (run (at + 2) bs) l₁ n₂ m₂ l₂
    → Stage n m (run at (bytes16 p ++ bs)) l n₂ m₂ l₂
logged-one at p number bs e s t = rw (run-append, ← e) (stage_more s (rw (two at p number e) t))
  where
    two : (at p : ℕ) (number : List ℕ) → number ≡ bytes16 p → at + length number ≡ at + 2
    two at p number e = rw (e, length-bytes16)

pub logged_more : {n m n₁ m₁ n₂ m₂ : ℕ} {l l₁ l₂ : List ℕ} (es : List Entry) (e : Entry) (k : ℕ) → k ≡ length es
    → Stage n m (logged 0 es) l n₁ m₁ l₁ → Stage n₁ m₁ (run (entry_at k) (bytes16 e.page ++ e.bytes)) l₁ n₂ m₂ l₂
    → Stage n m (logged 0 (es ++ (e ∷ []))) l n₂ m₂ l₂
unfolding logged
logged_more es e k q s t = rw (logged-append, zero-add, ← q, append-nil) (stage_more s t)

-- home stays meanwhile
pub logged-home : {n m n' m' : ℕ} {l l' : List ℕ} (h k p : ℕ) (bs : List ℕ) → Stage n m (run (entry_at k) (bytes16 p ++ bs)) l n' m' l' → length bs ≡ 64 → entry_at k + 66 ≤ h
    → drop h l' ≡ drop h l
logged-home {n} {l = l} h k p bs s e g =
    ap (drop h) s.bytes ∙ drop-kept h l (all_take n (go_run (λ a. a < h) (entry_at k) (bytes16 p ++ bs) (λ i a b. omega (arith, length-append (bytes16 p) bs, length-bytes16 p))))

-- ---- the pages below p are no more than those below q

module _ (H w : List ℕ) where
  changes_grow : (p : ℕ) → length (changes H w p) ≤ length (changes H w (suc p))
  changes_grow p = by_test (equal (page H p) (page w p))
      (λ e. rw (changes_same H w p e) (le_refl _))
      (λ e. rw (changes_more H w p e, length-append) (omega arith))

  changes-beyond : (p d : ℕ) → length (changes H w p) ≤ length (changes H w (d + p))
  changes-beyond p zero = rw zero-add (le_refl _)
  changes-beyond p (suc d) = rw suc-add (le_trans (changes-beyond p d) (changes_grow (d + p)))

  pub changes_upto : (p q : ℕ) → p ≤ q → length (changes H w p) ≤ length (changes H w q)
  changes_upto p q g = let e : q - p + p ≡ q = omega arith in rw e at (changes-beyond p (q - p))

  -- a page that differs has its entry among those of all pages
  pub changes_room : (p q : ℕ) → equal (page H p) (page w p) ≡ false → p < q → length (changes H w p) + 1 ≤ length (changes H w q)
  changes_room p q e g = omega (arith, rw (changes_more H w p e, length-append) at (changes_upto (suc p) q (omega arith)))
