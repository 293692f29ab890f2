-- Laws of the calls' stores: how many they are, and what a whole log leaves.
use Rattle.std.specs.Prelude.{◌≡◌, refl, ℕ, ◌+◌, ◌*◌, ◌≤◌, ◌<◌, length}
use Rattle.std.proofs.Math.Path.{ap}
use Rattle.std.proofs.Common.{◌∙◌, arith, length-append}
use mathlib.Core.List.{List, [], ◌∷◌, ◌++◌}
use Rattle.wire.specs.Bytes.{over, bytes16}
use Rattle.wire.specs.BytesLaws.{get16_same, get16-over, length-bytes16, length_over, over-low, over_high}
use Rattle.wire.specs.All.{All}
use Rattle.redo.specs.Store.{apply, run}
use Rattle.redo.specs.StoreLaws.{apply-append, length-apply, apply-run}
use Rattle.redo.specs.Image.{count}
use Rattle.redo.specs.Entry.{Entry, entry_at, entries, logged}
use Rattle.redo.specs.EntryLaws.{Long, Whole, entries_same, length-logged, length-replay, logged_reads}
use Rattle.redo.specs.Stores.{clear_mark, recover_stores, log_stores, commit_stores}

-- ---- how many

pub length_recover : (h : ℕ) {es : List Entry} → All Long es → length (recover_stores h es) ≡ 64 * length es + 1
unfolding recover_stores clear_mark run
length_recover h {es} a = rw (length-append, length-replay h a)

pub length_log : {es : List Entry} → All Long es → length (log_stores es) ≡ 66 * length es + 3
unfolding log_stores bytes16 run
length_log {es} a = rw (length-append, length-logged 0 a)

pub commit_none : (h : ℕ) (es : List Entry) → length es ≡ 0 → commit_stores h es ≡ []
unfolding commit_stores
commit_none h [] e = refl
commit_none h (x ∷ es) e = absurd (omega arith)

pub commit_is : (h : ℕ) (es : List Entry) → 0 < length es → commit_stores h es ≡ log_stores es ++ recover_stores h es
unfolding commit_stores
commit_is h [] g = absurd (omega arith)
commit_is h (x ∷ es) g = refl

pub length_commit : (h : ℕ) (es : List Entry) → 0 < length es → All Long es → length (commit_stores h es) ≡ 130 * length es + 4
length_commit h es g a = rw (commit_is h es g, length-append, length_log a, length_recover h a) (omega arith)

-- ---- a whole log

module _ (l : List ℕ) {es : List Entry} (a : All (Whole 65536) es) (few : length es < 65536) (fits : entry_at (length es) ≤ length l) where
  x : List ℕ
  x = apply (logged 0 es) l

  y : List ℕ
  y = over x 8 (bytes16 (length es))

  long_x : length x ≡ length l
  unfolding x
  long_x = length-apply (logged 0 es) l

  log_is : apply (log_stores es) l ≡ over y 10 (165 ∷ [])
  unfolding log_stores x y
  log_is =
      apply-append (logged 0 es) (run 8 (bytes16 (length es)) ++ run 10 (165 ∷ [])) l
      ∙ apply-append (run 8 (bytes16 (length es))) (run 10 (165 ∷ [])) (apply (logged 0 es) l)
      ∙ apply-run 10 (165 ∷ []) (apply (run 8 (bytes16 (length es))) (apply (logged 0 es) l))
      ∙ ap (λ (z : List ℕ). over z 10 (165 ∷ [])) (apply-run 8 (bytes16 (length es)) (apply (logged 0 es) l))

  pub log_count : count (apply (log_stores es) l) ≡ length es
  unfolding y
  log_count =
      rw log_is
      (get16_same y (over y 10 (165 ∷ [])) 8 (over-low y 10 (165 ∷ []) 8 (omega arith)) (over-low y 10 (165 ∷ []) 9 (omega arith))
      ∙ get16-over x 8 (length es) (omega (arith, long_x)) few)

  pub log_entries : entries (apply (log_stores es) l) 0 (length es) ≡ es
  unfolding x y
  log_entries =
      rw log_is
      (entries_same x (over y 10 (165 ∷ [])) 0 (length es) (length_over y 10 (165 ∷ []) ∙ length_over x 8 (bytes16 (length es)))
      (λ i b c. over_high y 10 (165 ∷ []) i (omega arith) ∙ over_high x 8 (bytes16 (length es)) i (omega (arith, length-bytes16 (length es))))
      ∙ logged_reads 0 l a (omega arith))
