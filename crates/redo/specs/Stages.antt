-- A commit in two stages: its log is written, then replayed.
use Rattle.std.specs.Prelude.{◌≡◌, ℕ, ◌+◌, ◌*◌, ◌<◌, List, length, drop}
use Rattle.std.proofs.Common.{arith}
use Rattle.wire.specs.Cases.{by_lt}
use Rattle.wire.specs.All.{All, all_map}
use Rattle.redo.specs.Entry.{Entry, entries, changes, Replayable, Loggable}
use Rattle.redo.specs.EntryLaws.{Whole, changes_few, changes_whole}
use Rattle.redo.specs.Stores.{recover_stores, log_stores, commit_stores}
use Rattle.redo.specs.StoresLaws.{length_commit, commit_is, log_entries}
use Rattle.redo.specs.Stage.{Stage, stage_more, stage_empty, stage_whole}

-- home stands at h and has q pages, of which k differ from the workspace w
module _ (l : List ℕ) (h : ℕ) (w : List ℕ) (q k : ℕ) (fit : Loggable l h w q k) (some : 0 < k) where
  es : List Entry
  es = changes (drop h l) w q

  whole : All (Whole q) es
  unfolding es
  whole = changes_whole (drop h l) w q (omega (arith, fit.1))

  pub commit_needs : length (commit_stores h (changes (drop h l) w q)) ≡ 130 * k + 4
  unfolding es
  commit_needs = rw fit.2 (length_commit h es (omega (arith, fit.2)) (all_map (λ e t. t.long) whole))

  -- the log was written first
  module _ {n m n₁ m₁ : ℕ} {l₁ : List ℕ} (few : q < 65536) (s : Stage n m (log_stores (changes (drop h l) w q)) l n₁ m₁ l₁) where
    -- stores are left, so it is whole
    commit_reads : 0 < n₁ → entries l₁ 0 k ≡ changes (drop h l) w q
    unfolding es
    commit_reads g =
        rw (stage_whole s g, fit.2)
        (log_entries l (all_map (λ e t. record { below = omega (arith, t.below); long = t.long }) whole) (omega (arith, changes_few (drop h l) w q)) (omega (arith, fit.0, fit.2, fit.3)))

    pub commit_replays : length l₁ ≡ length l → 0 < n₁ → Replayable l₁ h k
    unfolding es
    commit_replays f g = (fit.3, rw (commit_reads g) (all_map (λ e t. omega (arith, t.below, fit.0)) whole), omega (arith, fit.0))

    -- a replay of what the log's stage left is the rest; with no store left, any stage is
    pub commit_stages : {n₂ m₂ : ℕ} {l₂ : List ℕ} → Stage n₁ m₁ (recover_stores h (entries l₁ 0 k)) l₁ n₂ m₂ l₂ → Stage n m (commit_stores h (changes (drop h l) w q)) l n₂ m₂ l₂
    unfolding es
    commit_stages t = rw (commit_is h es (omega (arith, fit.2))) (by_lt 0 n₁
        (λ g. stage_more s (rw (commit_reads g) at t))
        (λ g. stage_more s (stage_empty (omega arith) t)))
