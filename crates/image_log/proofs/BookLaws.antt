-- Laws of the book alone: its numbers, and what a recovery and a commit make of it, by where they are cut.
use Rattle.std.specs.Prelude.{◌≡◌, refl, Bool, true, not, ℕ, ◌+◌, ◌-◌, ◌*◌, ◌≤◌, ◌<◌, List, length, leb, ltb, eqb}
use Rattle.std.proofs.Math.Option.{none}
use Rattle.std.proofs.Common.{arith}
use borrow.Author.Tests.{le-leb, lt-leb, eq-eqb, ne_eqb, eqb-true, not-false, ltb-false}
use Rattle.wire.specs.Cases.{by_test, by_lt, by_eq}
use Rattle.refusals.specs.declared.Refusal.{Refusal}
use Rattle.refusals.specs.declared.Refusal.TheVariants.{Unrecovered, SpaceLength, UnsoundSpace, LogShort}
use Rattle.refusals.specs.Rules.{refusal}
use Rattle.refusals.specs.RulesLaws.{passes, unrefused}
use Rattle.image_log.specs.Book.{commit, recover, Book, Verdict, refused, writes, differing, kept_rules, book_rules, judge, commit_need, need_by, recover_need, logs, told_mark, recovering, committing, book_at, next}

-- ---- the book's numbers

pub need_clear : (b : Book) → b.mark ≡ 0 → recover_need b ≡ 0
unfolding recover_need need_by
need_clear b e = rw e

pub need_marked : (b : Book) → (b.mark ≡ 0 → ⊥) → recover_need b ≡ 64 * b.owed + 1
unfolding recover_need need_by
need_marked b f = rw (ne_eqb b.mark 0 f)

pub no_commit : commit_need 0 ≡ 0
unfolding commit_need
no_commit = refl

pub some_commit : (k : ℕ) → 0 < k → commit_need k ≡ 130 * k + 4
unfolding commit_need
some_commit k g = rw (ne_eqb k 0 (λ e. omega arith))

module _ (b : Book) (n v : ℕ) where
  pub recovering_done : recover_need b ≤ n → recovering b n v ≡ told_mark b 0
  unfolding recovering
  recovering_done g = rw (le-leb (recover_need b) n g)

  pub recovering_last : n + 1 ≡ recover_need b → recovering b n v ≡ told_mark b v
  unfolding recovering
  recovering_last e = rw (lt-leb (recover_need b) n (omega arith), eq-eqb (n + 1) (recover_need b) e)

  pub recovering-cut : n + 1 < recover_need b → recovering b n v ≡ b
  unfolding recovering
  recovering-cut g = rw (lt-leb (recover_need b) n (omega arith), ne_eqb (n + 1) (recover_need b) (λ e. omega arith))

  module _ (w : List ℕ) (k : ℕ) where
    pub committing_early : n < 66 * k + 2 → committing b w k n v ≡ b
    unfolding committing
    committing_early g = rw (lt-leb (66 * k + 3) n (omega arith), ne_eqb n (66 * k + 2) (λ e. omega arith))

    pub committing-mark : n ≡ 66 * k + 2 → committing b w k n v ≡ told_mark (logs b w k) v
    unfolding committing
    committing-mark e = rw (lt-leb (66 * k + 3) n (omega arith), eq-eqb n (66 * k + 2) e)

    pub committing_late : 66 * k + 3 ≤ n → committing b w k n v ≡ recovering (told_mark (logs b w k) 165) (n - (66 * k + 3)) v
    unfolding committing
    committing_late g = rw (le-leb (66 * k + 3) n g)

-- ---- cases

-- what holds of the book with the mark told as 0 or as v, and of the book, holds after a recovery
pub by_recovering : (P : Book → Type 0) (b : Book) (n v : ℕ) → P (told_mark b 0) → P (told_mark b v) → P b → P (recovering b n v)
unfolding recovering
by_recovering P b n v p q r = by_test (leb (recover_need b) n)
    (λ e. rw e p)
    (λ e. by_test (eqb (n + 1) (recover_need b)) (λ f. rw (e, f) q) (λ f. rw (e, f) r))

-- a case of where a commit is cut
pub by_committing : (P : Book → Type 0) (b : Book) (w : List ℕ) (k n v : ℕ)
    → (n < 66 * k + 2 → P b)
    → (n ≡ 66 * k + 2 → P (told_mark (logs b w k) v))
    → (66 * k + 3 ≤ n → P (recovering (told_mark (logs b w k) 165) (n - (66 * k + 3)) v))
    → P (committing b w k n v)
by_committing P b w k n v p q r = by_lt n (66 * k + 2)
    (λ g. rw (committing_early b n v w k g) (p g))
    (λ g. by_eq n (66 * k + 2)
    (λ e. rw (committing-mark b n v w k e) (q e))
    (λ e. rw (committing_late b n v w k (omega arith)) (r (omega arith))))

-- ---- a commit that is not refused

pub not_writes : (k : ℕ) (r : Refusal) → refused r ≡ writes k → ⊥
not_writes k r e = cc

module _ (accept : List ℕ → Bool) (L : ℕ) where
  pub kept_passed : (H w : List ℕ) → refusal (kept_rules accept L H w) ≡ none → (length w ≡ length H) × (accept w ≡ true) × (differing H w ≤ L)
  unfolding kept_rules
  kept_passed H w e =
      let a = passes SpaceLength (not (eqb (length w) (length H))) _ e in
      let b = passes UnsoundSpace (not (accept w)) _ a.1 in
      let c = passes LogShort (ltb L (differing H w)) _ b.1 in
      (eqb-true _ _ (not-false _ a.0), not-false _ b.0, ltb-false _ _ c.0)

  pub book_passed : (b : Book) (w : List ℕ) → refusal (book_rules accept L b w) ≡ none → (b.mark ≡ 0) × (refusal (kept_rules accept L b.kept w) ≡ none)
  unfolding book_rules
  book_passed b w e = let a = passes Unrecovered (not (eqb b.mark 0)) _ e in (eqb-true _ _ (not-false _ a.0), a.1)

  -- only with mark 0
  pub writes_clear : (b : Book) (w : List ℕ) (k : ℕ) → judge accept L b w ≡ writes k → b.mark ≡ 0
  unfolding judge
  writes_clear b w k e = (book_passed b w (unrefused refused (book_rules accept L b w) (writes (differing b.kept w)) (writes k) (not_writes k) e)).0

-- ---- what holds of home at the start and of every workspace committed

-- it holds of what is kept and of what was last logged
pub record Both (P : List ℕ → Type 0) (b : Book) : Type 0 where
  pub kept : P b.kept
  pub logged : P b.logged

module _ (P : List ℕ → Type 0) (b : Book) (h : Both P b) where
  pub told_both : (v : ℕ) → Both P (told_mark b v)
  unfolding told_mark
  told_both v = by_test (eqb v 165)
      (λ e. rw e (record { kept = h.logged; logged = h.logged }))
      (λ e. rw e (record { kept = h.kept; logged = h.logged }))

  recovering_both : (n v : ℕ) → Both P (recovering b n v)
  recovering_both n v = by_recovering (Both P) b n v (told_both 0) (told_both v) h

  pub logs_both : (w : List ℕ) (k : ℕ) → P w → Both P (logs b w k)
  unfolding logs
  logs_both w k p = record { kept = h.kept; logged = p }

committing_both : (P : List ℕ → Type 0) (b : Book) (h : Both P b) (w : List ℕ) → P w → (k n v : ℕ) → Both P (committing b w k n v)
committing_both P b h w p k n v =
    let l : Both P (logs b w k) = logs_both P b h w k p in
    by_committing (Both P) b w k n v
    (λ g. h)
    (λ g. told_both P (logs b w k) l v)
    (λ g. recovering_both P (told_mark (logs b w k) 165) (told_both P (logs b w k) l 165) (n - (66 * k + 3)) v)

module _ (accept : List ℕ → Bool) (L : ℕ) (P : List ℕ → Type 0) (b : Book) (h : Both P b) (n v : ℕ) where
  pub recover_both : Both P (next accept L b (recover n v))
  unfolding next
  recover_both = recovering_both P b h n v

  pub commit_both : (w : List ℕ) → P w → Both P (next accept L b (commit w n v))
  unfolding next book_at
  commit_both w p = at (judge accept L b w)
    where
      at : (d : Verdict) → Both P (book_at b d w n v)
      at (refused r) = h
      at (writes k) = by_test (eqb k 0) (λ e. rw e h) (λ e. rw e (committing_both P b h w p k n v))
