-- Which workspace was last logged, and which is kept: that of the last call at which the mark of a commit was stored.
use Rattle.std.specs.Prelude.{◌≡◌, Bool, ◌&&◌, not, ℕ, ◌+◌, ◌-◌, ◌*◌}
use Rattle.std.proofs.Math.Path.{refl, ap}
use Rattle.std.proofs.Common.{sym, ◌∙◌, arith}
use Rattle.std.proofs.Math.Bool.{true, false}
use Rattle.std.proofs.Math.Logic.{inl, inr}
use mathlib.Core.List.{List, ◌∷◌, []}
use Rattle.std.proofs.Math.Dec.{eqb}
use borrow.Author.Tests.{eqb-true, le-leb, lt-leb, eq-eqb, ne_eqb}
use Rattle.wire.specs.Cases.{by_test, by_eq, by_lt, both, never}
use Rattle.image_log.specs.Book.{Call, commit, recover, Book, start, Verdict, refused, writes, judge, recover_need, logs, told_mark, recovering, book_at, next, book_after}
use Rattle.image_log.proofs.BookLaws.{recovering_done, recovering_last, recovering-cut, committing_early, by_recovering, by_committing}
use Rattle.image_log.specs.Last.{Tells, further, kept, logged, logs_at, logs_whole, marks_at, nothing, stores165}

-- so it is where sane books stay sane, and a call that does not pass the test leaves what is looked at
module _ (accept : List ℕ → Bool) (L : ℕ) (test : Book → Call → Bool) (look : Book → List ℕ) (Sane : Book → Type 0)
    (sane : (b : Book) (c : Call) → Sane b → Sane (next accept L b c))
    (stays : (b : Book) (c : Call) → Sane b → test b c ≡ false → look (next accept L b c) ≡ look b) where
  last_tells : (cs : List Call) (b : Book) → Sane b → Tells accept L test look look b cs
  unfolding book_after
  last_tells [] b s = inl (nothing, refl)
  last_tells (c ∷ cs) b s = go (last_tells cs (next accept L b c) (sane b c s))
    where
      go : Tells accept L test look look (next accept L b c) cs → Tells accept L test look look b (c ∷ cs)
      go (inr (t, e)) = inr (record { earlier = c ∷ t.earlier; call = t.call; later = t.later; split = ap (λ (z : List Call). c ∷ z) t.split; passes = t.passes; never = t.never }, e)
      go (inl (u, e)) = by_test (test b c)
          (λ y. inr (record { earlier = []; call = c; later = cs; split = refl; passes = y; never = u }, e))
          (λ n. inl (further n u, e ∙ stays b c s n))

-- with mark 165 what is kept is what was last logged
abbrev Agrees : Book → Type 0
Agrees b = b.mark ≡ 165 → b.kept ≡ b.logged

told_agrees : (b : Book) (v : ℕ) → Agrees (told_mark b v)
unfolding told_mark
told_agrees b v m = rw m

recovering_agrees : (b : Book) (n v : ℕ) → Agrees b → Agrees (recovering b n v)
recovering_agrees b n v s = by_recovering Agrees b n v (told_agrees b 0) (told_agrees b v) s

-- told the mark, the book goes on with the same log
told-logged : (b : Book) (v : ℕ) → (told_mark b v).logged ≡ b.logged
unfolding told_mark
told-logged b v = refl

recovering-logged : (b : Book) (n v : ℕ) → (recovering b n v).logged ≡ b.logged
recovering-logged b n v = by_recovering (λ (c : Book). c.logged ≡ b.logged) b n v (told-logged b 0) (told-logged b v) refl

module _ (accept : List ℕ → Bool) (L : ℕ) where
  agrees : (b : Book) (c : Call) → Agrees b → Agrees (next accept L b c)
  unfolding next book_at
  agrees b (recover n v) s = recovering_agrees b n v s
  agrees b (commit w n v) s = go (judge accept L b w)
    where
      go : (d : Verdict) → Agrees (book_at b d w n v)
      go (refused r) = s
      go (writes k) = by_test (eqb k 0)
          (λ e. rw e s)
          (λ e. rw e (by_committing Agrees b w k n v (λ g. s) (λ z. told_agrees (logs b w k) v)
          (λ g. recovering_agrees (told_mark (logs b w k) 165) (n - (66 * k + 3)) v (told_agrees (logs b w k) 165))))

  -- ---- W

  unlogged : (b : Book) (c : Call) → logs_at accept L b c ≡ false → (next accept L b c).logged ≡ b.logged
  unfolding next book_at logs_at logs_whole
  unlogged b (recover n v) e = recovering-logged b n v
  unlogged b (commit w n v) e = go (judge accept L b w) e
    where
      go : (d : Verdict) → logs_whole d n ≡ false → (book_at b d w n v).logged ≡ b.logged
      go (refused r) e = refl
      go (writes k) e = by_test (eqb k 0)
          (λ z. rw z)
          (λ z. by_lt n (66 * k + 2)
          (λ g. rw (z, committing_early b n v w k g))
          (λ g. never (sym (rw (z, le-leb (66 * k + 2) n g) at e))))

  pub logs_its_own : (b : Book) (w : List ℕ) (n v : ℕ) → logs_at accept L b (commit w n v) ≡ true → (next accept L b (commit w n v)).logged ≡ w
  unfolding next book_at logs_at logs_whole logs
  logs_its_own b w n v e = go (judge accept L b w) e
    where
      go : (d : Verdict) → logs_whole d n ≡ true → (book_at b d w n v).logged ≡ w
      go (refused r) e = never e
      go (writes k) e = by_test (eqb k 0)
          (λ z. never (rw z at e))
          (λ z. rw z (by_committing (λ (c : Book). c.logged ≡ w) b w k n v
          (λ g. never (rw (z, lt-leb (66 * k + 2) n g) at e))
          (λ y. told-logged (logs b w k) v)
          (λ g. recovering-logged (told_mark (logs b w k) 165) (n - (66 * k + 3)) v ∙ told-logged (logs b w k) 165)))

  -- W is the workspace of the last commit that was logged whole (logs_its_own), or what it was at the start
  pub last_logged : (cs : List Call) (b : Book) → Tells accept L (logs_at accept L) logged logged b cs
  last_logged cs b = last_tells accept L (logs_at accept L) logged (λ b. Unit {0}) (λ b c s. s) (λ b c s e. unlogged b c e) cs b tt

  -- ---- H

  kept_unmarked : (b : Book) (c : Call) → Agrees b → marks_at accept L b c ≡ false → (next accept L b c).kept ≡ b.kept
  unfolding next book_at marks_at stores165 told_mark logs
  kept_unmarked b (recover n v) s e = by_lt n (recover_need b)
      (λ g. by_eq (n + 1) (recover_need b)
      (λ z. ap (λ (c : Book). c.kept) (recovering_last b n v z) ∙ by_test (eqb v 165)
      (λ y. by_eq b.mark 165
      (λ m. rw y (sym (s m)))
      (λ f. never (sym (rw (ne_eqb b.mark 165 f, eq-eqb (n + 1) (recover_need b) z, y) at e))))
      (λ y. rw y))
      (λ z. ap (λ (c : Book). c.kept) (recovering-cut b n v (omega arith))))
      (λ g. ap (λ (c : Book). c.kept) (recovering_done b n v g))
  kept_unmarked b (commit w n v) s e = go (judge accept L b w) e
    where
      go : (d : Verdict) → stores165 d n v ≡ false → (book_at b d w n v).kept ≡ b.kept
      go (refused r) e = refl
      go (writes k) e = by_test (eqb k 0)
          (λ z. rw z)
          (λ z. rw z (by_committing (λ (c : Book). c.kept ≡ b.kept) b w k n v
          (λ g. refl)
          (λ y. by_test (eqb v 165)
          (λ x. never (sym (rw (z, lt-leb (66 * k + 3) n (omega arith), eq-eqb n (66 * k + 2) y, x) at e)))
          (λ x. rw x))
          (λ g. never (sym (rw (z, le-leb (66 * k + 3) n g) at e)))))

  marks_its_own : (b : Book) (c : Call) → marks_at accept L b c ≡ true → (next accept L b c).kept ≡ (next accept L b c).logged
  unfolding next book_at marks_at stores165 told_mark logs
  marks_its_own b (recover n v) e =
      let p = both (not (eqb b.mark 165)) (eqb (n + 1) (recover_need b) && eqb v 165) e in
      let q = both (eqb (n + 1) (recover_need b)) (eqb v 165) p.1 in
      rw (recovering_last b n v (eqb-true (n + 1) (recover_need b) q.0), q.1)
  marks_its_own b (commit w n v) e = go (judge accept L b w) e
    where
      same : (b : Book) (v : ℕ) → b.kept ≡ b.logged → (told_mark b v).kept ≡ (told_mark b v).logged
      same b v e = by_test (eqb v 165) (λ x. rw x) (λ x. rw x e)

      go : (d : Verdict) → stores165 d n v ≡ true → (book_at b d w n v).kept ≡ (book_at b d w n v).logged
      go (refused r) e = never e
      go (writes k) e = by_test (eqb k 0)
          (λ z. never (rw z at e))
          (λ z. rw z (by_committing (λ (c : Book). c.kept ≡ c.logged) b w k n v
          (λ g. never (rw (z, lt-leb (66 * k + 3) n (omega arith), ne_eqb n (66 * k + 2) (λ y. omega arith)) at e))
          (λ y. by_test (eqb v 165)
          (λ x. rw x)
          (λ x. never (rw (z, lt-leb (66 * k + 3) n (omega arith), eq-eqb n (66 * k + 2) y, x) at e)))
          (λ g.
          let c : Book = told_mark (logs b w k) 165 in
          by_recovering (λ (c : Book). c.kept ≡ c.logged) c (n - (66 * k + 3)) v (same c 0 refl) (same c v refl) refl)))

  -- H is the W of the last call at which the mark of a commit was stored, or what it was at the start
  pub last_kept : (cs : List Call) (H : List ℕ) → Tells accept L (marks_at accept L) kept logged (start H) cs
  unfolding start
  last_kept cs H = go (last_tells accept L (marks_at accept L) kept Agrees agrees kept_unmarked cs (start H) (λ z. refl))
    where
      go : Tells accept L (marks_at accept L) kept kept (start H) cs → Tells accept L (marks_at accept L) kept logged (start H) cs
      go (inl p) = inl p
      go (inr (t, e)) = inr (t, e ∙ marks_its_own (book_after accept L t.earlier (start H)) t.call t.passes)
