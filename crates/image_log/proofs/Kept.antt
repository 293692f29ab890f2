-- The claim in the user's words: which index is found after a switch-off, and that a completed commit is kept.
use Rattle.std.proofs.Math.Dec.{leb}
use Rattle.std.proofs.Math.Bool.{true}
use Rattle.std.specs.Prelude.{◌≡◌, Bool, not, ◌⊎◌, eqb, Ok, Err}
use Rattle.std.proofs.Math.Path.{refl, ap}
use Rattle.std.proofs.Common.{sym, ◌∙◌, arith}
use Rattle.std.proofs.lemmas.List.{nil_from_length}
use Rattle.std.proofs.Math.Logic.{inl, inr}
use Prim.Native.Nat.{ℕ, ◌+◌, ◌-◌, ◌*◌, ◌/◌, ◌≤◌}
use mathlib.Core.List.{List, ◌∷◌, ◌++◌, []}
use Rattle.std.proofs.Math.ListN.{length}
use borrow.Author.Tests.{eqb-true, leb-true, ne_eqb, not-false}
use Rattle.wire.specs.Cases.{by_test, by_lt, by_eq}
use Rattle.refusals.specs.declared.Refusal.TheVariants.{BadHead, Unrecovered, UnsoundHome}
use Rattle.refusals.specs.RulesLaws.{first-refused, first_passed, passes, by_refusal, unrefused}
use Rattle.wire.specs.All.{All, none, more}
use Rattle.redo.specs.Store.{Store, apply}
use Rattle.redo.specs.StoreLaws.{apply-none}
use Rattle.redo.specs.Image.{capacity, mark, pages, home_at, home, head_ok}
use Rattle.redo.specs.ImageLaws.{head_right, length-home}
use Rattle.redo.specs.Entry.{Entry, changes, replay}
use Rattle.redo.specs.EntryLaws.{home_becomes}
use Rattle.redo.specs.Stores.{commit_stores}
use Rattle.image_log.specs.declared.Stored.TheVariants.{Done}
use Rattle.image_log.specs.Calls.{refuse, store, answer, changed_pages, commit_rules, commit_plan}
use Rattle.image_log.specs.Answers.{not_store}
use Rattle.image_log.specs.Book.{Call, commit, recover, allowance, value, plan_of, Seen, seen, told, foretold, final, Book, start, differing, Verdict, refused, writes, book_rules, judge, commit_need, need_by, recover_need, report, answer_to, logs, told_mark, recovering, committing, book_at, next, book_after}
use Rattle.image_log.proofs.BookLaws.{need_clear, some_commit, recovering_done, committing_early, committing-mark, committing_late, by_recovering, book_passed, kept_passed, Both, told_both, recover_both}
use Rattle.image_log.specs.Holds.{Holds}
use Rattle.image_log.proofs.Steps.{Step, step, Writing, writing, writes_changed}
use Rattle.image_log.specs.Claim.{Starts, Claim}
use Rattle.image_log.proofs.Claim.{begins, claim, holds, stands_of, done_enough, done_uncaught}
use Rattle.image_log.specs.Kept.{Finds, Found, IsRecover, book_of, committed, is_recover}

-- where no page differs, the workspace is home
no_page : (H w : List ℕ) (q : ℕ) → length w ≡ 64 * q → length H ≡ 64 * q → length (changes H w q) ≡ 0 → H ≡ w
unfolding replay
no_page H w q e f g =
    sym (apply-none H)
    ∙ ap (λ (es : List Entry). apply (replay 0 es) H) (sym (nil_from_length (changes H w q) g))
    ∙ home_becomes H w q e f

-- either way one of the two, entire
pub one_found : (n v k : ℕ) (old w found : List ℕ) → Finds n v k old w found → (found ≡ old) ⊎ (found ≡ w)
one_found n v k old w found f =
    by_lt n (66 * k + 2) (λ g. inl (f.before g)) (λ g. by_eq n (66 * k + 2) f.halfway (λ d. inr (f.whole (omega arith))))

module _ (accept : List ℕ → Bool) (L : ℕ) where
  -- with mark 0 recoveries change nothing
  kept_clear : {rs : List Call} (b : Book) → All IsRecover rs → b.mark ≡ 0 → (book_after accept L rs b).kept ≡ b.kept
  unfolding book_after next told_mark
  kept_clear b none m = refl
  kept_clear b (more (is_recover n v) a) m =
      let e : recovering b n v ≡ told_mark b 0 = recovering_done b n v (omega (arith, need_clear b m)) in
      kept_clear (recovering b n v) a (ap (λ (c : Book). c.mark) e) ∙ ap (λ (c : Book). c.kept) e

  recovers_both : (P : List ℕ → Type 0) {rs : List Call} (b : Book) → All IsRecover rs → Both P b → Both P (book_after accept L rs b)
  unfolding book_after
  recovers_both P b none h = h
  recovers_both P b (more (is_recover n v) a) h = recovers_both P (next accept L b (recover n v)) a (recover_both accept L P b h n v)

  -- where both are w, it stays w
  recovers_same : (w : List ℕ) {rs : List Call} (b : Book) → All IsRecover rs → b.kept ≡ w → b.logged ≡ w → (book_after accept L rs b).kept ≡ w
  recovers_same w b a e f = (recovers_both (λ (x : List ℕ). x ≡ w) b a (record { kept = e; logged = f })).kept

  finds_book : {rs : List Call} → All IsRecover rs → (b : Book) (w : List ℕ) (k n v : ℕ) → b.mark ≡ 0
      → Finds n v k b.kept w (book_after accept L rs (committing b w k n v)).kept
  unfolding told_mark logs
  finds_book {rs} a b w k n v m = record {
    before = λ g. rw (committing_early b n v w k g) (kept_clear b a m);
    whole = λ g.
        let c : Book = told_mark (logs b w k) 165 in
        let j : ℕ = n - (66 * k + 3) in
        rw (committing_late b n v w k g) (recovers_same w (recovering c j v) a (by_recovering (λ (d : Book). d.kept ≡ w) c j v refl (told-new v) refl) (by_recovering (λ (d : Book). d.logged ≡ w) c j v refl refl refl));
    halfway = λ e. rw (committing-mark b n v w k e)
        (recovers_both (λ (x : List ℕ). (x ≡ b.kept) ⊎ (x ≡ w)) (told_mark (logs b w k) v) a (told_both (λ (x : List ℕ). (x ≡ b.kept) ⊎ (x ≡ w)) (logs b w k) (record { kept = inl refl; logged = inr refl }) v)).kept;
    halfway_clear = λ e z. rw (committing-mark b n v w k e, z) (kept_clear (told_mark (logs b w k) 0) a refl);
    halfway_set = λ e z. rw (committing-mark b n v w k e, z) (recovers_same w (told_mark (logs b w k) 165) a refl refl);
  }
    where
      told-new : (v : ℕ) → (told_mark (told_mark (logs b w k) 165) v).kept ≡ w
      told-new v = by_test (eqb v 165) (λ e. rw e) (λ e. rw e)

-- only such an image does not refuse a commit
pub starts : (accept : List ℕ → Bool) (l w : List ℕ) {ss : List Store} → commit_plan accept l w ≡ store ss → Starts accept l
unfolding commit_plan commit_rules
starts accept l w {ss} is =
    let e = unrefused refuse (commit_rules accept l w) (store (commit_stores (home_at l) (changed_pages l w))) (store ss) (not_store ss) is in
    let a = passes BadHead (not (head_ok l)) _ e in
    let b = passes Unrecovered (not (eqb (mark l) 0)) _ a.1 in
    let c = passes UnsoundHome (not (accept (home l))) _ b.1 in
    record { head = not-false _ a.0; unmarked = eqb-true _ _ (not-false _ b.0); fine = not-false _ c.0 }

-- A commit of w that is not refused, on whatever image, cut and caught anywhere; then recoveries, any number of them, cut and caught anywhere.
module _ (accept : List ℕ → Bool) (l w : List ℕ) {ss : List Store} (plan : commit_plan accept l w ≡ store ss) (n v : ℕ) {rs : List Call} (a : All IsRecover rs) where
  begun : Starts accept l
  begun = starts accept l w plan

  finds : Finds n v (length (changed_pages l w)) (home l) w (book_of accept l (commit w n v ∷ rs)).kept
  unfolding book_after next book_at start
  finds =
      let k : ℕ = length (changed_pages l w) in
      let b : Book = start (home l) in
      let verdict : judge accept (capacity l) b w ≡ writes k = writes_changed accept l begun.head l b (begins accept l begun) refl refl refl w n v plan in
      by_eq k 0
      (λ z.
      let t : Writing accept l w k = writing accept l begun.head l b (begins accept l begun) refl refl refl w n v k verdict in
      let same : home l ≡ w = no_page (home l) w (pages l) t.same (length-home l (head_right l begun.head)) z in
      let e : (book_after accept (capacity l) rs (book_at b (judge accept (capacity l) b w) w n v)).kept ≡ home l = rw (verdict, z) (kept_clear accept (capacity l) b a refl) in
      record { before = λ g. e; whole = λ g. e ∙ same; halfway = λ g. inl e; halfway_clear = λ g y. e; halfway_set = λ g y. e ∙ same })
      (λ z.
      let e : book_of accept l (commit w n v ∷ rs) ≡ book_after accept (capacity l) rs (committing b w k n v) = rw (verdict, ne_eqb k 0 z) in
      rw e (finds_book accept (capacity l) a b w k n v refl))

  pub switched_off : Found n v (length (changed_pages l w)) (home l) w (final accept (commit w n v ∷ rs) l)
  switched_off =
      let c : Claim accept l (commit w n v ∷ rs) (book_of accept l (commit w n v ∷ rs)) (final accept (commit w n v ∷ rs) l) = claim accept l begun (commit w n v ∷ rs) in
      record {
        at_once = λ z. rw (c.stands (λ y. omega arith)) finds;
        finished = λ j m e. let r = c.recovers j m e in (rw r.0 finds, r.1);
      }

-- only done means that the allowance was enough, and that nothing refused it
record Took (accept : List ℕ → Bool) (L : ℕ) (b : Book) (w : List ℕ) (n : ℕ) : Type 0 where
  clear : b.mark ≡ 0
  long : length w ≡ length b.kept
  verdict : judge accept L b w ≡ writes (differing b.kept w)
  enough : leb (commit_need (differing b.kept w)) n ≡ true

took : (accept : List ℕ → Bool) (L : ℕ) (b : Book) (w : List ℕ) (n m : ℕ) → answer_to (judge accept L b w) n ≡ Ok (Done m) → Took accept L b w n
unfolding judge answer_to
took accept L b w n m done =
    let rs = book_rules accept L b w in
    let k : ℕ = differing b.kept w in
    by_refusal rs
    (λ r e. let f : Err r ≡ Ok (Done m) = sym (ap (λ (d : Verdict). answer_to d n) (first-refused refused rs r (writes k) e)) ∙ done in cc)
    (λ e.
    let p = book_passed accept L b w e in
    let verdict = first_passed refused rs (writes k) e in
    record {
      clear = p.0;
      long = (kept_passed accept L b.kept w p.1).0;
      verdict = verdict;
      enough = done_enough (commit_need k) n m (let z : Ok (report (commit_need k) n) ≡ Ok (Done m) = sym (ap (λ (d : Verdict). answer_to d n) verdict) ∙ done in cc);
    })

-- a recovery of its log that is done leaves it kept
ends_kept : (b : Book) (w : List ℕ) (k j v : ℕ) → 64 * k + 1 ≤ j
    → ((recovering (told_mark (logs b w k) 165) j v).kept ≡ w) × ((recovering (told_mark (logs b w k) 165) j v).mark ≡ 0)
unfolding told_mark logs recover_need need_by
ends_kept b w k j v g = rw (recovering_done (told_mark (logs b w k) 165) j v g) (refl, refl)

-- a commit that is done is kept, with mark 0
done_kept : (accept : List ℕ → Bool) (L : ℕ) (b : Book) (w : List ℕ) (n v q : ℕ) → length b.kept ≡ 64 * q → Took accept L b w n
    → ((next accept L b (commit w n v)).kept ≡ w) × ((next accept L b (commit w n v)).mark ≡ 0)
unfolding next book_at differing
done_kept accept L b w n v q long t = by_eq (differing b.kept w) 0
    (λ z.
    let d : length b.kept / 64 ≡ q = omega arith in
    rw (t.verdict, z) (no_page b.kept w q (t.long ∙ long) long (rw d at z), t.clear))
    (λ z.
    let k : ℕ = differing b.kept w in
    let need : commit_need k ≡ 130 * k + 4 = some_commit k (omega arith) in
    let enough = leb-true (commit_need k) n t.enough in
    rw (t.verdict, ne_eqb k 0 z, committing_late b n v w k (omega arith)) (ends_kept b w k (n - (66 * k + 3)) v (omega arith)))

book_append : (accept : List ℕ → Bool) (L : ℕ) (cs ds : List Call) (b : Book) → book_after accept L (cs ++ ds) b ≡ book_after accept L ds (book_after accept L cs b)
unfolding book_after
book_append accept L [] ds b = refl
book_append accept L (c ∷ cs) ds b = book_append accept L cs ds _

module _ (accept : List ℕ → Bool) (l : List ℕ) (s : Starts accept l) where
  -- A commit answered done is kept, and its workspace stands in home.
  pub completed : (cs : List Call) (w x : List ℕ) → x ≡ final accept cs l → (n v m : ℕ) → answer (commit_plan accept x w) n ≡ Ok (Done m)
      → ((book_of accept l (cs ++ (commit w n v ∷ []))).kept ≡ w) × (mark (committed accept x w n) ≡ 0) × (home (committed accept x w n) ≡ w)
  unfolding book_after seen plan_of allowance value told foretold
  completed cs w x is n v m e =
      let b : Book = book_of accept l cs in
      let t : Holds accept l x b = rw is (holds accept l s cs) in
      let r : Step accept l x b (commit w n v) = step accept l s.head x b t (commit w n v) in
      let d = done_kept accept (capacity l) b w n v (pages l) t.fits.long (took accept (capacity l) b w n m (sym (ap (λ (z : Seen). z.answered) r.same) ∙ e)) in
      let b' : Book = next accept (capacity l) b (commit w n v) in
      let h : Holds accept l (committed accept x w n) b' = rw (done_uncaught (commit_plan accept x w) n m v x e) at r.goes_on in (
        ap (λ (b : Book). b.kept) (book_append accept (capacity l) cs (commit w n v ∷ []) (start (home l))) ∙ d.0,
        h.marks ∙ d.1,
        stands_of (committed accept x w n) b' h.state (λ z. omega (arith, d.1)) ∙ d.0,
      )
