-- Each call of a list answers as the book foretells and keeps what holds between calls.
use Rattle.std.specs.Prelude.{◌≡◌, Bool, Ok}
use Rattle.std.proofs.Math.Path.{refl, sym, ap, ap₂}
use Rattle.std.proofs.Common.{◌∙◌, arith}
use Rattle.std.proofs.Math.Bool.{true}
use Prim.Native.Nat.{ℕ, ◌+◌, ◌-◌, ◌*◌, ◌/◌, ◌≤◌, ◌<◌}
use mathlib.Core.List.{List, []}
use Rattle.std.proofs.Math.Option.{none}
use Rattle.std.proofs.Math.ListN.{length}
use borrow.Author.Tests.{eq-eqb, ne_eqb}
use Rattle.wire.specs.Cases.{by_lt, by_eq}
use Rattle.refusals.specs.declared.Refusal.{Refusal}
use Rattle.refusals.specs.declared.Refusal.TheVariants.{Unrecovered}
use Rattle.refusals.specs.Rules.{Rule, first, refusal}
use Rattle.refusals.specs.RulesLaws.{first-refused, first_passed, by_refusal, unrefused}
use Rattle.redo.specs.Store.{Store, apply, run, halfway}
use Rattle.redo.specs.StoreLaws.{apply-none, apply-append}
use Rattle.redo.specs.Image.{capacity, mark, pages, home_at, home, head_ok}
use Rattle.redo.specs.ImageLaws.{same_trans, head_same, capacity_same, pages_same}
use Rattle.redo.specs.Entry.{Entry, changes}
use Rattle.redo.specs.Stores.{clear_mark, recover_stores, log_stores, commit_stores}
use Rattle.redo.specs.StoresLaws.{length_log, length_commit, commit_none, commit_is}
use Rattle.redo.specs.Torn.{torn, torn_all, torn-first, torn_second}
use Rattle.image_log.specs.Calls.{Plan, refuse, store, answer, after, changed_pages, log_of, recover_plan, commit_rules, commit_plan}
use Rattle.image_log.specs.Answers.{recover_clear, recover_committed_lem, recover_spoiled, commit_marked, not_store}
use Rattle.image_log.specs.CallLaws.{log_last, log_mark_same, recover_marked, recover_last, recover_zero}
use Rattle.image_log.specs.Book.{Call, commit, recover, allowance, value, plan_of, rest, caught, seen, Book, logs, told_mark, recovering, committing, differing, refused, writes, kept_rules, book_rules, judge, recover_need, report, answer_to, book_at, foretold, next, left_by, told}
use Rattle.image_log.proofs.BookLaws.{need_clear, need_marked, no_commit, some_commit, recovering_done, recovering_last, recovering-cut, by_committing, not_writes, kept_passed}
use Rattle.image_log.specs.Logged.{answer-report, caught_is, caught-report, Logged, long_log, log_long, recover_length, recover_head, recover_logged, recover_home, long_changes, commit_torn, commit_stands, commit_unmarked, commit_head, commit_home, commit_log, commit_logged}
use Rattle.image_log.specs.Holds.{State, settled, owing, spoiled, Holds, Ready}
use Rattle.image_log.proofs.Holds.{moved, told-fits, tell}

-- a call's own answer and image are those of the book, and what holds goes on
pub record Step (accept : List ℕ → Bool) (l₀ l : List ℕ) (b : Book) (c : Call) : Type 0 where
  pub same : seen accept c l ≡ told accept (capacity l₀) b c l
  pub goes_on : Holds accept l₀ (seen accept c l).image (next accept (capacity l₀) b c)

-- a plan of stores, as many as the book says
told_store : (p : Plan) (ss : List Store) (need n v : ℕ) (l : List ℕ) → p ≡ store ss → length ss ≡ need
    → (answer p n ≡ Ok (report need n)) × (caught p n v l ≡ left_by (Ok (report need n)) p v l)
told_store p ss need n v l e f = rw (e, ← f) (answer-report ss n, caught-report ss n v l)

-- ---- recover

module _ (accept : List ℕ → Bool) (l₀ : List ℕ) (ok₀ : head_ok l₀ ≡ true) (l : List ℕ) (b : Book) (t : Holds accept l₀ l b) where
  ok : head_ok l ≡ true
  ok = head_same t.head ∙ ok₀

  -- what it comes to: as many stores as the book says, and what holds goes on
  record Recovers (n v : ℕ) : Type 0 where
    stores : List Store
    plan : recover_plan l ≡ store stores
    need : length stores ≡ recover_need b
    goes : Holds accept l₀ (caught (recover_plan l) n v l) (recovering b n v)

  recovers_settled : (n v : ℕ) → b.mark ≡ 0 → b.owed ≡ 0 → home l ≡ b.kept → Recovers n v
  unfolding told_mark torn
  recovers_settled n v m e s =
      let plan : recover_plan l ≡ store [] = recover_clear l ok (t.marks ∙ m) in
      let need : recover_need b ≡ 0 = need_clear b m in
      record {
        stores = [];
        plan = plan;
        need = sym need;
        goes = moved (ap (λ (p : Plan). caught p n v l) plan ∙ caught_is [] n v l ∙ apply-none l) (recovering_done b n v (omega arith))
            (record {
              head = t.head;
              fits = told-fits b 0 t.fits;
              marks = t.marks ∙ m;
              state = settled refl refl s;
            });
      }

  module _ (m : b.mark ≡ 165) (e : b.owed ≡ b.logged_pages) (f : b.kept ≡ b.logged) (o : Logged l b.logged b.logged_pages) where
    replays : List Store
    replays = recover_stores (home_at l) (log_of l)

    ready_done : Ready accept l₀ (apply replays l) b
    unfolding replays
    ready_done =
        let long = recover_length l b.logged b.logged_pages ok o in
        let all : torn (64 * b.logged_pages + 1) 0 replays ≡ replays = torn_all (64 * b.logged_pages + 1) 0 replays (omega arith) in
        record {
          head = same_trans t.head (rw all at (recover_head l b.logged b.logged_pages ok o (64 * b.logged_pages + 1) 0));
          fits = t.fits;
          stands = recover_home l b.logged b.logged_pages ok o ∙ sym f;
          log = rw all at (recover_logged l b.logged b.logged_pages ok o (64 * b.logged_pages + 1) 0);
        }

    recovers_owing : (n v : ℕ) → Recovers n v
    unfolding replays
    recovers_owing n v =
        let plan : recover_plan l ≡ store replays = recover_committed_lem l ok (t.marks ∙ m) o.right in
        let long : length replays ≡ 64 * b.logged_pages + 1 = recover_length l b.logged b.logged_pages ok o in
        let need : recover_need b ≡ 64 * b.owed + 1 = need_marked b (λ z. omega arith) in
        let es = long_log l b.logged b.logged_pages ok o in
        let q : length (log_of l) ≡ b.logged_pages = log_long l b.logged b.logged_pages ok o in
        let is : caught (recover_plan l) n v l ≡ apply (torn n v replays) l = ap (λ (p : Plan). caught p n v l) plan ∙ caught_is replays n v l in
        record {
          stores = replays;
          plan = plan;
          need = omega arith;
          goes = by_lt n (64 * b.owed)
              -- cut before the last store, it owes the same
              (λ g. moved is (recovering-cut b n v (omega arith)) (record {
                head = same_trans t.head (recover_head l b.logged b.logged_pages ok o n v);
                fits = t.fits;
                marks = recover_marked l (home_at l) (log_of l) n v (omega arith) es (omega arith) ∙ t.marks;
                state = owing m e f (recover_logged l b.logged b.logged_pages ok o n v);
              }))
              (λ g. by_eq n (64 * b.owed)
              -- at it
              (λ z. moved (is ∙ recover_last l (home_at l) (log_of l) n v (omega arith) es) (recovering_last b n v (omega arith)) (tell accept l₀ ok₀ (apply replays l) b ready_done v))
              -- done
              (λ z. moved (is ∙ ap (λ (ss : List Store). apply ss l) (torn_all n v replays (omega arith)) ∙ sym (recover_zero l (home_at l) (log_of l)))
              (recovering_done b n v (omega arith)) (tell accept l₀ ok₀ (apply replays l) b ready_done 0)));
        }

  recovers_spoiled : (n v : ℕ) → (b.mark ≡ 0 → ⊥) → (b.mark ≡ 165 → ⊥) → b.owed ≡ 0 → home l ≡ b.kept → Logged l b.logged b.logged_pages → Recovers n v
  unfolding clear_mark run apply torn
  recovers_spoiled n v f g e s o =
      let plan : recover_plan l ≡ store clear_mark = recover_spoiled l ok (λ z. f (sym t.marks ∙ z)) (λ z. g (sym t.marks ∙ z)) in
      let need : recover_need b ≡ 64 * b.owed + 1 = need_marked b f in
      let is : caught (recover_plan l) n v l ≡ apply (torn n v clear_mark) l = ap (λ (p : Plan). caught p n v l) plan ∙ caught_is clear_mark n v l in
      let ready : Ready accept l₀ l b = record { head = t.head; fits = t.fits; stands = s; log = o } in
      record {
        stores = clear_mark;
        plan = plan;
        need = omega arith;
        goes = by_eq n 0
            (λ z. moved (is ∙ ap (λ (j : ℕ). apply (torn j v clear_mark) l) z) (recovering_last b n v (omega arith)) (tell accept l₀ ok₀ l b ready v))
            (λ z. moved (is ∙ ap (λ (ss : List Store). apply ss l) (torn_all n v clear_mark (omega arith)))
            (recovering_done b n v (omega arith)) (tell accept l₀ ok₀ l b ready 0));
      }

  recovers : (n v : ℕ) → Recovers n v
  recovers n v = by_state t.state
    where
      by_state : State l b → Recovers n v
      by_state (settled m e s) = recovers_settled n v m e s
      by_state (owing m e f o) = recovers_owing m e f o n v
      by_state (spoiled f g e s o) = recovers_spoiled n v f g e s o

  pub recover_goes : (n v : ℕ) → Holds accept l₀ (caught (recover_plan l) n v l) (recovering b n v)
  recover_goes n v = (recovers n v).goes

  recover_step : (n v : ℕ) → Step accept l₀ l b (recover n v)
  unfolding seen told plan_of allowance value foretold next
  recover_step n v =
      let r : Recovers n v = recovers n v in
      let both = told_store (recover_plan l) r.stores (recover_need b) n v l r.plan r.need in
      record { same = λ i. record { answered = both.0 i; image = both.1 i }; goes_on = r.goes }

-- ---- commit

-- k pages of w are to be written
pub record Writing (accept : List ℕ → Bool) (l w : List ℕ) (k : ℕ) : Type 0 where
  pub plan : commit_plan accept l w ≡ store (commit_stores (home_at l) (changed_pages l w))
  pub same : length w ≡ 64 * pages l
  pub count : length (changed_pages l w) ≡ k
  pub fit : length (changed_pages l w) ≤ capacity l

module _ (accept : List ℕ → Bool) (l₀ : List ℕ) (ok₀ : head_ok l₀ ≡ true) (l : List ℕ) (b : Book) (t : Holds accept l₀ l b) where
  okay : head_ok l ≡ true
  okay = head_same t.head ∙ ok₀

  commit_refused : (w : List ℕ) (n v : ℕ) (r : Refusal) → commit_plan accept l w ≡ refuse r → judge accept (capacity l₀) b w ≡ refused r → Step accept l₀ l b (commit w n v)
  unfolding seen told plan_of allowance value foretold next caught rest halfway after answer answer_to book_at left_by
  commit_refused w n v r plan verdict = record { same = rw (plan, verdict); goes_on = rw (plan, verdict) t }

  marked_judged : (w : List ℕ) → (b.mark ≡ 0 → ⊥) → judge accept (capacity l₀) b w ≡ refused Unrecovered
  unfolding judge book_rules first
  marked_judged w f = rw (ne_eqb b.mark 0 f)

  commit_unsettled : (w : List ℕ) (n v : ℕ) → (b.mark ≡ 0 → ⊥) → Step accept l₀ l b (commit w n v)
  commit_unsettled w n v f = commit_refused w n v Unrecovered (commit_marked accept l w okay (λ z. f (sym t.marks ∙ z))) (marked_judged w f)

  module _ (m : b.mark ≡ 0) (e : b.owed ≡ 0) (s : home l ≡ b.kept) (w : List ℕ) (n v : ℕ) where
    abbrev stored : List Store
    stored = commit_stores (home_at l) (changed_pages l w)

    -- a commit that nothing refuses, of no page
    commit_nothing : commit_plan accept l w ≡ store stored → judge accept (capacity l₀) b w ≡ writes (length (changed_pages l w)) → length (changed_pages l w) ≡ 0
        → Step accept l₀ l b (commit w n v)
    unfolding seen told plan_of allowance value foretold next answer_to book_at torn
    commit_nothing plan verdict z =
        let empty : commit_plan accept l w ≡ store [] = plan ∙ ap store (commit_none (home_at l) (changed_pages l w) z) in
        let both = told_store (commit_plan accept l w) [] 0 n v l empty refl in
        record {
          same = rw (verdict, z, no_commit) (λ i. record { answered = both.0 i; image = both.1 i });
          goes_on = rw (verdict, z) (moved (ap (λ (p : Plan). caught p n v l) empty ∙ caught_is [] n v l ∙ apply-none l) refl t);
        }

    -- of some pages
    module _ (same : length w ≡ 64 * pages l) (fit : length (changed_pages l w) ≤ capacity l) (some : 0 < length (changed_pages l w)) (fine : accept w ≡ true) where
      k : ℕ
      k = length (changed_pages l w)

      logging : List Store
      logging = log_stores (changed_pages l w)

      long_logs : length logging ≡ 66 * k + 3
      unfolding k logging
      long_logs = length_log (long_changes l w okay same fit)

      -- torn before the mark's store
      commit_before : n < 66 * k + 2 → Holds accept l₀ (apply (torn n v logging) l) b
      unfolding k logging
      commit_before g = record {
        head = same_trans t.head (commit_torn l w okay same fit n v);
        fits = t.fits;
        marks = commit_unmarked l w okay same fit n v g ∙ t.marks;
        state = settled m e (commit_stands l w okay same fit n v ∙ s);
      }

      -- the log is whole
      commit_ready : Ready accept l₀ (apply logging l) (logs b w k)
      unfolding k logging logs
      commit_ready = record {
        head = same_trans t.head (commit_head l w okay same fit);
        fits = record {
          fine = t.fits.fine;
          long = t.fits.long;
          fine_logged = fine;
          long_logged = same ∙ ap (λ (j : ℕ). 64 * (26 + j)) (pages_same t.head);
        };
        stands = commit_home l w okay same fit ∙ s;
        log = commit_logged l w okay same fit some;
      }

      -- torn behind the mark's store, or not at all: a recovery of the log goes on from there
      commit_behind : 66 * k + 3 ≤ n → Holds accept l₀ (apply (torn n v stored) l) (recovering (told_mark (logs b w k) 165) (n - (66 * k + 3)) v)
      unfolding k logging logs told_mark
      commit_behind g =
          let es : List Entry = changed_pages l w in
          let x : List ℕ = apply logging l in
          let j : ℕ = n - (66 * k + 3) in
          let c : Book = told_mark (logs b w k) 165 in
          let h : Holds accept l₀ x c = moved (sym (log_mark_same l es)) refl (tell accept l₀ ok₀ x (logs b w k) commit_ready 165) in
          let kept = commit_head l w okay same fit in
          let okx : head_ok x ≡ true = head_same kept ∙ okay in
          let log : Logged x w k = commit_logged l w okay same fit some in
          let plan : recover_plan x ≡ store (recover_stores (home_at x) (log_of x)) = recover_committed_lem x okx h.marks log.right in
          let is : apply (torn n v stored) l ≡ caught (recover_plan x) j v x =
          ap (λ (z : List Store). apply (torn n v z) l) (commit_is (home_at l) es some)
          ∙ ap (λ (z : List Store). apply z l) (torn_second n v logging (recover_stores (home_at l) es) (omega (arith, long_logs)))
          ∙ apply-append logging (torn (n - length logging) v (recover_stores (home_at l) es)) l
          ∙ ap (λ (i : ℕ). apply (torn (n - i) v (recover_stores (home_at l) es)) x) long_logs
          ∙ ap₂ (λ (i : ℕ) (fs : List Entry). apply (torn j v (recover_stores (64 + 66 * i) fs)) x) (sym (capacity_same kept)) (sym (commit_log l w okay same fit))
          ∙ sym (caught_is (recover_stores (home_at x) (log_of x)) j v x)
          ∙ sym (ap (λ (p : Plan). caught p j v x) plan) in
          moved is refl (recover_goes accept l₀ ok₀ x c h j v)

      commit_goes : commit_plan accept l w ≡ store stored → Holds accept l₀ (caught (commit_plan accept l w) n v l) (committing b w k n v)
      unfolding logging k
      commit_goes plan =
          let is : caught (commit_plan accept l w) n v l ≡ apply (torn n v stored) l = ap (λ (p : Plan). caught p n v l) plan ∙ caught_is stored n v l in
          by_committing (Holds accept l₀ (caught (commit_plan accept l w) n v l)) b w k n v
          (λ g. moved (is ∙ cut (omega arith)) refl (commit_before g))
          (λ z. moved (is ∙ cut (omega arith) ∙ log_last (long_changes l w okay same fit) l n v z) refl (tell accept l₀ ok₀ (apply logging l) (logs b w k) commit_ready v))
          (λ g. moved is refl (commit_behind g))
        where
          cut : n < 66 * k + 3 → apply (torn n v (commit_stores (home_at l) (changed_pages l w))) l ≡ apply (torn n v logging) l
          cut g = ap (λ (z : List Store). apply (torn n v z) l) (commit_is (home_at l) (changed_pages l w) some) ∙ ap (λ (z : List Store). apply z l) (torn-first n v logging (recover_stores (home_at l) (changed_pages l w)) (omega (arith, long_logs)))

      commit_some : commit_plan accept l w ≡ store stored → judge accept (capacity l₀) b w ≡ writes (length (changed_pages l w))
          → Step accept l₀ l b (commit w n v)
      unfolding seen told plan_of allowance value foretold next answer_to book_at k
      commit_some plan verdict =
          let need : length stored ≡ 130 * k + 4 = length_commit (home_at l) (changed_pages l w) some (long_changes l w okay same fit) in
          let both = told_store (commit_plan accept l w) stored (130 * k + 4) n v l plan need in
          record {
            same = rw (verdict, some_commit k some) (λ i. record { answered = both.0 i; image = both.1 i });
            goes_on = rw (verdict, ne_eqb k 0 (λ z. omega arith)) (commit_goes plan);
          }

    -- the book's tests are the commit's
    differ : differing b.kept w ≡ length (changed_pages l w)
    unfolding differing
    differ =
        let q : length b.kept / 64 ≡ pages l = omega (arith, t.fits.long, pages_same t.head) in
        ap₂ (λ (H : List ℕ) (j : ℕ). length (changes H w j)) (sym s) q

    kept_long : 64 * pages l ≡ length b.kept
    kept_long = omega (arith, t.fits.long, pages_same t.head)

    -- those of the book that are left with mark 0
    abbrev rules : List Rule
    rules = kept_rules accept (capacity l₀) b.kept w

    plan_is : commit_plan accept l w ≡ first refuse rules (store stored)
    unfolding commit_plan commit_rules kept_rules first
    plan_is = rw (okay, eq-eqb (mark l) 0 (t.marks ∙ m), ap accept s ∙ t.fits.fine, differ, kept_long, capacity_same t.head)

    verdict_is : judge accept (capacity l₀) b w ≡ first refused rules (writes (length (changed_pages l w)))
    unfolding judge book_rules first
    verdict_is = rw (eq-eqb b.mark 0 m, differ)

    -- what a commit with nothing to refuse it is
    passed : refusal rules ≡ none → Writing accept l w (length (changed_pages l w))
    passed e =
        let p = kept_passed accept (capacity l₀) b.kept w e in
        record {
          plan = plan_is ∙ first_passed refuse rules (store stored) e;
          same = p.0 ∙ sym kept_long;
          count = refl;
          fit = omega (arith, p.2, differ, capacity_same t.head);
        }

    -- with k pages to write
    pub writing : (j : ℕ) → judge accept (capacity l₀) b w ≡ writes j → Writing accept l w j
    writing j is =
        let e = unrefused refused rules (writes (length (changed_pages l w))) (writes j) (not_writes j) (sym verdict_is ∙ is) in
        let verdict : writes (length (changed_pages l w)) ≡ writes j = sym (verdict_is ∙ first_passed refused rules (writes (length (changed_pages l w))) e) ∙ is in
        let k : length (changed_pages l w) ≡ j = cc in
        rw (← k) (passed e)

    -- and the other way
    pub writes_changed : {ss : List Store} → commit_plan accept l w ≡ store ss → judge accept (capacity l₀) b w ≡ writes (length (changed_pages l w))
    writes_changed {ss} is = verdict_is ∙ first_passed refused rules (writes (length (changed_pages l w))) (unrefused refuse rules (store stored) (store ss) (not_store ss) (sym plan_is ∙ is))

    commit_settled : Step accept l₀ l b (commit w n v)
    commit_settled = by_refusal rules
        (λ r e. commit_refused w n v r (plan_is ∙ first-refused refuse rules r (store stored) e) (verdict_is ∙ first-refused refused rules r (writes (length (changed_pages l w))) e))
        (λ e.
        let p : Writing accept l w (length (changed_pages l w)) = passed e in
        let verdict = verdict_is ∙ first_passed refused rules (writes (length (changed_pages l w))) e in
        by_lt 0 (length (changed_pages l w))
        (λ some. commit_some p.same p.fit some (kept_passed accept (capacity l₀) b.kept w e).1 p.plan verdict)
        (λ z. commit_nothing p.plan verdict (omega arith)))

  -- ---- any call

  pub step : (c : Call) → Step accept l₀ l b c
  step (commit w n v) = by_state t.state
    where
      by_state : State l b → Step accept l₀ l b (commit w n v)
      by_state (settled m e s) = commit_settled m e s w n v
      by_state (owing m e f o) = commit_unsettled w n v (λ z. omega arith)
      by_state (spoiled f g e s o) = commit_unsettled w n v f
  step (recover n v) = recover_step accept l₀ ok₀ l b t n v
