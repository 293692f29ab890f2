-- Where no byte is caught, the book told the value that stood there is the one that knows H and p alone.
use Rattle.std.specs.Prelude.{◌≡◌, Bool, true, ℕ, ◌+◌, ◌-◌, ◌*◌, ◌≤◌, ◌<◌, take, leb, eqb, Ok}
use Rattle.std.proofs.Math.Path.{refl, sym, ap, ap₂}
use Rattle.std.proofs.Common.{◌∙◌, length-take, take_all}
use native.Mathlib.Omega.{arith}
use mathlib.Core.List.{List, [], ◌∷◌}
use Rattle.std.proofs.Math.ListN.{length}
use Rattle.std.proofs.lemmas.List.{set-get_or}
use borrow.Author.Tests.{le-leb, lt-leb, ne_eqb}
use Rattle.wire.specs.Bytes.{pick}
use Rattle.wire.specs.Cases.{by_test, by_eq, by_lt}
use Rattle.refusals.specs.Rules.{first}
use Rattle.redo.specs.Store.{Store, apply, halfway}
use Rattle.redo.specs.StoreLaws.{apply-none, apply-take-append, length-apply}
use Rattle.redo.specs.Image.{capacity, mark, home_at, home, head_ok}
use Rattle.redo.specs.ImageLaws.{head_same, head_right}
use Rattle.redo.specs.Stores.{recover_stores, log_stores}
use Rattle.redo.specs.StoresLaws.{length_log, commit_is}
use Rattle.redo.specs.Stage.{take_min}
use Rattle.image_log.specs.Calls.{Outcome, Plan, refuse, store, answer, after, changed_pages, log_of, recover_plan, commit_plan}
use Rattle.image_log.specs.CallLaws.{log_right, log_mark_same, log_standing, recover_standing}
use Rattle.image_log.specs.Book.{Call, commit, recover, allowance, value, plan_of, rest, caught, Seen, seen, told, trace, final, Book, start, logs, told_mark, recovering, committing, Verdict, refused, writes, book_rules, judge, need_by, recover_need, report, answer_to, book_at, foretold, next, book_after}
use Rattle.image_log.specs.Answers.{recover_committed_lem}
use Rattle.image_log.specs.Logged.{remark_mark, long_log, log_long, long_changes}
use Rattle.image_log.proofs.BookLaws.{need_clear, need_marked, some_commit, recovering_done, recovering_last, recovering-cut, committing_early, committing-mark, committing_late, writes_clear}
use Rattle.image_log.specs.Holds.{State, settled, owing, spoiled, Holds}
use Rattle.image_log.proofs.Steps.{step, recover_goes, Writing, writing}
use Rattle.image_log.specs.Claim.{Starts, Claim}
use Rattle.image_log.proofs.Claim.{begins, claim}
use Rattle.image_log.specs.Uncaught.{Plain, plain_start, plain_rules, plain_judge, plain_need, mark_stored, plain_at, plain_foretold, plain_next, plain_after, plain_left, plain_told, plain_ledger, Uncaught, end, and, stood, telling, still, PlainClaim}

-- H and p are the same, and the mark is 0 if p is 0, otherwise 165
pub record Same (b : Book) (p : Plain) : Type 0 where
  pub kept : b.kept ≡ p.kept
  pub owed : b.owed ≡ p.owed
  pub mark : b.mark ≡ pick (eqb p.owed 0) 0 165

-- a plan leaves what its answer says
after-answer : (p : Plan) (n : ℕ) (l : List ℕ) → after p n l ≡ plain_left (answer p n) p l
unfolding after answer plain_left
after-answer (refuse r) n l = refl
after-answer (store ss) n l = by_test (leb (length ss) n)
    (λ e. rw (e, length-take, take_min) refl)
    (λ e. rw (e, length-take, take_min) refl)

-- the mark as it stood where a commit is cut at one of its two stores to it
module _ (l w : List ℕ) (ok : head_ok l ≡ true) (accept : List ℕ → Bool) (k n : ℕ) (t : Writing accept l w k) (some : 0 < k) where
  long : length (log_stores (changed_pages l w)) ≡ 66 * k + 3
  long = length_log (long_changes l w ok t.same t.fit) ∙ ap (λ (j : ℕ). 66 * j + 3) t.count

  cut : after (commit_plan accept l w) n l ≡ apply (take (n - (66 * k + 3)) (recover_stores (home_at l) (changed_pages l w))) (apply (take n (log_stores (changed_pages l w))) l)
  unfolding after
  cut =
      ap (λ (p : Plan). after p n l) (t.plan ∙ ap store (commit_is (home_at l) (changed_pages l w) (omega (arith, t.count))))
      ∙ apply-take-append n (log_stores (changed_pages l w)) (recover_stores (home_at l) (changed_pages l w)) l
      ∙ ap (λ (j : ℕ). apply (take (n - j) (recover_stores (home_at l) (changed_pages l w))) (apply (take n (log_stores (changed_pages l w))) l)) long

  stood-first : n ≡ 66 * k + 2 → mark (after (commit_plan accept l w) n l) ≡ mark l
  stood-first e =
      let z : n - (66 * k + 3) ≡ 0 = omega arith in
      ap mark (cut ∙ ap (λ (j : ℕ). apply (take j (recover_stores (home_at l) (changed_pages l w))) (apply (take n (log_stores (changed_pages l w))) l)) z ∙ apply-none (apply (take n (log_stores (changed_pages l w))) l))
      ∙ log_standing (long_changes l w ok t.same t.fit) l n (omega (arith, t.count))

  stood_last : n ≡ 130 * k + 3 → mark (after (commit_plan accept l w) n l) ≡ 165
  stood_last e =
      let x : List ℕ = apply (log_stores (changed_pages l w)) l in
      let r = head_right l ok in
      ap mark (cut ∙ ap (λ (ss : List Store). apply (take (n - (66 * k + 3)) (recover_stores (home_at l) (changed_pages l w))) (apply ss l)) (take_all n (log_stores (changed_pages l w)) (omega (arith, long))))
      ∙ recover_standing x (home_at l) (changed_pages l w) (n - (66 * k + 3)) (omega arith) (long_changes l w ok t.same t.fit) (omega (arith, t.count))
      ∙ ap mark (sym (log_mark_same l (changed_pages l w)))
      ∙ remark_mark x 165 (omega (arith, length-apply (log_stores (changed_pages l w)) l))

module _ (accept : List ℕ → Bool) (L : ℕ) (p : Plain) (n v : ℕ) where
  plain_done : plain_need p ≤ n → plain_next accept L p (recover n v) ≡ record { kept = p.kept; owed = 0 }
  unfolding plain_next
  plain_done g = rw (le-leb (plain_need p) n g)

  plain_cut : n < plain_need p → plain_next accept L p (recover n v) ≡ p
  unfolding plain_next
  plain_cut g = rw (lt-leb (plain_need p) n g)

module _ (p : Plain) where
  plain_none : p.owed ≡ 0 → plain_need p ≡ 0
  unfolding plain_need need_by
  plain_none e = rw e

  plain_some : 1 ≤ p.owed → plain_need p ≡ 64 * p.owed + 1
  unfolding plain_need need_by
  plain_some g = rw (ne_eqb p.owed 0 (λ e. omega arith))

module _ (p : Plain) (w : List ℕ) (k n : ℕ) (some : 0 < k) where
  plain_before : n < 66 * k + 3 → plain_at p (writes k) w n ≡ p
  unfolding plain_at mark_stored
  plain_before g = rw (ne_eqb k 0 (λ e. omega arith), lt-leb (66 * k + 3) n g)

  plain_behind : 66 * k + 3 ≤ n → n < 130 * k + 4 → plain_at p (writes k) w n ≡ record { kept = w; owed = k }
  unfolding plain_at mark_stored
  plain_behind g h = rw (ne_eqb k 0 (λ e. omega arith), le-leb (66 * k + 3) n g, some_commit k some, lt-leb (130 * k + 4) n h)

  plain_all : 130 * k + 4 ≤ n → plain_at p (writes k) w n ≡ record { kept = w; owed = 0 }
  unfolding plain_at mark_stored
  plain_all g = rw (ne_eqb k 0 (λ e. omega arith), le-leb (66 * k + 3) n (omega arith), some_commit k some, le-leb (130 * k + 4) n g)

by_both : {b c : Book} {p q : Plain} → b ≡ c → p ≡ q → Same c q → Same b p
by_both e f s = rw (e, f) s

module _ (accept : List ℕ → Bool) (l₀ : List ℕ) (ok₀ : head_ok l₀ ≡ true) (l : List ℕ) (b : Book) (t : Holds accept l₀ l b) (p : Plain) (s : Same b p) where
  ok : head_ok l ≡ true
  ok = head_same t.head ∙ ok₀

  -- ---- recover

  recover_same : (n v : ℕ) → caught (recover_plan l) n v l ≡ after (recover_plan l) n l
      → (recover_need b ≡ plain_need p) × Same (recovering b n v) (plain_next accept (capacity l₀) p (recover n v))
  unfolding told_mark after
  recover_same n v still = by_state t.state
    where
      by_state : State l b → (recover_need b ≡ plain_need p) × Same (recovering b n v) (plain_next accept (capacity l₀) p (recover n v))
      by_state (settled m e h) =
          let none : plain_need p ≡ 0 = plain_none p (sym s.owed ∙ e) in
          let need : recover_need b ≡ 0 = need_clear b m in (
            need ∙ sym none,
            by_both (recovering_done b n v (omega arith)) (plain_done accept (capacity l₀) p n v (omega arith)) (record { kept = s.kept; owed = refl; mark = refl }),
          )
      by_state (owing m e f o) =
          let c = log_right l o.right in
          let same : b.owed ≡ p.owed = s.owed in
          let q : length (log_of l) ≡ b.logged_pages = log_long l b.logged b.logged_pages ok o in
          let some : 1 ≤ p.owed = omega (arith, o.counted) in
          let need : recover_need b ≡ 64 * b.owed + 1 = need_marked b (λ z. omega arith) in
          let plain : plain_need p ≡ 64 * p.owed + 1 = plain_some p some in (
            omega arith,
            by_lt n (recover_need b)
                (λ g. by_eq (n + 1) (recover_need b)
                (λ z.
                let h : Holds accept l₀ (caught (recover_plan l) n v l) (recovering b n v) = recover_goes accept l₀ ok₀ l b t n v in
                let is : v ≡ 165 =
                sym (h.marks ∙ ap (λ (c : Book). c.mark) (recovering_last b n v z))
                ∙ ap mark still
                ∙ ap (λ (q : Plan). mark (after q n l)) (recover_committed_lem l ok (t.marks ∙ m) o.right)
                ∙ recover_standing l (home_at l) (log_of l) n (omega arith) (long_log l b.logged b.logged_pages ok o) (omega arith)
                ∙ t.marks
                ∙ m in
                by_both (recovering_last b n v z ∙ ap (told_mark b) is) (plain_cut accept (capacity l₀) p n v (omega arith))
                (record { kept = sym f ∙ s.kept; owed = sym e ∙ s.owed; mark = rw (ne_eqb p.owed 0 (λ y. omega arith)) }))
                (λ z. by_both (recovering-cut b n v (omega arith)) (plain_cut accept (capacity l₀) p n v (omega arith)) s))
                (λ g. by_both (recovering_done b n v g) (plain_done accept (capacity l₀) p n v (omega arith)) (record { kept = s.kept; owed = refl; mark = refl })),
          )
      by_state (spoiled f g e h o) = by_test (eqb p.owed 0)
          (λ z. absurd (f (s.mark ∙ rw z)))
          (λ z. absurd (g (s.mark ∙ rw z)))

  -- ---- commit

  same_verdict : (w : List ℕ) → judge accept (capacity l₀) b w ≡ plain_judge accept (capacity l₀) p w
  unfolding judge book_rules plain_judge plain_rules first
  same_verdict w = by_test (eqb p.owed 0)
      (λ z. rw (s.mark, s.kept, z))
      (λ z. rw (s.mark, s.kept, z))

  module _ (w : List ℕ) (k n v : ℕ) (m : b.mark ≡ 0) (e : b.owed ≡ 0) (h : home l ≡ b.kept)
      (is : judge accept (capacity l₀) b w ≡ writes k) (some : 0 < k) (still : caught (commit_plan accept l w) n v l ≡ after (commit_plan accept l w) n l) where
    writes_it : Writing accept l w k
    writes_it = writing accept l₀ ok₀ l b t m e h w n v k is

    -- the image's mark is the book's
    mark_is : mark (after (commit_plan accept l w) n l) ≡ (committing b w k n v).mark
    unfolding seen plan_of allowance value next book_at
    mark_is =
        let g = (step accept l₀ ok₀ l b t (commit w n v)).goes_on.marks in
        sym (ap mark still) ∙ rw (is, ne_eqb k 0 (λ z. omega arith)) at g

    commit_same : Same (committing b w k n v) (plain_at p (writes k) w n)
    unfolding told_mark logs recover_need need_by
    commit_same = by_lt n (66 * k + 2)
        (λ g. by_both (committing_early b n v w k g) (plain_before p w k n some (omega arith)) s)
        (λ g. by_eq n (66 * k + 2)
        (λ z.
        let clear : v ≡ 0 = sym (ap (λ (c : Book). c.mark) (committing-mark b n v w k z)) ∙ sym mark_is ∙ stood-first l w ok accept k n writes_it some z ∙ t.marks ∙ m in
        let owed : p.owed ≡ 0 = sym s.owed ∙ e in
        by_both (committing-mark b n v w k z ∙ ap (told_mark (logs b w k)) clear) (plain_before p w k n some (omega arith))
        (record { kept = s.kept; owed = sym owed; mark = rw owed }))
        (λ z.
        let c : Book = told_mark (logs b w k) 165 in
        let late : committing b w k n v ≡ recovering c (n - (66 * k + 3)) v = committing_late b n v w k (omega arith) in
        by_lt n (130 * k + 4)
        (λ f. by_both (late ∙ by_eq n (130 * k + 3)
        (λ y.
        let last : recovering c (n - (66 * k + 3)) v ≡ told_mark c v = recovering_last c (n - (66 * k + 3)) v (omega arith) in
        let set : v ≡ 165 = sym (ap (λ (d : Book). d.mark) (late ∙ last)) ∙ sym mark_is ∙ stood_last l w ok accept k n writes_it some y in
        last ∙ ap (told_mark c) set)
        (λ y. recovering-cut c (n - (66 * k + 3)) v (omega arith)))
        (plain_behind p w k n some (omega arith) f)
        (record { kept = refl; owed = refl; mark = rw (ne_eqb k 0 (λ y. omega arith)) }))
        (λ f. by_both (late ∙ recovering_done c (n - (66 * k + 3)) v (omega arith)) (plain_all p w k n some f) (record { kept = refl; owed = refl; mark = refl }))))

  committed_same : (w : List ℕ) (n v : ℕ) → caught (commit_plan accept l w) n v l ≡ after (commit_plan accept l w) n l
      → Same (book_at b (judge accept (capacity l₀) b w) w n v) (plain_at p (judge accept (capacity l₀) b w) w n)
  unfolding book_at plain_at mark_stored
  committed_same w n v still = go (judge accept (capacity l₀) b w) refl
    where
      go : (d : Verdict) → judge accept (capacity l₀) b w ≡ d → Same (book_at b d w n v) (plain_at p d w n)
      go (refused r) e = s
      go (writes k) e = by_eq k 0
          (λ z. rw z s)
          (λ z. rw (ne_eqb k 0 z) (rw (ne_eqb k 0 z) at (by_state k e (omega arith) t.state)))
        where
          by_state : (k : ℕ) → judge accept (capacity l₀) b w ≡ writes k → 0 < k → State l b → Same (committing b w k n v) (plain_at p (writes k) w n)
          by_state k e g (settled m o h) = commit_same w k n v m o h e g still
          by_state k e g (owing m o f h) = absurd (omega (arith, writes_clear accept (capacity l₀) b w k e))
          by_state k e g (spoiled f i o h j) = absurd (f (writes_clear accept (capacity l₀) b w k e))

  -- ---- any call

  -- the answer is the plain book's, which goes on with the same H and p
  step_same : (c : Call) → (seen accept c l).image ≡ after (plan_of accept c l) (allowance c) l
      → (foretold accept (capacity l₀) b c ≡ plain_foretold accept (capacity l₀) p c) × Same (next accept (capacity l₀) b c) (plain_next accept (capacity l₀) p c)
  unfolding seen plan_of allowance value foretold plain_foretold next plain_next
  step_same (commit w n v) u = (ap (λ (d : Verdict). answer_to d n) (same_verdict w), rw (← same_verdict w) (committed_same w n v u))
  step_same (recover n v) u = let r = recover_same n v u in (ap (λ (j : ℕ). Ok (report j n)) r.0, r.1)

  -- and so are the bytes
  step_left : (c : Call) → (seen accept c l).image ≡ after (plan_of accept c l) (allowance c) l → seen accept c l ≡ plain_told accept (capacity l₀) p c l
  unfolding seen told plain_told
  step_left c u =
      let q : answer (plan_of accept c l) (allowance c) ≡ plain_foretold accept (capacity l₀) p c =
      ap (λ (z : Seen). z.answered) (step accept l₀ ok₀ l b t c).same ∙ (step_same c u).0 in
      let e : caught (plan_of accept c l) (allowance c) (value c) l ≡ plain_left (plain_foretold accept (capacity l₀) p c) (plan_of accept c l) l =
      u ∙ after-answer (plan_of accept c l) (allowance c) l ∙ ap (λ (o : Outcome). plain_left o (plan_of accept c l) l) q in
      λ i. record { answered = q i; image = e i }

-- ---- lists of calls

module _ (accept : List ℕ → Bool) (l₀ : List ℕ) (ok₀ : head_ok l₀ ≡ true) where
  through : (cs : List Call) (l : List ℕ) (b : Book) (p : Plain) → Holds accept l₀ l b → Same b p → Uncaught accept l cs
      → (trace accept cs l ≡ plain_ledger accept (capacity l₀) cs p l) × Same (book_after accept (capacity l₀) cs b) (plain_after accept (capacity l₀) cs p)
  unfolding trace plain_ledger book_after plain_after
  through [] l b p t s u = (refl, s)
  through (c ∷ cs) l b p t s (and e u) =
      let left : seen accept c l ≡ plain_told accept (capacity l₀) p c l = step_left accept l₀ ok₀ l b t p s c e in
      let more = through cs (seen accept c l).image (next accept (capacity l₀) b c) (plain_next accept (capacity l₀) p c)
      (step accept l₀ ok₀ l b t c).goes_on (step_same accept l₀ ok₀ l b t p s c e).1 u in (
        ap₂ (λ (x : Seen) (y : List Seen). x ∷ y) left (more.0 ∙ ap (λ (z : Seen). plain_ledger accept (capacity l₀) cs (plain_next accept (capacity l₀) p c) z.image) left),
        more.1,
      )

-- for every list of calls in which no byte is caught
module _ (accept : List ℕ → Bool) (l : List ℕ) (s : Starts accept l) (cs : List Call) (u : Uncaught accept l cs) where
  both : (trace accept cs l ≡ plain_ledger accept (capacity l) cs (plain_start (home l)) l)
      × Same (book_after accept (capacity l) cs (start (home l))) (plain_after accept (capacity l) cs (plain_start (home l)))
  unfolding start plain_start
  both = through accept l s.head cs l (start (home l)) (plain_start (home l)) (begins accept l s) (record { kept = refl; owed = refl; mark = refl }) u

  -- the book is the plain one
  pub same_book : Same (book_after accept (capacity l) cs (start (home l))) (plain_after accept (capacity l) cs (plain_start (home l)))
  same_book = both.1

  pub uncaught_claim : PlainClaim accept l cs (plain_after accept (capacity l) cs (plain_start (home l))) (final accept cs l)
  uncaught_claim =
      let c : Claim accept l cs (book_after accept (capacity l) cs (start (home l))) (final accept cs l) = claim accept l s cs in
      let e = same_book in
      record {
        calls = both.0;
        marks = c.marks ∙ e.mark;
        stands = λ m. c.stands (λ z. omega arith) ∙ e.kept;
        recovers = λ n m f. let r = c.recovers n m f in (r.0 ∙ e.kept, r.1);
        long = c.long;
        same_capacity = c.same_capacity;
        same_pages = c.same_pages;
        fine = rw (← e.kept) c.fine;
      }

-- ---- any list is such a one, each call told the value that stood there

uncaught_one : (ss : List Store) (x : List ℕ) → halfway ss (stood ss x) x ≡ x
unfolding halfway stood
uncaught_one [] x = refl
uncaught_one (s ∷ ss) x = set-get_or x s.at 0

-- told v, a call leaves v in the byte of its next store
telling_leaves : (accept : List ℕ → Bool) (c : Call) (l : List ℕ) (v : ℕ)
    → ((seen accept (telling c v) l).image ≡ halfway (rest (plan_of accept c l) (allowance c)) v (after (plan_of accept c l) (allowance c) l))
    × (after (plan_of accept (telling c v) l) (allowance (telling c v)) l ≡ after (plan_of accept c l) (allowance c) l)
unfolding seen caught telling plan_of allowance value
telling_leaves accept (commit w n u) l v = (refl, refl)
telling_leaves accept (recover n u) l v = (refl, refl)

pub still_uncaught : (accept : List ℕ → Bool) (cs : List Call) (l : List ℕ) → Uncaught accept l (still accept cs l)
unfolding still
still_uncaught accept [] l = end
still_uncaught accept (c ∷ cs) l =
    let x : List ℕ = after (plan_of accept c l) (allowance c) l in
    let v : ℕ = stood (rest (plan_of accept c l) (allowance c)) x in
    let t = telling_leaves accept c l v in
    let e : (seen accept (telling c v) l).image ≡ x = t.0 ∙ uncaught_one (rest (plan_of accept c l) (allowance c)) x in
    and {cs = still accept cs x} (e ∙ sym t.1) (rw e (still_uncaught accept cs x))
