-- Demand 3 for the index: the claim over every list of commits and recoveries, with soundness as the test of home and workspaces.
use Rattle.image_log.specs.declared.Stored.TheVariants.{Done}
use Rattle.refusals.specs.declared.Refusal.TheVariants.{UnsoundHome}
use Rattle.std.specs.Prelude.{◌≡◌, refl, ◌≢◌, false, ℕ, List, [], ◌∷◌, ◌++◌, length, eqb, Ok, Err}
use Rattle.std.proofs.Common.{sym, ap, ◌∙◌, subst}
use Rattle.std.proofs.lemmas.Bool.{eqb-false}
use Rattle.wire.specs.All.{All, none, more}
use Rattle.refusals.specs.Rules.{number_of, Rule, numbers}
use Rattle.refusals.specs.RulesLaws.{by_refusal, first-refused, first_passed, refused_among}
use Rattle.redo.specs.Store.{Store}
use Rattle.redo.specs.Image.{capacity, mark, home}
use Rattle.image_log.specs.Calls.{store, answer, changed_pages, commit_plan}
use Rattle.image_log.specs.Book.{Call, commit, recover, value, plan_of, Seen, trace, final, Book, start, differing, Verdict, refused, writes, book_rules, judge, commit_need, report, answer_to, foretold, next, book_after, left_by, told, ledger}
use Rattle.image_log.specs.Claim.{Starts, Claim}
use Rattle.image_log.proofs.Claim.{claim}
use Rattle.image_log.specs.Kept.{book_of, committed, IsRecover, Found}
use Rattle.image_log.proofs.Kept.{switched_off, completed}
use Rattle.image_log.specs.Last.{Tells, marks_at, kept, logged}
use Rattle.image_log.proofs.Last.{last_kept}
use Rattle.image_log.specs.Uncaught.{plain_start, plain_after, Uncaught, PlainClaim}
use Rattle.image_log.proofs.UncaughtLaws.{uncaught_claim}
use Rattle.home.specs.Sound.{sound}

-- each call's answer, number and byte, and what is kept
pub index_claim : (l : List ℕ) → Starts sound l → (cs : List Call) → Claim sound l cs (book_after sound (capacity l) cs (start (home l))) (final sound cs l)
index_claim l s cs = claim sound l s cs

-- a switch-off in the middle of any byte of a commit that is not refused, and of any recoveries after it
pub index_switched_off : (l w : List ℕ) {ss : List Store} → commit_plan sound l w ≡ store ss → (n v : ℕ) {rs : List Call} → All IsRecover rs
    → Found n v (length (changed_pages l w)) (home l) w (final sound (commit w n v ∷ rs) l)
index_switched_off = switched_off sound

-- what is kept: the workspace that was last logged when the mark of a commit was last stored, by a commit or by a recovery told 165, or the home bytes from the start
pub index_kept : (l : List ℕ) (cs : List Call) → Tells sound (capacity l) (marks_at sound (capacity l)) kept logged (start (home l)) cs
index_kept l cs = last_kept sound (capacity l) cs (home l)

module _ (l : List ℕ) (s : Starts sound l) where
  -- the claim as it is where no byte is caught
  pub index_uncaught : (cs : List Call) → Uncaught sound l cs → PlainClaim sound l cs (plain_after sound (capacity l) cs (plain_start (home l))) (final sound cs l)
  index_uncaught = uncaught_claim sound l s

  -- a commit that is done leaves the new one
  pub index_completed : (cs : List Call) (w x : List ℕ) → x ≡ final sound cs l → (n v m : ℕ) → answer (commit_plan sound x w) n ≡ Ok (Done m)
      → ((book_of sound l (cs ++ (commit w n v ∷ []))).kept ≡ w) × (mark (committed sound x w n) ≡ 0) × (home (committed sound x w n) ≡ w)
  index_completed = completed sound l s

-- ---- 5 never arises

not-report : (need n : ℕ) → Ok (report need n) ≢ Err UnsoundHome
not-report need n e = cc

not-foretold : (L : ℕ) (b : Book) (c : Call) → foretold sound L b c ≢ Err UnsoundHome
unfolding foretold judge answer_to book_rules numbers
not-foretold L b (recover n v) e = cc
not-foretold L b (commit w n v) e = by_refusal rs
    (λ r q. let f : Err r ≡ Err UnsoundHome = sym (ap (λ (x : Verdict). answer_to x n) (first-refused refused rs r k q)) ∙ e in
    let five : r ≡ UnsoundHome = cc in eqb-false (number_of r) 5 (refused_among rs r no_five q) (ap number_of five))
    (λ q. let f : Ok (report (commit_need (differing b.kept w)) n) ≡ Err UnsoundHome = sym (ap (λ (x : Verdict). answer_to x n) (first_passed refused rs k q)) ∙ e in cc)
  where
    rs : List Rule
    rs = book_rules sound L b w

    k : Verdict
    k = writes (differing b.kept w)

    no_five : All (λ (x : ℕ). eqb x 5 ≡ false) (numbers rs)
    no_five = more refl (more refl (more refl (more refl none)))

ledger_fives : (L : ℕ) (cs : List Call) (b : Book) (l : List ℕ) → All (λ (x : Seen). x.answered ≢ Err UnsoundHome) (ledger sound L cs b l)
unfolding ledger told
ledger_fives L [] b l = none
ledger_fives L (c ∷ cs) b l = more (not-foretold L b c) (ledger_fives L cs (next sound L b c) (left_by (foretold sound L b c) (plan_of sound c l) (value c) l))

pub never_unsound : (l : List ℕ) → Starts sound l → (cs : List Call) → All (λ (x : Seen). x.answered ≢ Err UnsoundHome) (trace sound cs l)
never_unsound l s cs = subst (All (λ (x : Seen). x.answered ≢ Err UnsoundHome)) (sym (index_claim l s cs).calls) (ledger_fives (capacity l) cs (start (home l)) l)
