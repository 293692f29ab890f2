-- Lists of calls in which no byte is caught: each leaves the image as its stores do, and the book needs no more than H and p.
use Rattle.std.specs.Prelude.{◌≡◌, Bool, true, ◌&&◌, not, ℕ, ◌+◌, ◌*◌, List, [], ◌∷◌, length, get_or, leb, eqb, Ok, Err}
use Rattle.wire.specs.Bytes.{pick}
use Rattle.refusals.specs.declared.Refusal.TheVariants.{Unrecovered}
use Rattle.refusals.specs.Rules.{Rule, rule, first}
use Rattle.redo.specs.Store.{Store}
use Rattle.redo.specs.Image.{capacity, record_pages, mark, home}
use Rattle.image_log.specs.declared.Stored.TheVariants.{Done, Cut}
use Rattle.image_log.specs.Calls.{Outcome, Plan, answer, after, recover_plan}
use Rattle.image_log.specs.Book.{Call, commit, recover, allowance, plan_of, rest, Seen, seen, trace, Verdict, refused, differing, writes, kept_rules, need_by, commit_need, report, answer_to}

-- ---- the book: it is not told of bytes

-- kept bytes H, and the number p of pages still owed
pub record Plain : Type 0 where
  pub kept : List ℕ
  pub owed : ℕ

unfoldable pub plain_start : List ℕ → Plain
plain_start H = record { kept = H; owed = 0 }

-- "3 if p isn't 0"; else 6, 7, 13
unfoldable pub plain_rules : (List ℕ → Bool) → ℕ → Plain → List ℕ → List Rule
unfolding kept_rules
plain_rules accept L p w = rule Unrecovered (not (eqb p.owed 0)) ∷ kept_rules accept L p.kept w

unfoldable pub plain_judge : (List ℕ → Bool) → ℕ → Plain → List ℕ → Verdict
plain_judge accept L p w = first refused (plain_rules accept L p w) (writes (differing p.kept w))

-- 64p + 1, or none if p is 0
unfoldable pub plain_need : Plain → ℕ
plain_need p = need_by (eqb p.owed 0) p.owed

-- the mark is stored exactly when k isn't 0 and n is at least 66k + 3
unfoldable pub mark_stored : ℕ → ℕ → Bool
mark_stored k n = not (eqb k 0) && leb (66 * k + 3) n

-- then H becomes w, and if the call is cut p becomes k
unfoldable pub plain_at : Plain → Verdict → List ℕ → ℕ → Plain
plain_at p (refused r) w n = p
plain_at p (writes k) w n = pick (mark_stored k n) (record { kept = w; owed = pick (leb (commit_need k) n) 0 k }) p

unfoldable pub plain_foretold : (List ℕ → Bool) → ℕ → Plain → Call → Outcome
plain_foretold accept L p (commit w n v) = answer_to (plain_judge accept L p w) n
plain_foretold accept L p (recover n v) = Ok (report (plain_need p) n)

-- a recovery that is done leaves nothing owed; cut, it leaves H and p as they were
unfoldable pub plain_next : (List ℕ → Bool) → ℕ → Plain → Call → Plain
plain_next accept L p (commit w n v) = plain_at p (plain_judge accept L p w) w n
plain_next accept L p (recover n v) = record { kept = p.kept; owed = pick (leb (plain_need p) n) 0 p.owed }

unfoldable pub plain_after : (List ℕ → Bool) → ℕ → List Call → Plain → Plain
plain_after accept L [] p = p
plain_after accept L (c ∷ cs) p = plain_after accept L cs (plain_next accept L p c)

-- every byte as the call's stores leave it, after the number of them that the answer gives; after a refusal, as before
unfoldable pub plain_left : Outcome → Plan → List ℕ → List ℕ
plain_left (Ok (Done m)) p l = after p m l
plain_left (Ok (Cut m)) p l = after p m l
plain_left (Err r) p l = l

unfoldable pub plain_told : (List ℕ → Bool) → ℕ → Plain → Call → List ℕ → Seen
plain_told accept L p c l = record { answered = plain_foretold accept L p c; image = plain_left (plain_foretold accept L p c) (plan_of accept c l) l }

unfoldable pub plain_ledger : (List ℕ → Bool) → ℕ → List Call → Plain → List ℕ → List Seen
plain_ledger accept L [] p l = []
plain_ledger accept L (c ∷ cs) p l = plain_told accept L p c l ∷ plain_ledger accept L cs (plain_next accept L p c) (plain_told accept L p c l).image

-- ---- no byte is caught

pub data Uncaught (accept : List ℕ → Bool) : List ℕ → List Call → Type 0 where
  end : {l : List ℕ} → Uncaught accept l []
  and : {l : List ℕ} {c : Call} {cs : List Call} → (seen accept c l).image ≡ after (plan_of accept c l) (allowance c) l
      → Uncaught accept (seen accept c l).image cs → Uncaught accept l (c ∷ cs)

-- the value that stood where the first of the stores left out was to go
unfoldable pub stood : List Store → List ℕ → ℕ
stood [] l = 0
stood (s ∷ ss) l = get_or l s.at 0

unfoldable pub telling : Call → ℕ → Call
telling (commit w n u) v = commit w n v
telling (recover n u) v = recover n v

-- any list, each call told the value that stood there
unfoldable pub still : (List ℕ → Bool) → List Call → List ℕ → List Call
still accept [] l = []
still accept (c ∷ cs) l =
    telling c (stood (rest (plan_of accept c l) (allowance c)) (after (plan_of accept c l) (allowance c) l))
    ∷ still accept cs (after (plan_of accept c l) (allowance c) l)

-- ---- the claim about such a list

-- It starts on an image l with a right head, mark 0 and accepted home (`Starts`). p is the book after it, x the image.
pub record PlainClaim (accept : List ℕ → Bool) (l : List ℕ) (cs : List Call) (p : Plain) (x : List ℕ) : Type 0 where
  -- each call has given the book's answer, and left every byte as after that many of its stores
  pub calls : trace accept cs l ≡ plain_ledger accept (capacity l) cs (plain_start (home l)) l
  -- "the mark is 0 if p is 0, otherwise 165"
  pub marks : mark x ≡ pick (eqb p.owed 0) 0 165
  -- "with mark 0 the home bytes are H"
  pub stands : mark x ≡ 0 → home x ≡ p.kept
  -- "with either mark, a recovery that finishes next leaves home bytes H and mark 0"
  pub recovers : (n m : ℕ) → answer (recover_plan x) n ≡ Ok (Done m) → (home (after (recover_plan x) n x) ≡ p.kept) × (mark (after (recover_plan x) n x) ≡ 0)
  -- "Length, L and R are as at the start"
  pub long : length x ≡ length l
  pub same_capacity : capacity x ≡ capacity l
  pub same_pages : record_pages x ≡ record_pages l
  -- what is kept is accepted
  pub fine : accept p.kept ≡ true
