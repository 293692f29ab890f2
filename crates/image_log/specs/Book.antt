-- Lists of commits and recoveries, and the book that foretells what each answers and leaves.
use Rattle.std.specs.Prelude.{ℕ, ◌+◌, ◌-◌, ◌*◌, ◌/◌, min, Bool, not, List, [], ◌∷◌, length, drop, leb, ltb, eqb, Ok, Err}
use Rattle.wire.specs.Bytes.{pick}
use Rattle.refusals.specs.declared.Refusal.{Refusal}
use Rattle.refusals.specs.declared.Refusal.TheVariants.{Unrecovered, SpaceLength, UnsoundSpace, LogShort}
use Rattle.refusals.specs.Rules.{Rule, rule, first}
use Rattle.redo.specs.Store.{Store, halfway}
use Rattle.redo.specs.Entry.{changes}
use Rattle.image_log.specs.declared.Stored.{Stored}
use Rattle.image_log.specs.declared.Stored.TheVariants.{Done, Cut}
use Rattle.image_log.specs.Calls.{Outcome, Plan, refuse, store, answer, after, recover_plan, commit_plan}

-- ---- the calls, as the contracts of commit and recover have them, and the byte caught where one is cut

-- a commit of a workspace, a recovery; each with an allowance, and the value found in the byte of its next store if it is cut
pub data Call : Type 0 where
  commit : List ℕ → ℕ → ℕ → Call
  recover : ℕ → ℕ → Call

unfoldable pub allowance : Call → ℕ
allowance (commit w n v) = n
allowance (recover n v) = n

unfoldable pub value : Call → ℕ
value (commit w n v) = v
value (recover n v) = v

unfoldable pub plan_of : (List ℕ → Bool) → Call → List ℕ → Plan
plan_of accept (commit w n v) l = commit_plan accept l w
plan_of accept (recover n v) l = recover_plan l

-- the stores that an allowance leaves out
unfoldable pub rest : Plan → ℕ → List Store
rest (refuse r) n = []
rest (store ss) n = drop n ss

-- `after` is the contracts'; if stores are left out, v stands in the byte of the next one
unfoldable pub caught : Plan → ℕ → ℕ → List ℕ → List ℕ
caught p n v l = halfway (rest p n) v (after p n l)

-- what a call answered and the image that it left
pub record Seen : Type 0 where
  pub answered : Outcome
  pub image : List ℕ

unfoldable pub seen : (List ℕ → Bool) → Call → List ℕ → Seen
seen accept c l = record { answered = answer (plan_of accept c l) (allowance c); image = caught (plan_of accept c l) (allowance c) (value c) l }

-- each call gets the image as the last one left it
unfoldable pub trace : (List ℕ → Bool) → List Call → List ℕ → List Seen
trace accept [] l = []
trace accept (c ∷ cs) l = seen accept c l ∷ trace accept cs (seen accept c l).image

unfoldable pub final : (List ℕ → Bool) → List Call → List ℕ → List ℕ
final accept [] l = l
final accept (c ∷ cs) l = final accept cs (seen accept c l).image

-- ---- the book: fed home bytes and L from the start, then of each call its kind, workspace, allowance and told value

-- kept bytes H, the number p of pages still owed, the mark, the workspace last logged and its k
pub record Book : Type 0 where
  pub kept : List ℕ
  pub owed : ℕ
  pub mark : ℕ
  pub logged : List ℕ
  pub logged_pages : ℕ

unfoldable pub start : List ℕ → Book
start H = record { kept = H; owed = 0; mark = 0; logged = H; logged_pages = 0 }

-- the number k of pages in which w and H differ
unfoldable pub differing : List ℕ → List ℕ → ℕ
differing H w = length (changes H w (length H / 64))

-- a commit is refused, or has k pages to write
pub data Verdict : Type 0 where
  refused : Refusal → Verdict
  writes : ℕ → Verdict

-- 6 if w isn't as long as H, 7 if w isn't accepted, 13 if k is above L
unfoldable pub kept_rules : (List ℕ → Bool) → ℕ → List ℕ → List ℕ → List Rule
kept_rules accept L H w = rule SpaceLength (not (eqb (length w) (length H))) ∷ rule UnsoundSpace (not (accept w)) ∷ rule LogShort (ltb L (differing H w)) ∷ []

-- before them 3, for every mark but 0
unfoldable pub book_rules : (List ℕ → Bool) → ℕ → Book → List ℕ → List Rule
unfolding kept_rules
book_rules accept L b w = rule Unrecovered (not (eqb b.mark 0)) ∷ kept_rules accept L b.kept w

unfoldable pub judge : (List ℕ → Bool) → ℕ → Book → List ℕ → Verdict
judge accept L b w = first refused (book_rules accept L b w) (writes (differing b.kept w))

-- 130k + 4 stores, or none if k is 0
unfoldable pub commit_need : ℕ → ℕ
commit_need k = pick (eqb k 0) 0 (130 * k + 4)

-- none if the mark is clear, otherwise 64p + 1, the last one the mark's: one with a mark that is neither 0 nor 165, for p is then 0
unfoldable pub need_by : Bool → ℕ → ℕ
need_by clear p = pick clear 0 (64 * p + 1)

unfoldable pub recover_need : Book → ℕ
recover_need b = need_by (eqb b.mark 0) b.owed

-- it makes n or what it needs, whichever is less, and is done if n is at least the need, otherwise cut
unfoldable pub report : ℕ → ℕ → Stored
report need n = pick (leb need n) (Done (min n need)) (Cut (min n need))

unfoldable pub answer_to : Verdict → ℕ → Outcome
answer_to (refused r) n = Err r
answer_to (writes k) n = Ok (report (commit_need k) n)

-- all entries of w's k pages and their count are stored
unfoldable pub logs : Book → List ℕ → ℕ → Book
logs b w k = record { kept = b.kept; owed = b.owed; mark = b.mark; logged = w; logged_pages = k }

-- "Told 165 for the mark, it sets H to the workspace last logged and p to its k ..; told another value for it, p to 0"
unfoldable pub told_mark : Book → ℕ → Book
told_mark b v = record {
  kept = pick (eqb v 165) b.logged b.kept;
  owed = pick (eqb v 165) b.logged_pages 0;
  mark = v;
  logged = b.logged;
  logged_pages = b.logged_pages;
}

-- done, a recovery leaves mark 0; one store short, the told value is the mark's; cut before, all stays
unfoldable pub recovering : Book → ℕ → ℕ → Book
recovering b n v =
    pick (leb (recover_need b) n) (told_mark b 0)
    (pick (eqb (n + 1) (recover_need b)) (told_mark b v) b)

-- store 66k + 3 of a commit is its mark's; once that is made it goes on as a recovery of its log
unfoldable pub committing : Book → List ℕ → ℕ → ℕ → ℕ → Book
committing b w k n v =
    pick (leb (66 * k + 3) n) (recovering (told_mark (logs b w k) 165) (n - (66 * k + 3)) v)
    (pick (eqb n (66 * k + 2)) (told_mark (logs b w k) v) b)

unfoldable pub book_at : Book → Verdict → List ℕ → ℕ → ℕ → Book
book_at b (refused r) w n v = b
book_at b (writes k) w n v = pick (eqb k 0) b (committing b w k n v)

unfoldable pub foretold : (List ℕ → Bool) → ℕ → Book → Call → Outcome
foretold accept L b (commit w n v) = answer_to (judge accept L b w) n
foretold accept L b (recover n v) = Ok (report (recover_need b) n)

unfoldable pub next : (List ℕ → Bool) → ℕ → Book → Call → Book
next accept L b (commit w n v) = book_at b (judge accept L b w) w n v
next accept L b (recover n v) = recovering b n v

unfoldable pub book_after : (List ℕ → Bool) → ℕ → List Call → Book → Book
book_after accept L [] b = b
book_after accept L (c ∷ cs) b = book_after accept L cs (next accept L b c)

-- ---- what the book says of a list of calls

-- every byte as the call's stores leave it, after the number of them that the answer gives, and the next one's as told if the call is cut;
-- after a refusal, as before
unfoldable pub left_by : Outcome → Plan → ℕ → List ℕ → List ℕ
left_by (Ok (Done m)) p v l = after p m l
left_by (Ok (Cut m)) p v l = caught p m v l
left_by (Err r) p v l = l

unfoldable pub told : (List ℕ → Bool) → ℕ → Book → Call → List ℕ → Seen
told accept L b c l = record { answered = foretold accept L b c; image = left_by (foretold accept L b c) (plan_of accept c l) (value c) l }

unfoldable pub ledger : (List ℕ → Bool) → ℕ → List Call → Book → List ℕ → List Seen
ledger accept L [] b l = []
ledger accept L (c ∷ cs) b l = told accept L b c l ∷ ledger accept L cs (next accept L b c) (told accept L b c l).image
