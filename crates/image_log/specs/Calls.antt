-- The calls that store: each is refused, or has one list of stores that an allowance cuts.
use Rattle.std.specs.Prelude.{ℕ, ◌+◌, ◌*◌, Bool, true, not, ◌&&◌, List, [], ◌∷◌, ◌++◌, length, take, leb, ltb, eqb, Ok, Err}
use Rattle.std.specs.declared.result.Result.{Result}
use Rattle.wire.specs.Bytes.{pick}
use Rattle.refusals.specs.declared.Refusal.{Refusal}
use Rattle.refusals.specs.declared.Refusal.TheVariants.{BadHead, Unrecovered, BadLog, UnsoundHome, SpaceLength, UnsoundSpace, LogShort, Sizes}
use Rattle.refusals.specs.Rules.{Rule, rule, first}
use Rattle.redo.specs.Store.{Store, apply}
use Rattle.redo.specs.Image.{capacity, count, mark, pages, home_at, home, in_range, image_length, head_ok}
use Rattle.redo.specs.Entry.{Entry, entries, rising, changes}
use Rattle.redo.specs.Stores.{format_stores, clear_mark, recover_stores, commit_stores}
use Rattle.image_log.specs.declared.Stored.{Stored}
use Rattle.image_log.specs.declared.Stored.TheVariants.{Done, Cut}

-- what a call that stores answers
abbrev pub Outcome : Type 0
Outcome = Result Stored Refusal

-- what a call on given bytes comes to: its refusal, or all the stores that it needs
pub data Plan : Type 0 where
  refuse : Refusal → Plan
  store : List Store → Plan

-- An allowance of n lets exactly the first n stores happen. The answer is done or cut, with the number made;
-- cut exactly if the whole needs more than n.
unfoldable pub answer : Plan → ℕ → Outcome
answer (refuse r) n = Err r
answer (store ss) n = Ok (pick (leb (length ss) n) (Done (length (take n ss))) (Cut (length (take n ss))))

-- the bytes that it leaves; a refusal leaves all as they were
unfoldable pub after : Plan → ℕ → List ℕ → List ℕ
after (refuse r) n l = l
after (store ss) n l = apply (take n ss) l

-- ---- an image lent

-- "1: image calls", "3 is given for every mark but 0"
unfoldable pub head_rules : List ℕ → List Rule
head_rules l = rule BadHead (not (head_ok l)) ∷ rule Unrecovered (not (eqb (mark l) 0)) ∷ []

-- in a call that looks at home; 5 goes by a test of home bytes that the caller has
unfoldable pub image_rules : (List ℕ → Bool) → List ℕ → List Rule
unfolding head_rules
image_rules accept l = head_rules l ++ rule UnsoundHome (not (accept (home l))) ∷ []

-- ---- format

-- L and R are in range, the length matches, and offset p lies in home
unfoldable pub formattable : List ℕ → ℕ → ℕ → ℕ → Bool
formattable l L R p = in_range L R && (eqb (length l) (image_length L R) && ltb p (64 * (26 + R)))

-- "14: format, L or R out of range or length not matching"
unfoldable pub format_rules : List ℕ → ℕ → ℕ → ℕ → List Rule
format_rules l L R p = rule Sizes (not (formattable l L R p)) ∷ []

-- home is zero but for the byte v at offset p
unfoldable pub format_plan : List ℕ → ℕ → ℕ → ℕ → ℕ → Plan
format_plan l L R p v = first refuse (format_rules l L R p) (store (format_stores L R p v))

-- ---- recover

-- the entries that the count names
abbrev pub log_of : List ℕ → List Entry
log_of l = entries l 0 (count l)

-- the count is 1 to L, the page numbers are below 26 + R and each is above the one before
unfoldable pub log_ok : List ℕ → Bool
log_ok l = leb 1 (count l) && leb (count l) (capacity l) && rising 0 (pages l) (log_of l)

-- 4 with mark 165 only
unfoldable pub recover_rules : List ℕ → List Rule
recover_rules l = rule BadHead (not (head_ok l)) ∷ rule BadLog (eqb (mark l) 165 && not (log_ok l)) ∷ []

-- no store with mark 0; with a mark that is neither 0 nor 165, the one store of 0 over it is the whole recovery
unfoldable pub recover_plan : List ℕ → Plan
recover_plan l = first refuse (recover_rules l) (store (pick (eqb (mark l) 0) [] (pick (eqb (mark l) 165) (recover_stores (home_at l) (log_of l)) clear_mark)))

-- ---- commit

-- the k pages in which the workspace differs from home, rising
abbrev pub changed_pages : List ℕ → List ℕ → List Entry
changed_pages l w = changes (home l) w (pages l)

-- 6 by the image's length, 7 by the same test as 5, "13: commit, k above L"
unfoldable pub commit_rules : (List ℕ → Bool) → List ℕ → List ℕ → List Rule
unfolding image_rules
commit_rules accept l w = image_rules accept l ++ rule SpaceLength (not (eqb (length w) (64 * pages l))) ∷ rule UnsoundSpace (not (accept w)) ∷ rule LogShort (ltb (capacity l) (length (changed_pages l w))) ∷ []

unfoldable pub commit_plan : (List ℕ → Bool) → List ℕ → List ℕ → Plan
commit_plan accept l w = first refuse (commit_rules accept l w) (store (commit_stores (home_at l) (changed_pages l w)))

-- the test of a log that knows pages only
abbrev pub any_bytes : List ℕ → Bool
any_bytes x = true
