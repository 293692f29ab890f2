-- Computed examples on the smallest image: L = 1, R = 1, home of 27 pages.
use Rattle.std.specs.Prelude.{◌≡◌, refl, true, ℕ, ◌*◌, List, [], length, drop, set, replicate, Ok, Err}
use Rattle.wire.specs.Bytes.{zeros_but, over, equal, part, get16, bytes16, blank}
use Rattle.refusals.specs.declared.Refusal.TheVariants.{BadHead, Unrecovered, BadLog, UnsoundHome, SpaceLength, UnsoundSpace, LogShort, Sizes}
use Rattle.refusals.specs.Rules.{first}
use Rattle.redo.specs.Store.{apply, run}
use Rattle.redo.specs.Image.{letters, mark, count, home, in_range, head_ok, head_page, empty_image}
use Rattle.redo.specs.Entry.{entry, entries, rising, changes, logged, replay}
use Rattle.redo.specs.Stores.{format_stores, clear_mark, recover_stores, log_stores, commit_stores}
use Rattle.image_log.specs.declared.Stored.TheVariants.{Done, Cut}
use Rattle.image_log.specs.Calls.{Outcome, answer, after, formattable, format_rules, format_plan, log_ok, recover_rules, recover_plan, commit_rules, commit_plan, any_bytes}

-- the image that format leaves; its home with a byte of page 0 changed, and with one of page 26 too
image : List ℕ
image = empty_image 1 1 0 0

one : List ℕ
one = set (replicate (64 * 27) 0) 5 7

two : List ℕ
two = set one (64 * 26) 9

-- a commit of `one` with an allowance, and what it leaves
committing : ℕ → Outcome
committing n = answer (commit_plan any_bytes image one) n

left : ℕ → List ℕ
left n = after (commit_plan any_bytes image one) n image

-- an image after a recovery with stores enough
mended : List ℕ → List ℕ
mended x = after (recover_plan x) 1000 x

-- any bytes of that length
soiled : List ℕ
soiled = replicate (length image) 255

examples :
    -- 130 + 4 stores, cut exactly below that
    (committing 200 ≡ Ok (Done 134))
    × (committing 134 ≡ Ok (Done 134))
    × (committing 133 ≡ Ok (Cut 133))
    × (committing 0 ≡ Ok (Cut 0))
    -- store 66 + 3 sets the mark; afterwards it is clear, and the count stays
    × (mark (left 68) ≡ 0)
    × (mark (left 69) ≡ 165)
    × (mark (left 134) ≡ 0)
    × (count (left 134) ≡ 1)
    -- cut before it the old home is found, from it on the new one, also after a recovery that was cut
    × (equal (home (mended (left 68))) (home image) ≡ true)
    × (equal (home (mended (left 69))) one ≡ true)
    × (equal (home (mended (after (recover_plan (left 100)) 40 (left 100)))) one ≡ true)
    × (equal (home (left 134)) one ≡ true)
    -- no page differs: no store
    × (answer (commit_plan any_bytes image (home image)) 0 ≡ Ok (Done 0))
    -- 64 + 1 stores; none while the mark is clear, whatever the count says
    × (answer (recover_plan (left 69)) 65 ≡ Ok (Done 65))
    × (answer (recover_plan (left 69)) 64 ≡ Ok (Cut 64))
    × (answer (recover_plan (set image 9 9)) 0 ≡ Ok (Done 0))
    -- refusals of commit: 1, 3 for mark 165 and for any other, 5, 6, 7, 13
    × (answer (commit_plan any_bytes [] one) 9 ≡ Err BadHead)
    × (answer (commit_plan any_bytes (set image 10 7) one) 9 ≡ Err Unrecovered)
    × (answer (commit_plan any_bytes (left 69) one) 9 ≡ Err Unrecovered)
    × (answer (commit_plan (λ x. equal x one) image one) 9 ≡ Err UnsoundHome)
    × (answer (commit_plan any_bytes image (drop 1 two)) 9 ≡ Err SpaceLength)
    × (answer (commit_plan (λ x. blank x) image two) 9 ≡ Err UnsoundSpace)
    × (answer (commit_plan any_bytes image two) 9 ≡ Err LogShort)
    -- a mark that is neither: one store, whatever count and log hold
    × (answer (recover_plan (set image 10 7)) 9 ≡ Ok (Done 1))
    × (answer (recover_plan (set image 10 7)) 0 ≡ Ok (Cut 0))
    × (mark (mended (set image 10 7)) ≡ 0)
    × (equal (mended (set (left 69) 10 7)) (set (left 69) 10 0) ≡ true)
    -- refusals of recover: 1, 4 for no entry, too many, a page out of range
    × (answer (recover_plan []) 9 ≡ Err BadHead)
    × (answer (recover_plan (set image 10 165)) 9 ≡ Err BadLog)
    × (answer (recover_plan (set (left 69) 9 2)) 9 ≡ Err BadLog)
    × (answer (recover_plan (set (left 69) 65 27)) 9 ≡ Err BadLog)
    -- format: 14, or as many stores as bytes and one
    × (answer (format_plan [] 1 1 0 0) 9 ≡ Err Sizes)
    × (answer (format_plan image 28 1 0 0) 9 ≡ Err Sizes)
    × (answer (format_plan soiled 1 1 0 0) 1858 ≡ Ok (Cut 1858))
    × (answer (format_plan soiled 1 1 0 0) 1859 ≡ Ok (Done 1859))
unfolding committing left mended soiled image one two first answer after apply run letters home in_range head_ok entry entries rising changes logged replay head_page empty_image zeros_but format_stores formattable format_rules format_plan clear_mark recover_stores log_ok recover_rules recover_plan log_stores commit_stores commit_rules commit_plan over equal part get16 bytes16 blank
examples = (refl, refl, refl, refl, refl, refl, refl, refl, refl, refl, refl, refl, refl, refl, refl, refl, refl, refl, refl, refl, refl, refl, refl, refl, refl, refl, refl, refl, refl, refl, refl, refl, refl, refl, refl)
