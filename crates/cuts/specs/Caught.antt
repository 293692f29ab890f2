-- Computed examples of lists of calls with a byte caught: L = 1, R = 1, a commit of one page, 134 stores, the mark's the 69th and the last.
use Rattle.std.specs.Prelude.{◌≡◌, refl, true, ℕ, ◌*◌, List, [], ◌∷◌, map, set, get_or, replicate, Ok, Err}
use Rattle.wire.specs.Bytes.{zeros_but, over, equal, part, get16, bytes16, blank}
use Rattle.refusals.specs.declared.Refusal.TheVariants.{Unrecovered}
use Rattle.refusals.specs.Rules.{first}
use Rattle.redo.specs.Store.{apply, run, halfway}
use Rattle.redo.specs.Image.{letters, mark, home, in_range, head_ok, head_page, empty_image}
use Rattle.redo.specs.Entry.{entry, entries, rising, changes, logged, replay}
use Rattle.redo.specs.Stores.{clear_mark, recover_stores, log_stores, commit_stores}
use Rattle.image_log.specs.declared.Stored.TheVariants.{Done, Cut}
use Rattle.image_log.specs.Calls.{Outcome, answer, after, log_ok, recover_rules, recover_plan, commit_rules, commit_plan, any_bytes}
use Rattle.image_log.specs.Book.{Call, commit, recover, allowance, value, plan_of, rest, caught, Seen, seen, trace, final, Book, start, differing, book_rules, judge, commit_need, need_by, recover_need, report, answer_to, logs, told_mark, recovering, committing, book_at, foretold, next, book_after}

image : List ℕ
image = empty_image 1 1 0 0

one : List ℕ
one = set (replicate (64 * 27) 0) 5 7

-- the image, the answers and the book after a list of calls, and what a recovery with stores enough then finds
ends : List Call → List ℕ
ends cs = final any_bytes cs image

said : List Call → List Outcome
said cs = map (λ (s : Seen). s.answered) (trace any_bytes cs image)

book : List Call → Book
book cs = book_after any_bytes 1 cs (start (home image))

found : List ℕ → List ℕ
found x = home (after (recover_plan x) 1000 x)

-- the mark's store caught with 165, with 9, with 0
set165 : List Call
set165 = commit one 68 165 ∷ []

set9 : List Call
set9 = commit one 68 9 ∷ []

set0 : List Call
set0 = commit one 68 0 ∷ []

-- then a recovery cut at its only store, which leaves 165; and the next one cut at its last
through9 : List Call
through9 = commit one 68 9 ∷ recover 0 165 ∷ recover 64 9 ∷ []

-- a home byte caught, and the mark's last store
home77 : List Call
home77 = commit one 70 77 ∷ []

last9 : List Call
last9 = commit one 133 9 ∷ []

-- the calls after a mark told 0, at each of its stores
clear : List Call
clear = commit (home image) 134 0 ∷ []

examples :
    -- 165: the new index is owed, and found
    (mark (ends set165) ≡ 165)
    × ((book set165).owed ≡ 1)
    × (equal (book set165).kept one ≡ true)
    × (equal (home (ends set165)) (home image) ≡ true)
    × (equal (found (ends set165)) one ≡ true)
    × (said (commit one 68 165 ∷ recover 64 165 ∷ recover 65 0 ∷ []) ≡ Ok (Cut 68) ∷ Ok (Cut 64) ∷ Ok (Done 65) ∷ [])
    -- 9: the old index, 3, and one store
    × (mark (ends set9) ≡ 9)
    × ((book set9).owed ≡ 0)
    × (equal (book set9).kept (home image) ≡ true)
    × (equal (found (ends set9)) (home image) ≡ true)
    × (said (commit one 68 9 ∷ commit one 500 0 ∷ recover 0 9 ∷ recover 1 0 ∷ commit one 500 0 ∷ []) ≡ Ok (Cut 68) ∷ Err Unrecovered ∷ Ok (Cut 0) ∷ Ok (Done 1) ∷ Ok (Done 134) ∷ [])
    -- 0: the old index at once
    × (said (commit one 68 0 ∷ recover 0 0 ∷ commit one 134 0 ∷ []) ≡ Ok (Cut 68) ∷ Ok (Done 0) ∷ Ok (Done 134) ∷ [])
    × (equal (home (ends set0)) (home image) ≡ true)
    -- a recovery's one store caught with 165 brings the logged index back, and the last store of that one's recovery spoils the mark again
    × (said through9 ≡ Ok (Cut 68) ∷ Ok (Cut 0) ∷ Ok (Cut 64) ∷ [])
    × (mark (ends through9) ≡ 9)
    × (equal (home (ends through9)) one ≡ true)
    × (equal (book through9).kept one ≡ true)
    × (equal (found (ends through9)) one ≡ true)
    -- a caught home byte is mended; a caught mark at the end leaves the new index
    × (get_or (home (ends home77)) 1 0 ≡ 77)
    × (equal (found (ends home77)) one ≡ true)
    × (equal (home (ends last9)) one ≡ true)
    × (equal (found (ends last9)) one ≡ true)
    -- told 165 there, it is owed again; told 0 at any store of the mark, the next commit goes on
    × (said (commit one 133 165 ∷ recover 65 0 ∷ []) ≡ Ok (Cut 133) ∷ Ok (Done 65) ∷ [])
    × (said (commit one 133 0 ∷ clear) ≡ Ok (Cut 133) ∷ Ok (Done 134) ∷ [])
    × (said (commit one 69 1 ∷ recover 64 0 ∷ clear) ≡ Ok (Cut 69) ∷ Ok (Cut 64) ∷ Ok (Done 134) ∷ [])
    × (said (commit one 68 9 ∷ recover 0 0 ∷ commit one 134 0 ∷ []) ≡ Ok (Cut 68) ∷ Ok (Cut 0) ∷ Ok (Done 134) ∷ [])
unfolding clear ends said book found set165 set9 set0 through9 home77 last9 image one first answer after apply run letters home in_range head_ok entry entries rising changes logged replay head_page empty_image zeros_but clear_mark recover_stores log_ok recover_rules recover_plan log_stores commit_stores commit_rules commit_plan over equal part get16 bytes16 blank halfway allowance value plan_of rest caught seen trace final start differing book_rules judge commit_need need_by recover_need report answer_to logs told_mark recovering committing book_at foretold next book_after
examples = (refl, refl, refl, refl, refl, refl, refl, refl, refl, refl, refl, refl, refl, refl, refl, refl, refl, refl, refl, refl, refl, refl, refl, refl, refl, refl)
