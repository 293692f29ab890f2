-- The specification's starred bench cases, 1 to 10: one table, computed from the definitions that the calls' contracts cite.
use Rattle.std.specs.Prelude.{Ok, Err, List, [], ◌∷◌, map, ℕ, ◌+◌, replicate}
use Rattle.std.specs.declared.result.Result.{Result}
use Rattle.wire.specs.Bytes.{pick, equal}
use Rattle.refusals.specs.declared.Refusal.{Refusal}
use Rattle.refusals.specs.declared.Refusal.TheVariants.{LogShort, NoRoom}
use Rattle.refusals.specs.Rules.{Answer, answered, left}
use Rattle.records.specs.declared.Record.{Record}
use Rattle.records.specs.Records.{key}
use Rattle.redo.specs.Image.{home, image_length}
use Rattle.redo.specs.Entry.{Entry}
use Rattle.image_log.specs.declared.Stored.TheVariants.{Done, Cut}
use Rattle.image_log.specs.Calls.{Outcome, Plan, answer, after, recover_plan, changed_pages, commit_plan}
use Rattle.home.specs.Bytes.{step_of, Spot, spots, decode}
use Rattle.home.specs.Sound.{sound}
use Rattle.gates.specs.declared.Of.TheVariants.{Image}
use Rattle.reads.specs.Reads.{count_in}
use Rattle.edits.specs.declared.Terminal.TheVariants.{Desk}
use Rattle.index.specs.Calls.{begin_call, put_call, delete_call, drop_call, format_plan}

-- ---- what a row says

-- what is done. Starting: format with this L and R = 2, and begin. Putting, deleting: a tag, and the second of the record. Dropping: a tag.
-- Comparing: workspace and home. Committing: an allowance. Recovering: commit with an allowance, recover, count a tag's list.
pub data Call : Type 0 where
  starting : ℕ → Call
  putting : ℕ → ℕ → Call
  deleting : ℕ → ℕ → Call
  dropping : ℕ → Call
  comparing : Call
  committing : ℕ → Call
  recovering : ℕ → ℕ → Call

-- a block: its tag, first cell and class
pub data Lies : Type 0 where
  lies : ℕ → ℕ → ℕ → Lies

-- the home that a recovery leaves: as it was before the commit, or the workspace
pub data Found : Type 0 where
  old : Found
  new : Found
  neither : Found

-- what comes of it: begin's answer, or an edit's, and all blocks by cell; the pages that differ; a commit's answer;
-- a commit's answer, the home that the recovery leaves, and the count
pub data Effect : Type 0 where
  began : Result (Unit {0}) Refusal → List Lies → Effect
  edited : Answer → List Lies → Effect
  differ : List ℕ → Effect
  committed : Outcome → Effect
  recovered : Outcome → Found → Answer → Effect

pub record Row : Type 0 where
  pub case : ℕ
  pub call : Call
  pub gives : Effect

abbrev pub row : ℕ → Call → Effect → Row
row k c g = record { case = k; call = c; gives = g }

-- ---- what the definitions give

-- an image and a workspace
pub record State : Type 0 where
  pub image : List ℕ
  pub space : List ℕ

-- the record of a second
unfoldable pub of : ℕ → Record
of n = record { level = 0; second = n; phone = 0; minutes = 0 }

-- bytes to format, and to begin with: all 255
unfoldable pub used : ℕ → List ℕ
used L = replicate (image_length L 2) 255

unfoldable pub lent : List ℕ
lent = replicate 1792 255

-- "a fresh image": what format leaves
unfoldable pub fresh : ℕ → List ℕ
fresh L = after (format_plan (used L) L 2 0) (image_length L 2 + 1) (used L)

-- a workspace's blocks
unfoldable pub laid : List ℕ → List Lies
laid w = map (λ (s : Spot). lies s.block.tag s.cell s.class) (spots (step_of w) 0 (decode w))

-- an image after a recovery with stores enough
unfoldable pub mended : List ℕ → List ℕ
mended l = after (recover_plan l) 1000 l

-- whether bytes are home h or workspace w
unfoldable pub which : List ℕ → List ℕ → List ℕ → Found
which h w x = pick (equal x h) old (pick (equal x w) new neither)

-- a commit's answer, and what is seen in the image l afterwards: which home, h or w, and how many records tag t has
unfoldable pub seen : Outcome → List ℕ → List ℕ → ℕ → List ℕ → Effect
seen a h w t l = recovered a (which h w (home l)) (count_in Image l t)

-- the state after a call; `fresh` gives the image that a format leaves. Each commit is tried on the same image
unfoldable pub next : (ℕ → List ℕ) → Call → State → State
next fresh (starting L) s = let l : List ℕ = fresh L in record { image = l; space = left (begin_call l lent) lent }
next fresh (putting t n) s = record { image = s.image; space = left (put_call Desk s.space t (of n)) s.space }
next fresh (deleting t n) s = record { image = s.image; space = left (delete_call s.space t (key (of n))) s.space }
next fresh (dropping t) s = record { image = s.image; space = left (drop_call s.space t) s.space }
next fresh comparing s = s
next fresh (committing n) s = s
next fresh (recovering n t) s = s

-- what a call gives, by the states before and after it
unfoldable pub result : Call → State → State → Effect
result (starting L) s s' = began (answered Err (begin_call s'.image lent)) (laid s'.space)
result (putting t n) s s' = edited (answered Err (put_call Desk s.space t (of n))) (laid s'.space)
result (deleting t n) s s' = edited (answered Err (delete_call s.space t (key (of n)))) (laid s'.space)
result (dropping t) s s' = edited (answered Err (drop_call s.space t)) (laid s'.space)
result comparing s s' = differ (map (λ (e : Entry). e.page) (changed_pages s.image s.space))
result (committing n) s s' = committed (answer (commit_plan sound s.image s.space) n)
result (recovering n t) s s' =
    let p : Plan = commit_plan sound s.image s.space in
    seen (answer p n) (home s.image) s.space t (mended (after p n s.image))

-- the rows' calls, one after another, each with what it gives; what a row says that it gives is not looked at
unfoldable pub follow : (ℕ → List ℕ) → List Row → State → List Row
follow fresh [] s = []
follow fresh (r ∷ rs) s =
    let s' : State = next fresh r.call s in
    row r.case r.call (result r.call s s') ∷ follow fresh rs s'

-- ---- the table

unfoldable pub expected : List Row
expected =
    -- "R = 2 (16 cells), one edit after another."
    row 1 (starting 28) (began (Ok tt) []) ∷
    -- 1. "Put to tag 7, then tag 9: blocks at cells 0 and 5."
    row 1 (putting 7 1) (edited (Ok 1) (lies 7 0 0 ∷ [])) ∷
    row 1 (putting 9 1) (edited (Ok 1) (lies 7 0 0 ∷ lies 9 5 0 ∷ [])) ∷
    -- 2. "Tag 7's fifth record: 9 is at 0, 7 at 5 in class 1."
    row 2 (putting 7 2) (edited (Ok 2) (lies 7 0 0 ∷ lies 9 5 0 ∷ [])) ∷
    row 2 (putting 7 3) (edited (Ok 3) (lies 7 0 0 ∷ lies 9 5 0 ∷ [])) ∷
    row 2 (putting 7 4) (edited (Ok 4) (lies 7 0 0 ∷ lies 9 5 0 ∷ [])) ∷
    row 2 (putting 7 5) (edited (Ok 5) (lies 9 0 0 ∷ lies 7 5 1 ∷ [])) ∷
    -- 3. "Put to tag 11: 9 at 0, 11 at 5, 7 at 10. The area is full."
    row 3 (putting 11 1) (edited (Ok 1) (lies 9 0 0 ∷ lies 11 5 0 ∷ lies 7 10 1 ∷ [])) ∷
    -- 4. "Put to tag 13: 12."
    row 4 (putting 13 1) (edited (Err NoRoom) (lies 9 0 0 ∷ lies 11 5 0 ∷ lies 7 10 1 ∷ [])) ∷
    -- 5. "Delete one of 7: it stays at 10 in class 0. Put to 13: still 12."
    row 5 (deleting 7 3) (edited (Ok 4) (lies 9 0 0 ∷ lies 11 5 0 ∷ lies 7 10 0 ∷ [])) ∷
    row 5 (putting 13 1) (edited (Err NoRoom) (lies 9 0 0 ∷ lies 11 5 0 ∷ lies 7 10 0 ∷ [])) ∷
    -- 6. "Drop 9: 7 moves to 0. Put to 13: cell 10."
    row 6 (dropping 9) (edited (Ok 0) (lies 7 0 0 ∷ lies 11 5 0 ∷ [])) ∷
    row 6 (putting 13 1) (edited (Ok 1) (lies 7 0 0 ∷ lies 11 5 0 ∷ lies 13 10 0 ∷ [])) ∷
    -- 7. "Two class 0 blocks at 0 and 5, class 1 at 10. Drop the first: class 1 stays. Drop the other too: it starts at 4."
    row 7 (putting 13 2) (edited (Ok 2) (lies 7 0 0 ∷ lies 11 5 0 ∷ lies 13 10 0 ∷ [])) ∷
    row 7 (putting 13 3) (edited (Ok 3) (lies 7 0 0 ∷ lies 11 5 0 ∷ lies 13 10 0 ∷ [])) ∷
    row 7 (putting 13 4) (edited (Ok 4) (lies 7 0 0 ∷ lies 11 5 0 ∷ lies 13 10 0 ∷ [])) ∷
    row 7 (putting 13 5) (edited (Ok 5) (lies 7 0 0 ∷ lies 11 5 0 ∷ lies 13 10 1 ∷ [])) ∷
    row 7 (dropping 7) (edited (Ok 0) (lies 11 0 0 ∷ lies 13 10 1 ∷ [])) ∷
    row 7 (dropping 11) (edited (Ok 0) (lies 13 4 1 ∷ [])) ∷
    -- 8. "First put to tag 7 on a fresh image, L = 28: pages 0, 2, 26 differ, 394 stores. Cut after 200: old. After 201: new."
    row 8 (starting 28) (began (Ok tt) []) ∷
    row 8 (putting 7 1) (edited (Ok 1) (lies 7 0 0 ∷ [])) ∷
    row 8 comparing (differ (0 ∷ 2 ∷ 26 ∷ [])) ∷
    row 8 (committing 393) (committed (Ok (Cut 393))) ∷
    row 8 (recovering 394 7) (recovered (Ok (Done 394)) new (Ok 1)) ∷
    row 8 (recovering 200 7) (recovered (Ok (Cut 200)) old (Ok 0)) ∷
    row 8 (recovering 201 7) (recovered (Ok (Cut 201)) new (Ok 1)) ∷
    -- 9. "The same with tag 0: page 2 doesn't change, 264 stores."
    row 9 (starting 28) (began (Ok tt) []) ∷
    row 9 (putting 0 1) (edited (Ok 1) (lies 0 0 0 ∷ [])) ∷
    row 9 comparing (differ (0 ∷ 26 ∷ [])) ∷
    row 9 (committing 263) (committed (Ok (Cut 263))) ∷
    row 9 (committing 264) (committed (Ok (Done 264))) ∷
    -- 10. "Case 8 with L = 2: 13."
    row 10 (starting 2) (began (Ok tt) []) ∷
    row 10 (putting 7 1) (edited (Ok 1) (lies 7 0 0 ∷ [])) ∷
    row 10 comparing (differ (0 ∷ 2 ∷ 26 ∷ [])) ∷
    row 10 (committing 394) (committed (Err LogShort)) ∷
    []

-- what the definitions give for its calls; at first there is nothing
abbrev pub nothing : State
nothing = record { image = []; space = [] }

unfoldable pub table : List Row
table = follow fresh expected nothing
