-- Edits one after another in a workspace, and turns of begin, edits and commit at an image.
use Rattle.std.specs.Prelude.{◌≡◌, List, [], ◌∷◌, ◌++◌, map, ℕ, ◌<◌, Ok, Err}
use Rattle.refusals.specs.Rules.{first, Ruled, answered, left, Answer}
use Rattle.records.specs.declared.Record.{Record}
use Rattle.records.specs.Records.{Fits, insert, remove, amend}
use Rattle.image_log.specs.Book.{Call, commit, recover, final}
use Rattle.home.specs.Sound.{sound}
use Rattle.edits.specs.declared.Terminal.{Terminal}
use Rattle.index.specs.Calls.{begin_call, put_call, delete_call, set_call, drop_call}

-- ---- an edit

-- with a record to put, or the key of a record's primary part
pub data Edit : Type 0 where
  put : Terminal → ℕ → Record → Edit
  delete : ℕ → ℕ → Edit
  set_minutes : ℕ → ℕ → ℕ → Edit
  drop_tag : ℕ → Edit

-- as the contracts have it
unfoldable pub edit_call : Edit → List ℕ → Ruled Answer
edit_call (put by t r) w = put_call by w t r
edit_call (delete t k) w = delete_call w t k
edit_call (set_minutes t k m) w = set_call w t k m
edit_call (drop_tag t) w = drop_call w t

abbrev pub answer_of : Edit → List ℕ → Answer
answer_of e w = answered Err (edit_call e w)

-- the workspace after it
abbrev pub made : Edit → List ℕ → List ℕ
made e w = left (edit_call e w) w

-- its tag, and what it makes of the tag's list where it is not refused
unfoldable pub tag_of : Edit → ℕ
tag_of (put by t r) = t
tag_of (delete t k) = t
tag_of (set_minutes t k m) = t
tag_of (drop_tag t) = t

unfoldable pub list_by : Edit → List Record → List Record
list_by (put by t r) rs = insert r rs
list_by (delete t k) rs = remove k rs
list_by (set_minutes t k m) rs = amend k m rs
list_by (drop_tag t) rs = []

-- its numbers are as the calls take them
abbrev pub Ranged : Edit → Type 0
Ranged (put by t r) = (t < 4294967296) × Fits r
Ranged (delete t k) = t < 4294967296
Ranged (set_minutes t k m) = (t < 4294967296) × (m < 256)
Ranged (drop_tag t) = t < 4294967296

-- ---- a sequence of edits in one workspace

-- an edit, and the workspace that it meets
pub record Event : Type 0 where
  pub edit : Edit
  pub space : List ℕ

abbrev pub RangedIn : Event → Type 0
RangedIn v = Ranged v.edit

-- it is not refused
abbrev pub Accepted : Event → Type 0
Accepted v = (n : ℕ) × (answer_of v.edit v.space ≡ Ok n)

unfoldable pub events : List Edit → List ℕ → List Event
events [] w = []
events (e ∷ es) w = record { edit = e; space = w } ∷ events es (made e w)

unfoldable pub answers : List Edit → List ℕ → List Answer
answers es w = map (λ (v : Event). answer_of v.edit v.space) (events es w)

-- the workspace after all of them
unfoldable pub through : List Edit → List ℕ → List ℕ
through [] w = w
through (e ∷ es) w = through es (made e w)

-- ---- turns at an image

-- A turn of either terminal begins in the workspace lent, edits it and commits it. The commit and a recovery each have an allowance,
-- and the value found in the byte of the next store if it is cut.
pub data Turn : Type 0 where
  turn : List ℕ → List Edit → ℕ → ℕ → Turn
  recovery : ℕ → ℕ → Turn

-- where begin is refused, nothing is edited and nothing committed
unfoldable pub events_at : Turn → List ℕ → List Event
events_at (turn w es n v) l = first (λ r. []) (begin_call l w).rules (events es (left (begin_call l w) w))
events_at (recovery n v) l = []

unfoldable pub calls_at : Turn → List ℕ → List Call
calls_at (turn w es n v) l = first (λ r. []) (begin_call l w).rules (commit (through es (left (begin_call l w) w)) n v ∷ [])
calls_at (recovery n v) l = recover n v ∷ []

-- the image after a turn, and after all
abbrev pub turned : Turn → List ℕ → List ℕ
turned u l = final sound (calls_at u l) l

unfoldable pub after_turns : List Turn → List ℕ → List ℕ
after_turns [] l = l
after_turns (u ∷ us) l = after_turns us (turned u l)

unfoldable pub all_events : List Turn → List ℕ → List Event
all_events [] l = []
all_events (u ∷ us) l = events_at u l ++ all_events us (turned u l)
