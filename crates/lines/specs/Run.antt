-- An edit that a line names, made and committed.
use Rattle.std.specs.Prelude.{List, [], ℕ, Ok, Err}
use Rattle.std.specs.declared.result.Result.{Result}
use Rattle.refusals.specs.Rules.{number_of, Answer, Ruled, answered, left}
use Rattle.records.specs.declared.Record.{Record}
use Rattle.records.specs.Records.{key}
use Rattle.redo.specs.Image.{home}
use Rattle.image_log.specs.declared.Stored.TheVariants.{Done, Cut}
use Rattle.image_log.specs.Calls.{Outcome, Plan, refuse, answer, after, commit_plan}
use Rattle.home.specs.Sound.{sound}
use Rattle.edits.specs.declared.Terminal.TheVariants.{Desk}
use Rattle.index.specs.Calls.{begin_call, put_call, delete_call, set_call, drop_call}
use Rattle.parse.specs.declared.Word.{Word}
use Rattle.parse.specs.declared.Word.TheVariants.{Put, Del, Set, Drop, Show}
use Rattle.lines.specs.declared.failure.Failure.{Failure}
use Rattle.lines.specs.declared.failure.Failure.TheVariants.{Cut as NotKept, Refused}
use Rattle.parse.specs.declared.Command.{Command}

-- the edit of a workspace; `list` changes nothing
unfoldable pub edit_of : Word → List ℕ → ℕ → Record → Ruled Answer
edit_of Put w t r = put_call Desk w t r
edit_of Del w t r = delete_call w t (key r)
edit_of Set w t r = set_call w t (key r) r.minutes
edit_of Drop w t r = drop_call w t
edit_of Show w t r = record { rules = []; answer = Ok 0; bytes = w }

-- ---- what is replied to an edit: fine, or why it was not made to last

abbrev pub Reply : Type 0
Reply = Result (Unit {0}) Failure

-- the number that is printed
abbrev pub number_told : Failure → ℕ
number_told NotKept = 0
number_told (Refused r) = number_of r

-- ---- "Each edit is committed": with more stores allowed than any commit needs

abbrev pub plenty : ℕ
plenty = 4294967295

-- it is never cut (never_cut in RunLaws)
unfoldable pub outcome_reply : Outcome → Reply
outcome_reply (Ok (Done n)) = Ok tt
outcome_reply (Ok (Cut n)) = Err NotKept
outcome_reply (Err r) = Err (Refused r)

abbrev pub plan_reply : Plan → Reply
plan_reply p = outcome_reply (answer p plenty)

-- a commit by what the edit answers
unfoldable pub unless_refused : Answer → Plan → Plan
unless_refused (Ok n) p = p
unless_refused (Err r) p = refuse r

-- home begun in a workspace and edited there: what is to be committed, and what the workspace holds
abbrev pub run_of : List ℕ → List ℕ → Command → Ruled Plan
run_of l w c =
    let e : Ruled Answer = edit_of c.word (home l) c.tag c.call in
    let edited : List ℕ = left e (home l) in
    record { rules = (begin_call l w).rules; answer = unless_refused (answered Err e) (commit_plan sound l edited); bytes = edited }

unfoldable pub reply_of : List ℕ → List ℕ → Command → Reply
reply_of l w c = plan_reply (answered refuse (run_of l w c))

unfoldable pub image_of : List ℕ → List ℕ → Command → List ℕ
image_of l w c = after (answered refuse (run_of l w c)) plenty l

unfoldable pub left_of : List ℕ → List ℕ → Command → List ℕ
left_of l w c = left (run_of l w c) w
