-- Begin and the edits, each behind the rules of what it is lent, and format.
use Rattle.std.specs.Prelude.{ℕ, not, ◌&&◌, List, [], ◌∷◌, length, leb, eqb, Ok}
use Rattle.std.specs.declared.result.Result.{Result}
use Rattle.refusals.specs.declared.Refusal.{Refusal}
use Rattle.refusals.specs.declared.Refusal.TheVariants.{SpaceLength, Sizes}
use Rattle.refusals.specs.Rules.{Answer, Rule, rule, first, Ruled, behind}
use Rattle.records.specs.declared.Record.{Record}
use Rattle.redo.specs.Image.{home}
use Rattle.redo.specs.Stores.{format_stores}
use Rattle.image_log.specs.Calls.{Plan, refuse, store, formattable}
use Rattle.edits.specs.declared.Terminal.{Terminal}
use Rattle.edits.specs.Edits.{put_in, delete_in, set_in, drop_in}
use Rattle.gates.specs.declared.Of.TheVariants.{Image, Space}
use Rattle.gates.specs.Gates.{gate_rules}

-- what begin answers
abbrev pub Begun : Type 0
Begun = Result (Unit {0}) Refusal

-- "copies home to a workspace of the same length": "6: workspace length doesn't match the image"; it doesn't look at the workspace's old bytes
abbrev pub copied : List ℕ → List ℕ → Ruled Begun
copied h w = record { rules = rule SpaceLength (not (eqb (length w) (length h))) ∷ []; answer = Ok tt; bytes = h }

unfoldable pub begin_call : List ℕ → List ℕ → Ruled Begun
begin_call l w = behind (gate_rules Image l) (copied (home l) w)

-- "Put a record": to a tag's list, from the desk or from the pit
unfoldable pub put_call : Terminal → List ℕ → ℕ → Record → Ruled Answer
put_call by w t r = behind (gate_rules Space w) (put_in by w t r)

-- "delete one": by the key of its primary part
unfoldable pub delete_call : List ℕ → ℕ → ℕ → Ruled Answer
delete_call w t k = behind (gate_rules Space w) (delete_in w t k)

-- "set its minutes"
unfoldable pub set_call : List ℕ → ℕ → ℕ → ℕ → Ruled Answer
set_call w t k m = behind (gate_rules Space w) (set_in w t k m)

-- "drop a tag": with its list
unfoldable pub drop_call : List ℕ → ℕ → Ruled Answer
drop_call w t = behind (gate_rules Space w) (drop_in w t)

-- "Format takes the code", and stores it as home's byte 122; "It refuses a code other than 0 and 1 with 14 at format"
unfoldable pub format_rules : List ℕ → ℕ → ℕ → ℕ → List Rule
format_rules l L R step = rule Sizes (not (leb step 1 && formattable l L R 122)) ∷ []

unfoldable pub format_plan : List ℕ → ℕ → ℕ → ℕ → Plan
format_plan l L R step = first refuse (format_rules l L R step) (store (format_stores L R 122 step))
