-- Both, either and first-without-second of two lists.
use Rattle.std.specs.Prelude.{ℕ, ◌*◌, List, [], ◌∷◌, length, ltb, Ok}
use Rattle.wire.specs.Bytes.{over}
use Rattle.refusals.specs.declared.Refusal.TheVariants.{OutputShort}
use Rattle.refusals.specs.Rules.{Answer, rule, Ruled, behind}
use Rattle.records.specs.declared.Record.{Record}
use Rattle.merges.specs.declared.Merge.{Merge}
use Rattle.records.specs.Records.{encode}
use Rattle.merges.specs.Merging.{merge}
use Rattle.gates.specs.declared.Of.{Of}
use Rattle.gates.specs.Gates.{gate_rules}
use Rattle.reads.specs.Reads.{list_in}

-- "15: output shorter than the records to write"; "Answer: the number of records. Bytes beyond them stay."
abbrev pub written : List Record → List ℕ → Ruled Answer
written rs out = record { rules = rule OutputShort (ltb (length out) (8 * length rs)) ∷ []; answer = Ok (length rs); bytes = over out 0 (encode rs) }

-- of two tags' lists in what is lent
unfoldable pub merge_in : Merge → Of → List ℕ → ℕ → ℕ → List ℕ → Ruled Answer
merge_in m of bs t u out = behind (gate_rules of bs) (written (merge m (list_in of bs t) (list_in of bs u)) out)
