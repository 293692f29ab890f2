-- Every public call with an answer: its rules, whether it is refused, and the bytes lent to it to write, before and after.
-- (What is lent to be read cannot change; show answers a part of it, empty where a count of the same is refused.)
use Rattle.std.specs.Prelude.{ℕ, Bool, List, [], Ok, Err}
use Rattle.std.specs.declared.result.Result.{Result}
use Rattle.std.proofs.Math.Option.{Option, none, some}
use Rattle.refusals.specs.declared.Refusal.{Refusal}
use Rattle.refusals.specs.Rules.{Rule, answered, left}
use Rattle.merges.specs.declared.Merge.{Merge}
use Rattle.image_log.specs.Calls.{answer, after, commit_rules, commit_plan, recover_rules, recover_plan}
use Rattle.gates.specs.declared.Of.{Of}
use Rattle.gates.specs.Gates.{gate_rules}
use Rattle.reads.specs.Reads.{count_in, rank_in}
use Rattle.reads.specs.Merges.{merge_in}
use Rattle.index.specs.Calls.{begin_call, format_rules, format_plan}
use Rattle.demands.specs.Sequences.{Edit, edit_call, answer_of, made}

-- (a commit by the test of home and workspace that it makes: the index's, or the log's own, which accepts all)
pub data Call : Type 0 where
  begin : List ℕ → List ℕ → Call
  edit : Edit → List ℕ → Call
  count : Of → List ℕ → ℕ → Call
  rank : Of → List ℕ → ℕ → ℕ → Call
  merge : Merge → Of → List ℕ → ℕ → ℕ → List ℕ → Call
  commit : (List ℕ → Bool) → List ℕ → List ℕ → ℕ → Call
  recover : List ℕ → ℕ → Call
  format : List ℕ → ℕ → ℕ → ℕ → ℕ → Call

-- its refusals, in order
unfoldable pub rules_of : Call → List Rule
unfolding begin_call merge_in
rules_of (begin l w) = (begin_call l w).rules
rules_of (edit e w) = (edit_call e w).rules
rules_of (count of bs t) = gate_rules of bs
rules_of (rank of bs t k) = gate_rules of bs
rules_of (merge m of bs t u out) = (merge_in m of bs t u out).rules
rules_of (commit accept l w n) = commit_rules accept l w
rules_of (recover l n) = recover_rules l
rules_of (format l L R step n) = format_rules l L R step

-- the refusal that an answer tells
unfoldable pub refusal_in : {A : Type 0} → Result A Refusal → Option Refusal
refusal_in (Ok a) = none
refusal_in (Err r) = some r

unfoldable pub refused_with : Call → Option Refusal
refused_with (begin l w) = refusal_in (answered Err (begin_call l w))
refused_with (edit e w) = refusal_in (answer_of e w)
refused_with (count of bs t) = refusal_in (count_in of bs t)
refused_with (rank of bs t k) = refusal_in (rank_in of bs t k)
refused_with (merge m of bs t u out) = refusal_in (answered Err (merge_in m of bs t u out))
refused_with (commit accept l w n) = refusal_in (answer (commit_plan accept l w) n)
refused_with (recover l n) = refusal_in (answer (recover_plan l) n)
refused_with (format l L R step n) = refusal_in (answer (format_plan l L R step) n)

-- the bytes lent to write
unfoldable pub lent : Call → List ℕ
lent (begin l w) = w
lent (edit e w) = w
lent (count of bs t) = []
lent (rank of bs t k) = []
lent (merge m of bs t u out) = out
lent (commit accept l w n) = l
lent (recover l n) = l
lent (format l L R step n) = l

unfoldable pub given_back : Call → List ℕ
given_back (begin l w) = left (begin_call l w) w
given_back (edit e w) = made e w
given_back (count of bs t) = []
given_back (rank of bs t k) = []
given_back (merge m of bs t u out) = left (merge_in m of bs t u out) out
given_back (commit accept l w n) = after (commit_plan accept l w) n l
given_back (recover l n) = after (recover_plan l) n l
given_back (format l L R step n) = after (format_plan l L R step) n l
