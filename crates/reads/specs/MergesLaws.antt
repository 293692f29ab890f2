-- The answers of a merge.
use Rattle.std.specs.Prelude.{◌≡◌, true, ℕ, ◌*◌, ◌≤◌, ◌<◌, Ok, Err}
use Rattle.std.proofs.Common.{ap, ap₂, ◌∙◌, le-ltb, lt-ltb}
use mathlib.Core.List.{List, []}
use Rattle.std.proofs.Math.ListN.{length}
use Rattle.std.proofs.Math.Option.{none, some}
use Rattle.wire.specs.Bytes.{over}
use Rattle.refusals.specs.declared.Refusal.{Refusal}
use Rattle.refusals.specs.declared.Refusal.TheVariants.{OutputShort}
use Rattle.refusals.specs.Rules.{Answer, first, refusal, answered, left}
use Rattle.refusals.specs.RulesLaws.{refused_here, passed_one, is_refused, is_done, gate_refuses, gate_opens}
use Rattle.records.specs.declared.Record.{Record}
use Rattle.merges.specs.declared.Merge.{Merge}
use Rattle.records.specs.Records.{encode, decode}
use Rattle.merges.specs.Merging.{merge}
use Rattle.home.specs.Sound.{sound, list_of}
use Rattle.gates.specs.declared.Of.{Of}
use Rattle.gates.specs.Gates.{gate_rules, home_in}
use Rattle.gates.specs.GatesLaws.{home_fine}
use Rattle.reads.specs.Reads.{list_in}
use Rattle.reads.specs.ReadsLaws.{list_reads}
use Rattle.reads.specs.Merges.{written, merge_in}

-- a merge of what was read is the merge of the two lists
pub merged_is : (m : Merge) (h : List ℕ) (t u : ℕ) (xs ys : List ℕ) → sound h ≡ true → xs ≡ encode (list_of h t) → ys ≡ encode (list_of h u)
    → merge m (decode xs) (decode ys) ≡ merge m (list_of h t) (list_of h u)
merged_is m h t u xs ys e f g = ap₂ (merge m) (list_reads h t xs e f) (list_reads h u ys e g)

module _ (rs : List Record) (out : List ℕ) where
  pub written-not : length out < 8 * length rs → (Err OutputShort ≡ answered Err (written rs out)) × (out ≡ left (written rs out) out)
  written-not g = is_refused Err (written rs out) out OutputShort (refused_here OutputShort _ [] (lt-ltb (length out) (8 * length rs) g))

  pub written_all : (n : ℕ) (out' : List ℕ) → 8 * length rs ≤ length out → n ≡ length rs → out' ≡ over out 0 (encode rs) → (Ok n ≡ answered Err (written rs out)) × (out' ≡ left (written rs out) out)
  unfolding first
  written_all n out' g e f =
      let d = is_done Err (written rs out) out (passed_one OutputShort _ [] (le-ltb (length out) (8 * length rs) g)) in
      (ap Ok e ∙ d.0, f ∙ d.1)

-- behind the gate
pub merged_open : (m : Merge) (of : Of) (bs : List ℕ) (t u : ℕ) (out : List ℕ) → refusal (gate_rules of bs) ≡ none → (h xs ys : List ℕ) → h ≡ home_in of bs → xs ≡ encode (list_of h t) → ys ≡ encode (list_of h u) → (a : Answer) (out' : List ℕ)
    → (a ≡ answered Err (written (merge m (decode xs) (decode ys)) out)) × (out' ≡ left (written (merge m (decode xs) (decode ys)) out) out)
    → (a ≡ answered Err (merge_in m of bs t u out)) × (out' ≡ left (merge_in m of bs t u out) out)
unfolding merge_in
merged_open m of bs t u out p h xs ys same ex ey a out' d =
    let fine : sound h ≡ true = ap sound same ∙ home_fine of bs p in
    let q : merge m (decode xs) (decode ys) ≡ merge m (list_in of bs t) (list_in of bs u) = merged_is m h t u xs ys fine ex ey ∙ ap (λ (x : List ℕ). merge m (list_of x t) (list_of x u)) same in
    gate_opens Err (written (merge m (list_in of bs t) (list_in of bs u)) out) out (gate_rules of bs) a out' p (rw (← q) d)

pub merged-refused : (m : Merge) (of : Of) (bs : List ℕ) (t u : ℕ) (out : List ℕ) (r : Refusal) → refusal (gate_rules of bs) ≡ some r → (Err r ≡ answered Err (merge_in m of bs t u out)) × (out ≡ left (merge_in m of bs t u out) out)
unfolding merge_in
merged-refused m of bs t u out r e = gate_refuses Err (written (merge m (list_in of bs t) (list_in of bs u)) out) out (gate_rules of bs) r e
