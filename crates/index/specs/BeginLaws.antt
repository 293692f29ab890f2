-- What begin answers and leaves.
use Rattle.std.specs.Prelude.{◌≡◌, ℕ, length, Ok, Err}
use Rattle.std.proofs.Common.{ap, ◌∙◌, eq-eqb, ne_eqb}
use Rattle.std.proofs.Math.Bool.{not}
use mathlib.Core.List.{List, []}
use Rattle.std.proofs.Math.Option.{none, some}
use Rattle.refusals.specs.declared.Refusal.{Refusal}
use Rattle.refusals.specs.declared.Refusal.TheVariants.{SpaceLength}
use Rattle.refusals.specs.Rules.{first, refusal, answered, left}
use Rattle.refusals.specs.RulesLaws.{refused_here, passed_one, is_refused, is_done, gate_opens, gate_refuses}
use Rattle.redo.specs.Image.{home}
use Rattle.gates.specs.declared.Of.TheVariants.{Image}
use Rattle.gates.specs.Gates.{gate_rules}
use Rattle.index.specs.Calls.{copied, begin_call}

module _ (l w : List ℕ) where
  pub begin_done : (w' : List ℕ) → refusal (gate_rules Image l) ≡ none → length w ≡ length (home l) → w' ≡ home l → (Ok tt ≡ answered Err (begin_call l w)) × (w' ≡ left (begin_call l w) w)
  unfolding begin_call first
  begin_done w' g e f =
      let d = is_done Err (copied (home l) w) w (passed_one SpaceLength _ [] (ap not (eq-eqb (length w) (length (home l)) e))) in
      gate_opens Err (copied (home l) w) w (gate_rules Image l) (Ok tt) w' g (d.0, f ∙ d.1)

  pub begin_length : refusal (gate_rules Image l) ≡ none → (length w ≡ length (home l) → ⊥) → (Err SpaceLength ≡ answered Err (begin_call l w)) × (w ≡ left (begin_call l w) w)
  unfolding begin_call
  begin_length g f =
      gate_opens Err (copied (home l) w) w (gate_rules Image l) (Err SpaceLength) w g
      (is_refused Err (copied (home l) w) w SpaceLength (refused_here SpaceLength _ [] (ap not (ne_eqb (length w) (length (home l)) f))))

  pub begin_refused : (r : Refusal) → refusal (gate_rules Image l) ≡ some r → (Err r ≡ answered Err (begin_call l w)) × (w ≡ left (begin_call l w) w)
  unfolding begin_call
  begin_refused r e = gate_refuses Err (copied (home l) w) w (gate_rules Image l) r e
