-- A commit's plan with soundness as the test, by what the code finds.
use Rattle.std.specs.Prelude.{◌≡◌, true, false, not, ℕ, ◌*◌, List, [], ◌∷◌, length, eqb, ltb}
use Rattle.std.proofs.Math.Path.{sym}
use Rattle.std.proofs.Common.{◌∙◌, eq-eqb, ne_eqb}
use Rattle.std.proofs.Math.Option.{none, some}
use Rattle.refusals.specs.declared.Refusal.{Refusal}
use Rattle.refusals.specs.declared.Refusal.TheVariants.{SpaceLength, UnsoundSpace, LogShort}
use Rattle.refusals.specs.Rules.{Rule, rule, first, refusal}
use Rattle.refusals.specs.RulesLaws.{first-behind, first-refused, first_passed, refused-before}
use Rattle.redo.specs.Image.{capacity, pages, home_at, home}
use Rattle.redo.specs.ImageLaws.{head_right, length-home}
use Rattle.redo.specs.Stores.{commit_stores}
use Rattle.image_log.specs.Calls.{Plan, refuse, store, changed_pages, image_rules, commit_rules, commit_plan, any_bytes}
use Rattle.home.specs.Sound.{sound}
use Rattle.gates.specs.declared.Of.TheVariants.{Image}
use Rattle.gates.specs.Gates.{gate_rules}
use Rattle.gates.specs.GatesLaws.{image_open}

module _ (l w : List ℕ) where
  abbrev stores : Plan
  stores = store (commit_stores (home_at l) (changed_pages l w))

  -- 1, 3 and 5
  pub commit_refused : (r : Refusal) → refusal (gate_rules Image l) ≡ some r → commit_plan sound l w ≡ refuse r
  unfolding commit_plan commit_rules gate_rules
  commit_refused r e = first-refused refuse (commit_rules sound l w) r stores (refused-before (gate_rules Image l) _ r e)

  module _ (passed : refusal (gate_rules Image l) ≡ none) where
    pub home-length : length (home l) ≡ 64 * pages l
    home-length = length-home l (head_right l (image_open l passed).head)

    -- 6, 7 and 13 are left
    abbrev others : List Rule
    others = rule SpaceLength (not (eqb (length w) (64 * pages l))) ∷ rule UnsoundSpace (not (sound w)) ∷ rule LogShort (ltb (capacity l) (length (changed_pages l w))) ∷ []

    opened : commit_plan sound l w ≡ first refuse others stores
    unfolding commit_plan commit_rules gate_rules
    opened = first-behind refuse (gate_rules Image l) others stores ∙ first_passed refuse (gate_rules Image l) (first refuse others stores) passed

    pub commit_length : (length w ≡ length (home l) → ⊥) → commit_plan sound l w ≡ refuse SpaceLength
    unfolding first
    commit_length f = opened ∙ rw (ne_eqb (length w) (64 * pages l) (λ e. f (e ∙ sym home-length)))

    pub commit_unsound : length w ≡ length (home l) → sound w ≡ false → commit_plan sound l w ≡ refuse UnsoundSpace
    unfolding first
    commit_unsound e t = opened ∙ rw (eq-eqb (length w) (64 * pages l) (e ∙ home-length), t)

    -- nothing but the log's own tests is left
    pub commit_passes : sound w ≡ true → commit_plan any_bytes l w ≡ commit_plan sound l w
    unfolding commit_plan commit_rules image_rules
    commit_passes t = rw ((image_open l passed).fine, t)
