-- A format's plan by its step code: refused, or the log's with the code as home's byte 122.
use Rattle.std.specs.Prelude.{◌≡◌, ℕ, ◌≤◌, ◌<◌, List}
use Rattle.std.proofs.lemmas.Bool.{lt-leb}
use Rattle.std.proofs.Common.{le-leb}
use Rattle.refusals.specs.declared.Refusal.TheVariants.{Sizes}
use Rattle.refusals.specs.Rules.{first}
use Rattle.image_log.specs.Calls.{refuse, format_rules as rules_of, format_plan as plan_of}
use Rattle.index.specs.Calls.{format_rules, format_plan}

module _ (l : List ℕ) (L R step : ℕ) where
  pub format_uncoded : 1 < step → format_plan l L R step ≡ refuse Sizes
  unfolding format_plan format_rules first
  format_uncoded g = rw (lt-leb step 1 g)

  pub format_coded : step ≤ 1 → format_plan l L R step ≡ plan_of l L R 122 step
  unfolding format_plan format_rules first plan_of rules_of
  format_coded g = rw (le-leb step 1 g)
