use Rattle.std.proofs.Common.{◌≡◌, true, ℕ, List, refl}
use Rattle.std.specs.Prelude.{IsOk}
use Rattle.refusals.specs.Rules.{first}
use Rattle.redo.specs.Image.{in_range}
use Rattle.image_log.specs.Calls.{Outcome, answer, formattable}
use Rattle.index.specs.Calls.{format_rules, format_plan}
use Rattle.calls.proofs.main.Goals as goal

formatted : (l : List ℕ) (n : ℕ) (o : Outcome) → o ≡ answer (format_plan l 90 64 0) n → formattable l 90 64 122 ≡ true → IsOk o
unfolding format_rules format_plan first answer
formatted l n o v e = rw (v, e) refl

pub unwrap-requires : goal.unwrap-requires
unfolding formattable in_range
unwrap-requires c = formatted _ _ _ c.format.ensures.value refl
