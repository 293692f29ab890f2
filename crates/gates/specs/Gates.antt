-- What a call meets before it does anything: the refusals that whoever lends the bytes can cause; and where home lies in them.
use Rattle.std.specs.Prelude.{ℕ, not, List, [], ◌∷◌, Ok, Err}
use Rattle.std.specs.declared.result.Result.{Result}
use Rattle.refusals.specs.declared.Refusal.{Refusal}
use Rattle.refusals.specs.declared.Refusal.TheVariants.{SpaceLength, UnsoundSpace}
use Rattle.refusals.specs.Rules.{Rule, rule, first}
use Rattle.redo.specs.Image.{home, home_at}
use Rattle.image_log.specs.Calls.{image_rules}
use Rattle.home.specs.Sound.{sized, sound}
use Rattle.gates.specs.declared.Of.{Of}
use Rattle.gates.specs.declared.Of.TheVariants.{Image, Space}

-- an image: 1, 3, then "5: home not sound". A workspace lent alone: "6: .. is no 64(26 + R)", "7: workspace not sound"
unfoldable pub gate_rules : Of → List ℕ → List Rule
unfolding image_rules
gate_rules Image l = image_rules sound l
gate_rules Space w = rule SpaceLength (not (sized w)) ∷ rule UnsoundSpace (not (sound w)) ∷ []

-- whether they let the call go on: Ok, or the refusal
abbrev pub gated : List Rule → Result (Unit {0}) Refusal
gated rs = first Err rs (Ok tt)

-- home's bytes, and where they begin
unfoldable pub home_in : Of → List ℕ → List ℕ
home_in Image l = home l
home_in Space w = w

unfoldable pub home_from : Of → List ℕ → ℕ
home_from Image l = home_at l
home_from Space w = 0
